-- `rules::padded` meets its contract.
-- Assumes nothing.
use native.Mathlib.Omega.{arith}
use Prim.Native.Nat.{ℕ}
use mathlib.Core.Path.{refl}
use lib.ListN.{replicate, length-replicate}
use Rattle.rules.proofs.Starting.{copied}
use Rattle.rules.proofs.padded.Goals as goal

pub returns : goal.returns
returns g c = copied (replicate g.row.N 0) _ _ 0 _ c.copy_from_slice.ensures.after refl (omega (arith, length-replicate {A = ℕ} g.row.N 0))

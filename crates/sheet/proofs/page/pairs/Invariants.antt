-- `sheet::page::pairs` meets its contract. Assumes nothing.
use Prim.Native.Nat.{ℕ, ◌<◌}
use lib.ListN.{length, get_or}
use mathlib.Core.Path.{◌≡◌}
use Rattle.sheet.specs.Digits.{pair_of}
use Rattle.sheet.proofs.page.pairs.Given as goal

abbrev pub invariant-loop-i : goal.invariant-loop-i
invariant-loop-i l = (length l.pair-items ≡ 256) × ((k : ℕ) → k < l.i → get_or l.pair-items k 0 ≡ pair_of k)

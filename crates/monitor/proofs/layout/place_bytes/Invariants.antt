-- `monitor::layout::place_bytes` meets its contract.
-- Assumes nothing.
use Prim.Native.Nat.{ℕ, ◌+◌, ◌<◌}
use lib.ListN.{get_or, drop}
use lib.Seq.{sets}
use mathlib.Core.Path.{◌≡◌}
use Rattle.monitor.proofs.layout.place_bytes.Given as goal

abbrev pub invariant-loop-i : goal.invariant-loop-i
invariant-loop-i l = (sets l.initial.layout l.at l.bytes ≡ sets l.layout (l.at + l.i) (drop l.i l.bytes)) × ((j : ℕ) → j < l.i → get_or l.bytes j 0 < 256)

-- `monitor::layout::place_numbers` meets its contract.
-- Assumes nothing.
use Prim.Native.Nat.{◌+◌}
use lib.ListN.{drop}
use lib.Seq.{sets}
use mathlib.Core.Path.{◌≡◌}
use Rattle.monitor.proofs.layout.place_numbers.Given as goal

abbrev pub invariant-loop-i : goal.invariant-loop-i
invariant-loop-i l = sets l.initial.layout l.at l.numbers ≡ sets l.layout (l.at + l.i) (drop l.i l.numbers)

-- `monitor::marks::past_quiet` meets its contract.
-- Assumes nothing.
use Prim.Native.Nat.{◌-◌}
use mathlib.Core.Path.{◌≡◌}
use Rattle.monitor.specs.Ticks.{first_marked}
use Rattle.monitor.proofs.marks.past_quiet.Given as goal

abbrev pub invariant-loop-start : goal.invariant-loop-start
invariant-loop-start l = first_marked l.marks (l.to - l.from) l.from ≡ first_marked l.marks (l.to - l.start) l.start

abbrev pub decreases-loop-start : goal.decreases-loop-start
decreases-loop-start l = l.to - l.start

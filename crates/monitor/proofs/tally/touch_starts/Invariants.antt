-- `monitor::tally::touch_starts` meets its contract.
-- Assumes nothing.
use mathlib.Core.List.{List}
use Prim.Native.Nat.{ℕ, ◌-◌}
use Rattle.monitor.specs.Ticks.{own_in}
use Rattle.monitor.specs.Tally.{counts_by, touch_starts}
use Rattle.monitor.proofs.TallySteps.{Toward}
use Rattle.monitor.proofs.tally.touch_starts.Given as goal

abbrev pub invariant-loop-monitor : goal.invariant-loop-monitor
invariant-loop-monitor l = (T P L : List ℕ) → Toward (touch_starts (counts_by T P l.costs L) (own_in l.layout) l.marks l.monitors 0) l.count (touch_starts (counts_by T P l.costs L) (own_in l.layout) l.marks (l.monitors - l.monitor) l.monitor)

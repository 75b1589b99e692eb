-- `monitor::positions::end_by` meets its contract.
-- Assumes nothing.
use native.Mathlib.Omega.{arith}
use Rattle.monitor.proofs.TickSteps.{end-before, end_last}
use Rattle.monitor.proofs.positions.end_by.Goals as goal

pub returns-then-monitor-ge31 : goal.returns-then-monitor-ge31
returns-then-monitor-ge31 c = let a = c.args in end_last a.monitors a.letters a.monitor a.next _ (omega arith) c.min.ensures

pub returns-then-monitor-monitors : goal.returns-then-monitor-monitors
returns-then-monitor-monitors c = let a = c.args in end-before a.monitors a.letters a.monitor a.next _ (omega arith) c.if-monitor-monitors.true c.min-then-monitor-monitors.ensures

pub returns : goal.returns
returns c = let a = c.args in end_last a.monitors a.letters a.monitor a.next _ (omega arith) c.min-2.ensures

-- `monitor::tally::touch_start` meets its contract.
-- Assumes nothing.
use Rattle.monitor.specs.Ticks.{own_in}
use Rattle.monitor.specs.Tally.{counts_by}
use Rattle.monitor.proofs.TallySteps.{not-at-start, at_start}
use Rattle.monitor.proofs.tally.touch_start.Goals as goal

pub returns-then-marks-monitor-eq0 : goal.returns-then-marks-monitor-eq0
returns-then-marks-monitor-eq0 c T P L = let a = c.args in not-at-start (counts_by T P a.costs.now L) (own_in a.layout.now) a.marks.now a.monitor c.if-marks-monitor-eq0.true

pub returns : goal.returns
returns c T P L =
    let a = c.args in
    at_start (counts_by T P a.costs.now L) (own_in a.layout.now) a.marks.now a.monitor c.if-marks-monitor-eq0.false _ _ _ c.own_of.ensures c.word_at.ensures c.count_in.ensures

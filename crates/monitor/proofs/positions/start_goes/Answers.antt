-- `monitor::positions::start_goes` meets its contract.
-- Assumes nothing.
use Rattle.monitor.proofs.TickSteps.{start-stays, start-asked}
use Rattle.monitor.specs.Letters.{given}
use Rattle.monitor.specs.Ticks.{own_in}
use Rattle.monitor.proofs.positions.start_goes.Goals as goal

pub returns-then-marks-monitor-eq0 : goal.returns-then-marks-monitor-eq0
returns-then-marks-monitor-eq0 c = let a = c.args in start-stays (given a.tick.now.tables.now a.tick.now.values.now a.tick.now.words) (own_in a.layout.now) a.marks.now a.monitor a.memory.now c.if-marks-monitor-eq0.true

pub returns : goal.returns
returns c =
    let a = c.args in
    start-asked (given a.tick.now.tables.now a.tick.now.values.now a.tick.now.words) (own_in a.layout.now) a.marks.now a.monitor _ a.memory.now _ c.if-marks-monitor-eq0.false c.own_of.ensures c.ask.ensures

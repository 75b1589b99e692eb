-- `monitor::positions::letter_goes` meets its contract.
-- Assumes nothing.
use Rattle.monitor.proofs.TickSteps.{letter-stays, letter-left}
use Rattle.monitor.specs.Letters.{given}
use Rattle.monitor.specs.Ticks.{places_in}
use Rattle.monitor.proofs.positions.letter_goes.Goals as goal

pub returns-then-marks-letter-eq0 : goal.returns-then-marks-letter-eq0
returns-then-marks-letter-eq0 c = let a = c.args in letter-stays (given a.tick.now.tables.now a.tick.now.values.now a.tick.now.words) (places_in a.layout.now) a.marks.now a.letter a.memory.now c.if-marks-letter-eq0.true

pub returns : goal.returns
returns c =
    let a = c.args in
    letter-left (given a.tick.now.tables.now a.tick.now.values.now a.tick.now.words) (places_in a.layout.now) a.marks.now a.letter _ a.memory.now _ c.if-marks-letter-eq0.false c.row_of.ensures c.leave.ensures

-- `monitor::busy::shut_if` meets its contract.
-- Assumes nothing.
use mathlib.Core.Path.{◌∙◌, ap}
use Rattle.monitor.proofs.TickSteps.{not_done, done}
use Rattle.monitor.specs.Letters.{given}
use Rattle.monitor.specs.Ticks.{shut_row, shut_for}
use Rattle.monitor.proofs.busy.shut_if.Goals as goal

pub returns-then-marks-letter-eq0 : goal.returns-then-marks-letter-eq0
returns-then-marks-letter-eq0 c S W = let a = c.args in not_done a.marks.now (shut_for (given a.tables.now S W)) a.letter a.memory.now c.if-marks-letter-eq0.true

pub returns : goal.returns
returns c S W =
    let a = c.args in
    done a.marks.now (shut_for (given a.tables.now S W)) a.letter a.memory.now _ c.if-marks-letter-eq0.false
    (c.shut_row.ensures ∙ ap (λ r. shut_row r a.memory.now) c.part0.ensures)

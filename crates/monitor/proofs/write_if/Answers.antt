-- `monitor::write_if` meets its contract.
-- Assumes nothing.
use Rattle.monitor.proofs.TickSteps.{not_done, done}
use Rattle.monitor.specs.Letters.{given, write_letter}
use Rattle.monitor.proofs.write_if.Goals as goal

pub returns-then-marks-letter-eq0 : goal.returns-then-marks-letter-eq0
returns-then-marks-letter-eq0 c = λ S. not_done c.args.marks.now (write_letter (given c.args.tables.now S c.args.words.now)) c.args.letter c.args.values.now c.if-marks-letter-eq0.true

pub returns : goal.returns
returns c = λ S. done c.args.marks.now (write_letter (given c.args.tables.now S c.args.words.now)) c.args.letter c.args.values.now _ c.if-marks-letter-eq0.false (c.write_letter.ensures S)

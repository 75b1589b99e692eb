-- `monitor::letters::write_letter` meets its contract.
-- Assumes nothing.
use Rattle.monitor.proofs.LetterSteps.{writes}
use Rattle.monitor.specs.Letters.{given}
use Rattle.monitor.proofs.letters.write_letter.Goals as goal

pub returns : goal.returns
returns c = λ S. writes (given c.args.tables.now S c.args.words.now) c.args.letter c.args.values.now _ _ (c.write_slot.ensures S) (c.write_slot-2.ensures S)

-- `monitor::letters::write_slot` meets its contract.
-- Assumes nothing.
use Rattle.monitor.specs.Letters.{given}
use Rattle.monitor.proofs.LetterSteps.{no_write, the-write}
use Rattle.monitor.proofs.letters.write_slot.Goals as goal

pub returns-then-link-eq0 : goal.returns-then-link-eq0
returns-then-link-eq0 c S = let a = c.args in no_write (given a.tables.now S a.words.now) a.slot c.if-link-eq0.true _

pub returns : goal.returns
returns c S =
    let a = c.args in
    the-write (given a.tables.now S a.words.now) a.slot c.if-link-eq0.false _ _ c.part0.ensures c.link_value.ensures _ _ c.put_value.ensures

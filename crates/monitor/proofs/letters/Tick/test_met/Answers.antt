-- `monitor::letters::Tick::test_met` meets its contract.
-- Assumes nothing.
use Rattle.monitor.specs.Letters.{given}
use Rattle.monitor.proofs.LetterSteps.{no_test, the-test}
use Rattle.monitor.proofs.letters.Tick.test_met.Goals as goal

pub returns-then-link-eq0 : goal.returns-then-link-eq0
returns-then-link-eq0 c = let a = c.args in no_test (given a.self.now.tables.now a.self.now.values.now a.self.now.words) a.slot c.if-link-eq0.true

pub returns : goal.returns
returns c =
    let a = c.args in
    the-test (given a.self.now.tables.now a.self.now.values.now a.self.now.words) a.slot c.if-link-eq0.false _ _ c.part0.ensures c.link_value.ensures _ c.word_at.ensures

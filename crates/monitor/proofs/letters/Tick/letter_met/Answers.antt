-- `monitor::letters::Tick::letter_met` meets its contract.
-- Assumes nothing.
use Rattle.monitor.specs.Letters.{given}
use Rattle.monitor.proofs.LetterSteps.{misses, moves, fails, meets}
use Rattle.monitor.proofs.letters.Tick.letter_met.Goals as goal

pub returns-then-not-passes : goal.returns-then-not-passes
returns-then-not-passes c =
    let a = c.args in
    let g = given a.self.now.tables.now a.self.now.values.now a.self.now.words in
    misses g a.letter _ c.passes.ensures c.if-not-passes.true

pub returns-then-not-passes-2 : goal.returns-then-not-passes-2
returns-then-not-passes-2 c =
    let a = c.args in
    let g = given a.self.now.tables.now a.self.now.values.now a.self.now.words in
    moves g a.letter _ c.passes.ensures c.if-not-passes.false _ c.passes-2.ensures c.if-not-passes-2.true

pub returns-then-not-test_met : goal.returns-then-not-test_met
returns-then-not-test_met c =
    let a = c.args in
    let g = given a.self.now.tables.now a.self.now.values.now a.self.now.words in
    fails g a.letter _ c.passes.ensures c.if-not-passes.false _ c.passes-2.ensures c.if-not-passes-2.false _ c.test_met.ensures c.if-not-test_met.true

pub returns : goal.returns
returns c =
    let a = c.args in
    let g = given a.self.now.tables.now a.self.now.values.now a.self.now.words in
    meets g a.letter _ c.passes.ensures c.if-not-passes.false _ c.passes-2.ensures c.if-not-passes-2.false _ _ c.test_met.ensures c.if-not-test_met.false c.test_met-2.ensures

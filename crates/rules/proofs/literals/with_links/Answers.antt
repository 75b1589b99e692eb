-- `rules::literals::with_links` meets its contract.
-- Assumes nothing.
use mathlib.Core.Path.{refl}
use native.Mathlib.Omega.{arith}
use Rattle.rules.proofs.Tested.{both-none, both_first, both-many, both_one}
use Rattle.rules.proofs.literals.with_links.Goals as goal

pub returns-then-more-eq0 : goal.returns-then-more-eq0
returns-then-more-eq0 c = both-none _ _ _ _ _ _ c.if-more-eq0.true

pub returns-then-tests-eq0 : goal.returns-then-tests-eq0
returns-then-tests-eq0 c = both_first _ _ _ _ _ _ c.if-tests-eq0.true

pub returns-then-tests-more-gt2 : goal.returns-then-tests-more-gt2
returns-then-tests-more-gt2 c = both-many _ _ _ _ _ _ c.if-tests-more-gt2.true (omega arith)

pub returns : goal.returns
returns c = both_one _ _ _ _ _ _ _ _ _ _ _ _ _ _ (omega arith) (omega arith) c.part0.ensures c.part1.ensures c.part2.ensures refl c.with_link.ensures

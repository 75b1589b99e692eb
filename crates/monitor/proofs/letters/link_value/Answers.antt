-- `monitor::letters::link_value` meets its contract.
-- Assumes nothing.
use Rattle.monitor.proofs.LetterSteps.{by_number, by-wires}
use Rattle.monitor.proofs.letters.link_value.Goals as goal

pub returns-then-part1-eq2 : goal.returns-then-part1-eq2
returns-then-part1-eq2 c = by_number _ _ _ _ c.part1.ensures c.if-part1-eq2.true

pub returns : goal.returns
returns c = by-wires _ _ _ _ _ c.part1.ensures c.if-part1-eq2.false c.part2.ensures

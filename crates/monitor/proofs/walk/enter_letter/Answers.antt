-- `monitor::walk::enter_letter` meets its contract.
-- Assumes nothing.
use Rattle.monitor.proofs.WalkSteps.{letter-far, letter-unmet, letter-marked}
use Rattle.monitor.proofs.walk.enter_letter.Goals as goal

pub returns-then-letter-ge256 : goal.returns-then-letter-ge256
returns-then-letter-ge256 c = search letter-far

pub returns-then-not-letter_met : goal.returns-then-not-letter_met
returns-then-not-letter_met c = search letter-unmet

pub returns : goal.returns
returns c = search letter-marked

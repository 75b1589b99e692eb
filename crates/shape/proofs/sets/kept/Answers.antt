-- `shape::sets::kept` meets its contract. Assumes nothing.
use Rattle.shape.proofs.Bits.{has-none}
use Rattle.shape.proofs.sets.kept.Goals as goal

pub returns-then-test : goal.returns-then-test
returns-then-test c = λ x. rw c.if-test.true

pub returns-else-test : goal.returns-else-test
returns-else-test c = λ x. rw c.if-test.false (has-none x)

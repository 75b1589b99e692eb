-- `shape::sets::in_front` meets its contract. Assumes nothing.
use Rattle.shape.proofs.Bits.{front-first, front-next, moved-first, moved-next}
use Rattle.shape.proofs.sets.in_front.Goals as goal

pub returns-then-test : goal.returns-then-test
returns-then-test c = let set = c.args.set in (rw c.if-test.true (front-first set), front-next set)

pub returns-else-test : goal.returns-else-test
returns-else-test c = let set = c.args.set in (rw c.if-test.false (moved-first set), moved-next set)

-- `shape::sides::lowest_fork` meets its contract. Assumes nothing.
use borrow.Author.Rules.{rules}
use Rattle.shape.proofs.sides.lowest_fork.Goals as goal

pub returns : goal.returns
returns c = c.lowest_by.ensures _ (λ from stop set p within. search rules)

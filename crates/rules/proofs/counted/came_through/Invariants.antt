-- `rules::counted::came_through` meets its contract.
-- Assumes nothing.
use Rattle.meaning.specs.Lists.{member}
use Rattle.rules.proofs.Placing.{Below}
use Rattle.rules.proofs.counted.came_through.Given as goal

abbrev pub invariant-loop-head : goal.invariant-loop-head
invariant-loop-head l = Below (member l.number) l.words l.node l.at

abbrev pub decreases-loop-head : goal.decreases-loop-head
decreases-loop-head l = l.at

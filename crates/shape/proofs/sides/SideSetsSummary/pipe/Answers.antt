-- `pipe` of `shape::sides::SideSets` meets its contract. Assumes nothing.
use Rattle.shape.proofs.Bits.{has-or, has-and}
use Rattle.shape.proofs.sides.SideSetsSummary.pipe.Goals as goal

pub returns : goal.returns
returns c = λ x. simp (has-or, has-and)

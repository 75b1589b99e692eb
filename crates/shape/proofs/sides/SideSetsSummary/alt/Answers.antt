-- `alt` of `shape::sides::SideSets` meets its contract. Assumes nothing.
use Rattle.shape.proofs.Bits.{has-or}
use Rattle.shape.proofs.sides.SideSetsSummary.alt.Goals as goal

pub returns : goal.returns
returns c = λ x. simp has-or

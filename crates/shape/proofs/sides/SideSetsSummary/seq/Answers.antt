-- `seq` of `shape::sides::SideSets` meets its contract. Assumes nothing.
use Rattle.shape.proofs.Bits.{has-or}
use Rattle.shape.proofs.sides.SideSetsSummary.seq.Goals as goal

pub returns : goal.returns
returns c = λ x. simp (has-or, c.kept.ensures x, c.kept-2.ensures x, c.kept-3.ensures x, c.kept-4.ensures x, c.linked.ensures x)

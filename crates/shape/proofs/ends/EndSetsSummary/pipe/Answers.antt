-- `pipe` of `shape::ends::EndSets` meets its contract. Assumes nothing.
use Rattle.shape.proofs.Bits.{has-or, has-and}
use Rattle.shape.proofs.ends.EndSetsSummary.pipe.Goals as goal

pub returns : goal.returns
returns c = λ x. simp (has-or, has-and)

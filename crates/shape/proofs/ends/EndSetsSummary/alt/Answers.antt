-- `alt` of `shape::ends::EndSets` meets its contract. Assumes nothing.
use Rattle.shape.proofs.Bits.{has-or}
use Rattle.shape.proofs.ends.EndSetsSummary.alt.Goals as goal

pub returns : goal.returns
returns c = λ x. simp has-or

-- `nothing` of `shape::ends::EndSets` meets its contract. Assumes nothing.
use mathlib.Core.Path.{ap, ◌∙◌}
use Rattle.shape.specs.Ends.{letter_ends}
use Rattle.shape.proofs.Bits.{has-none}
use Rattle.shape.proofs.ends.EndSetsSummary.nothing.Goals as goal

pub returns : goal.returns
returns c = λ x. c.letter_ends.ensures x ∙ ap letter_ends (has-none x)

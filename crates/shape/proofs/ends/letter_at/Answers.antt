-- `shape::ends::letter_at` meets its contract. Assumes nothing.
use mathlib.Core.Path.{ap, ◌∙◌}
use native.Mathlib.Omega.{arith}
use Rattle.shape.specs.Ends.{letter_ends}
use Rattle.shape.proofs.ends.letter_at.Goals as goal

pub returns : goal.returns
returns c = λ x h. c.letter_ends.ensures x ∙ ap letter_ends (c.one.ensures x h (omega arith))

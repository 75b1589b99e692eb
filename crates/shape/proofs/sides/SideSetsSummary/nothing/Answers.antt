-- `nothing` of `shape::sides::SideSets` meets its contract. Assumes nothing.
use mathlib.Core.Path.{ap₂, ◌∙◌}
use Rattle.shape.specs.Sides.{letter_sides}
use Rattle.shape.proofs.Bits.{has-none}
use Rattle.shape.proofs.sides.SideSetsSummary.nothing.Goals as goal

pub returns : goal.returns
returns c = λ x. c.letter_sides.ensures x ∙ ap₂ letter_sides (has-none x) (has-none x)

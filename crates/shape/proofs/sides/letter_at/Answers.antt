-- `shape::sides::letter_at` meets its contract. Assumes nothing.
use mathlib.Core.Bool.{Bool, not, ◌&&◌}
use mathlib.Core.Path.{ap₂, ◌∙◌}
use native.Mathlib.Omega.{arith}
use Rattle.shape.specs.Sides.{letter_sides}
use Rattle.shape.proofs.sides.letter_at.Goals as goal

pub returns : goal.returns
returns c =
    λ x h s.
    let own = c.one-own.ensures x h (omega arith) in
    c.letter_sides.ensures x
    ∙ ap₂ letter_sides own (c.without.ensures x ∙ ap₂ (λ (a b : Bool). not a && b) own (c.met_with-met.ensures x h s))

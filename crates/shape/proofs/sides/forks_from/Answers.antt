-- `shape::sides::forks_from` meets its contract. Assumes nothing.
use borrow.Author.Rules.{rules}
use mathlib.Core.Path.{ap, ◌∙◌}
use Rattle.shape.specs.Sides.{Sides, star_sides, fork_at}
use Rattle.shape.proofs.sides.forks_from.Goals as goal

pub returns : goal.returns
unfolding fork_at
returns c = λ x h s. ap (λ (e : Sides). e.fork) (c.star-again.ensures x ∙ ap star_sides (c.walk-e.ensures x _ (λ a r p. search rules)))

-- `shape::ends::open_from` meets its contract. Assumes nothing.
use borrow.Author.Rules.{rules}
use mathlib.Core.Path.{ap}
use Rattle.shape.specs.Ends.{Ends, open_at}
use Rattle.shape.proofs.ends.open_from.Goals as goal

pub returns : goal.returns
unfolding open_at
returns c = λ x h s. ap (λ (e : Ends). e.fault) (c.walk.ensures x _ (λ a r p. search rules))

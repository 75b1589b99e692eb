-- `rules::expression::no_literals` meets its contract.
-- Assumes nothing.
use mathlib.Core.Path.{refl}
use Rattle.rules.proofs.LetterSteps.{none-asked}
use Rattle.rules.proofs.expression.no_literals.Goals as goal

pub returns : goal.returns
returns c = (λ P c l. none-asked P c l, refl, refl)

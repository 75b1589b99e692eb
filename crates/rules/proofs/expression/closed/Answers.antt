-- `rules::expression::closed` meets its contract.
-- Assumes nothing.
use borrow.Author.Rules.{rules}
use mathlib.Core.Path.{refl}
use Rattle.rules.proofs.Turning.{closed-not, closed-by}
use Rattle.rules.proofs.expression.closed.Goals as goal

pub returns-then-ne : goal.returns-then-ne
returns-then-ne c = rw (c.misplaced.ensures.0, c.misplaced.ensures.1) (closed-not _ _ _ c.see-t.ensures (search rules) _ refl refl)

pub returns : goal.returns
returns c = closed-by _ _ _ c.see-t.ensures (search rules) _ refl refl refl refl

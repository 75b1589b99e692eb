-- `rules::expression::with_star` meets its contract.
-- Assumes nothing.
use borrow.Author.Rules.{rules}
use Rattle.rules.proofs.Turning.{star-none, star-room, star-some}
use Rattle.rules.proofs.expression.with_star.Goals as goal

pub returns-then-ne : goal.returns-then-ne
returns-then-ne c = star-none _ _ _ _ _ c.see-t.ensures _ c.requires (search rules)

pub starred-m-requires : goal.starred-m-requires
starred-m-requires c = ((star-room _ _ _ _ _ c.see-t.ensures _ c.requires (search rules)).0, (star-room _ _ _ _ _ c.see-t.ensures _ c.requires (search rules)).1, c.requires.part)

pub returns : goal.returns
returns c = star-some _ _ _ _ _ c.see-t.ensures _ c.requires (search rules) _ _ _ c.starred-m.ensures

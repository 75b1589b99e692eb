-- `rules::tokens::keyword` meets its contract.
-- Assumes nothing.
use borrow.Author.Rules.{rules}
use Rattle.rules.proofs.Stepping.{word-behind, word-not}
use Rattle.rules.proofs.tokens.keyword.Goals as goal

pub returns-then-eq : goal.returns-then-eq
returns-then-eq c = word-behind _ _ _ c.see-t.ensures _ (search rules)

pub returns-else-eq : goal.returns-else-eq
returns-else-eq c = rw (c.misplaced.ensures.0, c.misplaced.ensures.1) (word-not _ _ _ c.see-t.ensures _ (search rules))

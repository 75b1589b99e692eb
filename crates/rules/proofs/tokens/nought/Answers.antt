-- `rules::tokens::nought` meets its contract.
-- Assumes nothing.
use borrow.Author.Rules.{rules}
use Rattle.rules.proofs.Stepping.{nought-not, nought-behind}
use Rattle.rules.proofs.tokens.nought.Goals as goal

pub returns-then-eq : goal.returns-then-eq
returns-then-eq c = nought-behind _ _ _ c.see-t.ensures (search rules)

pub returns-else-eq : goal.returns-else-eq
returns-else-eq c = rw (c.misplaced.ensures.0, c.misplaced.ensures.1) (nought-not _ _ _ c.see-t.ensures (search rules))

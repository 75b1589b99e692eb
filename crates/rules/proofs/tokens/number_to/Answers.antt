-- `rules::tokens::number_to` meets its contract.
-- Assumes nothing.
use Rattle.rules.proofs.Stepping.{number-not, number-large, number_read}
use Rattle.rules.proofs.tokens.number_to.Goals as goal

pub returns-in_default : goal.returns-in_default
returns-in_default c = rw (c.misplaced.ensures.0, c.misplaced.ensures.1) (number-not _ _ _ c.see-t.ensures _ c.in_default.not-Number)

pub returns-then-most-value : goal.returns-then-most-value
returns-then-most-value c = rw (c.refused.ensures.0, c.refused.ensures.1) (number-large _ _ _ c.see-t.ensures _ _ c.in-Number.is c.if-most-value.true)

pub returns : goal.returns
returns c = number_read _ _ _ c.see-t.ensures _ _ c.in-Number.is c.if-most-value.false

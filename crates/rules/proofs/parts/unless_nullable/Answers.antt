-- `rules::parts::unless_nullable` meets its contract.
-- Assumes nothing.
use Rattle.rules.proofs.Summing.{at-itself, as_before}
use Rattle.rules.proofs.parts.unless_nullable.Goals as goal

pub returns-then-nullable : goal.returns-then-nullable
returns-then-nullable c = at-itself _ _ c.if-nullable.true

pub returns : goal.returns
returns c = as_before _ _ c.requires c.if-nullable.false

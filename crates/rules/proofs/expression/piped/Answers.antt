-- `rules::expression::piped` meets its contract.
-- Assumes nothing.
use native.Mathlib.Omega.{arith}
use Rattle.rules.proofs.Operating.{joined-left}
use Rattle.rules.proofs.expression.piped.Goals as goal

pub join-requires : goal.join-requires
join-requires c = (omega arith, c.requires.1, (c.requires.2.0.left, c.requires.2.1.left), c.requires.3)

pub returns : goal.returns
returns c = joined-left _ _ _ _ _ _ _ c.join.ensures

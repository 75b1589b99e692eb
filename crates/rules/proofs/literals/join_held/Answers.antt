-- `rules::literals::join_held` meets its contract.
-- Assumes nothing.
use native.Mathlib.Omega.{arith}
use Rattle.rules.proofs.Put.{held_one, held-other, held-put}
use Rattle.rules.proofs.literals.join_held.Goals as goal

pub returns-then-other-eq0 : goal.returns-then-other-eq0
returns-then-other-eq0 c = held_one _ _ _ _ c.if-other-eq0.true c.requires.1

pub returns-then-one-eq0 : goal.returns-then-one-eq0
returns-then-one-eq0 c = held-other _ _ _ _ c.if-one-eq0.true c.requires.2

pub returns : goal.returns
returns c = held-put _ _ _ _ c.if-one-eq0.false c.if-other-eq0.false c.requires.1 (omega (arith, c.requires.0))

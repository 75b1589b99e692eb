-- `rules::parts::or_later` meets its contract.
-- Assumes nothing.
use native.Mathlib.Omega.{arith}
use Rattle.rules.proofs.Summing.{later_first, later-none, later_second}
use Rattle.rules.proofs.parts.or_later.Goals as goal

pub returns-then-first-ne0 : goal.returns-then-first-ne0
returns-then-first-ne0 c = later_first _ _ _ c.if-first-ne0.true

pub returns-then-second-eq0 : goal.returns-then-second-eq0
returns-then-second-eq0 c = later-none _ _ _ c.if-first-ne0.false c.if-second-eq0.true

pub returns : goal.returns
returns c = later_second _ _ _ c.if-first-ne0.false c.if-second-eq0.false _ (omega (arith, c.min.ensures))

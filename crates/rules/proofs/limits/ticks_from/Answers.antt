-- `rules::limits::ticks_from` meets its contract.
-- Assumes nothing.
use mathlib.Core.Path.{refl}
use Rattle.rules.proofs.Misreads.{exit, some}
use Rattle.rules.proofs.Limiting.{ticks-no-word, ticks-no-number, ticks-small, ticks-large, ticks-read}
use Rattle.rules.proofs.limits.ticks_from.Goals as goal
use Rattle.rules.proofs.limits.ticks_from.Goals.{then-value-least-via-then-value-least, then-value-least-via-else-value-least+then-most-value}

pub returns-in_err-word : goal.returns-in_err-word
returns-in_err-word c = rw (exit _ c.from_residual.ensures.1) (ticks-no-word _ _ _ _ _ c.in_err-word.ensures _ _ (some _) _)

pub returns-in_default : goal.returns-in_default
returns-in_default c = rw (c.misplaced.ensures.0, c.misplaced.ensures.1) (ticks-no-number _ _ _ _ _ c.in_ok-word.ensures _ _ refl _ c.see-t.ensures c.in_default.not-Number _)

pub returns-then-value-least : goal.returns-then-value-least
returns-then-value-least c = rw (c.refused.ensures.0, c.refused.ensures.1) (elim c.then-value-least.branch [
  | then-value-least-via-then-value-least x ↦ ticks-small _ _ _ _ _ c.in_ok-word.ensures _ _ refl _ c.see-t.ensures _ c.in-Number.is x.if-value-least.true _
  | then-value-least-via-else-value-least+then-most-value x ↦ ticks-large _ _ _ _ _ c.in_ok-word.ensures _ _ refl _ c.see-t.ensures _ c.in-Number.is x.if-most-value.true _
])

pub returns : goal.returns
returns c = ticks-read _ _ _ _ _ c.in_ok-word.ensures _ _ refl _ c.see-t.ensures _ c.in-Number.is c.if-value-least.false c.if-most-value.false

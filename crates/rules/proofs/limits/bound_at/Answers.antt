-- `rules::limits::bound_at` meets its contract.
-- Assumes nothing.
use native.Mathlib.Omega.{arith}
use mathlib.Core.Path.{refl}
use Rattle.rules.proofs.Misreads.{exit, some}
use Rattle.rules.proofs.Limiting.{limit-again, limit-no-name, limit-no-most, most-few, limit-no-window, limit-read}
use Rattle.rules.proofs.limits.bound_at.Goals as goal

pub returns-in_err-p : goal.returns-in_err-p
returns-in_err-p c = rw (exit _ c.from_residual.ensures.1) (limit-no-name _ _ _ _ _ _ _ c.in_err-p.ensures (some _) _)

pub returns-in_err-n : goal.returns-in_err-n
returns-in_err-n c = rw (exit _ c.from_residual-in_err-n.ensures.1) (limit-no-most _ _ _ _ _ _ _ c.in_ok-p.ensures refl _ _ _ c.in_err-n.ensures (some _) _)

pub overflow_add-n : goal.overflow_add-n
overflow_add-n c = let l = most-few _ _ _ _ _ _ _ c.in_ok-p.ensures refl _ _ _ c.in_ok-n.ensures refl in omega arith

pub returns-in_err-w : goal.returns-in_err-w
returns-in_err-w c = rw (exit _ c.from_residual-in_err-w.ensures.1) (limit-no-window _ _ _ _ _ _ _ c.in_ok-p.ensures refl _ _ _ c.in_ok-n.ensures refl _ _ _ c.in_err-w.ensures (some _) _)

pub returns-in_err-end : goal.returns-in_err-end
returns-in_err-end c = rw (exit _ c.from_residual-in_err-end.ensures.1) (limit-again _ _ _ _ _ _ _ _ (some _) (limit-read _ _ _ _ _ _ _ c.in_ok-p.ensures refl _ _ _ c.in_ok-n.ensures refl _ _ _ c.in_ok-w.ensures refl _ _ c.in_err-end.ensures))

pub returns : goal.returns
returns c = rw c.quad.ensures (limit-read _ _ _ _ _ _ _ c.in_ok-p.ensures refl _ _ _ c.in_ok-n.ensures refl _ _ _ c.in_ok-w.ensures refl _ _ c.in_ok-end.ensures)

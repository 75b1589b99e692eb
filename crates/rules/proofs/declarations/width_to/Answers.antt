-- `rules::declarations::width_to` meets its contract.
-- Assumes nothing.
use borrow.Author.Rules.{rules}
use native.Mathlib.Omega.{arith}
use mathlib.Core.Path.{refl}
use Rattle.rules.proofs.Misreads.{exit, some}
use Rattle.rules.proofs.Widths.{width-again, width_one, width-none, width-no-number, width-open, high-most, width_read}
use Rattle.rules.proofs.declarations.width_to.Goals as goal

pub returns-then-eq : goal.returns-then-eq
returns-then-eq c = width_one _ _ _ c.see-t.ensures _ _ c.requires.0 (search rules)

pub returns-then-ne : goal.returns-then-ne
returns-then-ne c = rw (c.misplaced.ensures.0, c.misplaced.ensures.1) (width-none _ _ _ c.see-t.ensures _ _ c.requires.0 (search rules) (search rules))

pub returns-in_err-high : goal.returns-in_err-high
returns-in_err-high c = rw (exit _ c.from_residual.ensures.1) (width-no-number _ _ _ c.see-t.ensures _ _ c.requires.0 (search rules) (search rules) _ _ _ _ c.in_err-high.ensures (some _))

pub returns-in_err-zero : goal.returns-in_err-zero
returns-in_err-zero c = rw (exit _ c.from_residual-in_err-zero.ensures.1) (width-open _ _ _ c.see-t.ensures _ _ c.requires.0 (search rules) (search rules) _ _ _ _ c.in_ok-high.ensures refl _ _ c.in_err-zero.ensures (some _))

pub overflow_add-result : goal.overflow_add-result
overflow_add-result c = let h = high-most _ _ _ c.see-t.ensures c.args.wanted c.args.most c.requires.0 (search rules) (search rules) _ _ _ _ c.in_ok-high.ensures refl _ _ c.in_ok-zero.ensures in omega arith

pub returns-in_err-end : goal.returns-in_err-end
returns-in_err-end c = rw (exit _ c.from_residual-in_err-end.ensures.1) (width-again _ _ _ _ _ _ _ _ (some _) (width_read _ _ _ c.see-t.ensures _ _ c.requires.0 (search rules) (search rules) _ _ _ _ c.in_ok-high.ensures refl _ _ c.in_ok-zero.ensures refl _ _ c.in_err-end.ensures))

pub returns : goal.returns
returns c = width_read _ _ _ c.see-t.ensures _ _ c.requires.0 (search rules) (search rules) _ _ _ _ c.in_ok-high.ensures refl _ _ c.in_ok-zero.ensures refl _ _ c.in_ok-end.ensures

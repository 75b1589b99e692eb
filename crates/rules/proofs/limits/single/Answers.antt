-- `rules::limits::single` meets its contract.
-- Assumes nothing.
use native.Mathlib.Omega.{arith}
use mathlib.Core.Path.{refl, sym, ◌∙◌}
use Rattle.rules.proofs.Misreads.{exit, some}
use Rattle.rules.proofs.MonitorSteps.{declares_production}
use Rattle.rules.proofs.Limiting.{single-unknown, single-inside, single-not, single-read}
use Rattle.rules.proofs.limits.single.Goals as goal

pub returns-in_err-cell : goal.returns-in_err-cell
returns-in_err-cell c = rw (exit _ c.from_residual.ensures.1, c.in_err-cell.ensures.1) (single-unknown _ _ _ _ _ c.see-t.ensures _ _ c.in_err-cell.ensures.0 (some _) _)

pub overflow_add-cell : goal.overflow_add-cell
overflow_add-cell c = let (d, e, l, st, q) = declares_production _ _ _ _ _ c.see-t.ensures _ _ c.in_ok-cell.ensures.0 refl c.requires in omega (arith, st.used)

pub offset_bounds-words-cell : goal.offset_bounds-words-cell
offset_bounds-words-cell c = let (d, e, l, st, q) = declares_production _ _ _ _ _ c.see-t.ensures _ _ c.in_ok-cell.ensures.0 refl c.requires in omega (arith, st.used)

pub bounds-words-cell : goal.bounds-words-cell
bounds-words-cell c = let (d, e, l, st, q) = declares_production _ _ _ _ _ c.see-t.ensures _ _ c.in_ok-cell.ensures.0 refl c.requires in omega (arith, st.used)

pub offset_bounds-words-node : goal.offset_bounds-words-node
offset_bounds-words-node c = let l = single-inside _ _ _ _ _ c.see-t.ensures _ _ c.in_ok-cell.ensures.0 refl _ c.part0-node.ensures c.requires in omega arith

pub bounds-words-node : goal.bounds-words-node
bounds-words-node c = single-inside _ _ _ _ _ c.see-t.ensures _ _ c.in_ok-cell.ensures.0 refl _ c.part0-node.ensures c.requires

pub returns-then-part0-number : goal.returns-then-part0-number
returns-then-part0-number c = rw (c.refused.ensures.0, c.refused.ensures.1) (single-not _ _ _ _ _ c.see-t.ensures _ _ c.in_ok-cell.ensures.0 refl _ c.part0-node.ensures _ c.part0.ensures (λ z. c.if-part0-number.true (z ∙ sym c.number.ensures)) _)

pub returns : goal.returns
returns c = single-read _ _ _ _ _ c.see-t.ensures _ _ c.in_ok-cell.ensures.0 refl _ c.part0-node.ensures _ c.part0.ensures c.requires (c.if-part0-number.false ∙ c.number.ensures) _ c.part2.ensures

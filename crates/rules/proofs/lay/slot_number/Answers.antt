-- `rules::lay::slot_number` meets its contract.
-- Assumes nothing.
use native.Mathlib.Omega.{arith}
use Rattle.rules.proofs.Slots.{slot-inside, number-none, number-some}
use Rattle.rules.proofs.lay.slot_number.Goals as goal

pub returns-then-cell-eq0 : goal.returns-then-cell-eq0
returns-then-cell-eq0 c = number-none _ _ c.if-cell-eq0.true

pub offset_bounds-words-cell : goal.offset_bounds-words-cell
offset_bounds-words-cell c = let l = slot-inside _ _ c.requires c.if-cell-eq0.false in omega arith

pub bounds-words-cell : goal.bounds-words-cell
bounds-words-cell c = let l = slot-inside _ _ c.requires c.if-cell-eq0.false in omega arith

pub overflow_add-cell : goal.overflow_add-cell
overflow_add-cell c = let l = slot-inside _ _ c.requires c.if-cell-eq0.false in omega arith

pub offset_bounds-words-cell-2 : goal.offset_bounds-words-cell-2
offset_bounds-words-cell-2 c = let l = slot-inside _ _ c.requires c.if-cell-eq0.false in omega arith

pub bounds-words-cell-2 : goal.bounds-words-cell-2
bounds-words-cell-2 c = let l = slot-inside _ _ c.requires c.if-cell-eq0.false in omega arith

pub returns : goal.returns
returns c = number-some _ _ c.if-cell-eq0.false _ _ c.part2.ensures c.link_number.ensures

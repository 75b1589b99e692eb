-- `rules::lay::behind` meets its contract.
-- Assumes nothing.
use native.Mathlib.Omega.{arith}
use Rattle.rules.proofs.Slots.{slot-inside, some-slot, behind-none, behind-some}
use Rattle.rules.proofs.lay.behind.Goals as goal

pub returns-then-cell-eq0 : goal.returns-then-cell-eq0
returns-then-cell-eq0 c = behind-none _ _ c.if-cell-eq0.true

pub offset_bounds-words-cell : goal.offset_bounds-words-cell
offset_bounds-words-cell c = let l = slot-inside _ _ (some-slot _ _ c.requires) c.if-cell-eq0.false in omega arith

pub bounds-words-cell : goal.bounds-words-cell
bounds-words-cell c = let l = slot-inside _ _ (some-slot _ _ c.requires) c.if-cell-eq0.false in omega arith

pub returns : goal.returns
returns c = behind-some _ _ c.if-cell-eq0.false _ c.part3.ensures

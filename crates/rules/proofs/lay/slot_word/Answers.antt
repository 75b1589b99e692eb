-- `rules::lay::slot_word` meets its contract.
-- Assumes nothing.
use native.Mathlib.Omega.{arith}
use Rattle.rules.proofs.Slots.{slot-inside, word_none, word_some}
use Rattle.rules.proofs.lay.slot_word.Goals as goal

pub returns-then-cell-eq0 : goal.returns-then-cell-eq0
returns-then-cell-eq0 c = word_none _ _ c.if-cell-eq0.true

pub offset_bounds-words-cell : goal.offset_bounds-words-cell
offset_bounds-words-cell c = let l = slot-inside _ _ c.requires c.if-cell-eq0.false in omega arith

pub bounds-words-cell : goal.bounds-words-cell
bounds-words-cell c = let l = slot-inside _ _ c.requires c.if-cell-eq0.false in omega arith

pub returns : goal.returns
returns c = word_some _ _ c.if-cell-eq0.false _ c.link_word.ensures

-- `rules::opening::open_one` meets its contract.
-- Assumes nothing.
use native.Mathlib.Omega.{arith}
use borrow.Author.Rules.{rules}
use Rattle.rules.proofs.OneMonitor.{cell-inside, opens-impossible, opens-null, opens-hollow, some-exp, opens-ruled, ruled-arrays}
use Rattle.rules.proofs.opening.open_one.Goals as goal

pub overflow_add-known : goal.overflow_add-known
overflow_add-known c = let l = cell-inside _ _ _ _ c.requires.0 in search rules

pub offset_bounds-words-cell : goal.offset_bounds-words-cell
offset_bounds-words-cell c = let l = cell-inside _ _ _ _ c.requires.0 in search rules

pub bounds-words-cell : goal.bounds-words-cell
bounds-words-cell c = cell-inside _ _ _ _ c.requires.0

pub returns-then-impossible-ne0 : goal.returns-then-impossible-ne0
returns-then-impossible-ne0 c = (opens-impossible _ _ _ _ _ c.part2-impossible.ensures c.if-impossible-ne0.true _, c.requires.1)

pub returns-then-part1-ne0 : goal.returns-then-part1-ne0
returns-then-part1-ne0 c = (opens-null _ _ _ _ _ c.part2-impossible.ensures c.if-impossible-ne0.false _ c.part1.ensures c.if-part1-ne0.true _, c.requires.1)

pub returns-then-hollow-ne0 : goal.returns-then-hollow-ne0
returns-then-hollow-ne0 c = (opens-hollow _ _ _ _ _ c.part2-impossible.ensures c.if-impossible-ne0.false _ c.part1.ensures c.if-part1-ne0.false _ c.part3-hollow.ensures c.if-hollow-ne0.true _, c.requires.1)

pub overflow_add-cell : goal.overflow_add-cell
overflow_add-cell c = let l = cell-inside _ _ _ _ c.requires.0 in search rules

pub offset_bounds-words-cell-2 : goal.offset_bounds-words-cell-2
offset_bounds-words-cell-2 c = let l = cell-inside _ _ _ _ c.requires.0 in search rules

pub bounds-words-cell-2 : goal.bounds-words-cell-2
bounds-words-cell-2 c = let l = cell-inside _ _ _ _ c.requires.0 in omega arith

pub lay_one-requires : goal.lay_one-requires
lay_one-requires c = some-exp _ _ _ _ _ c.part2-impossible.ensures c.if-impossible-ne0.false _ c.part1.ensures c.if-part1-ne0.false _ c.part3-hollow.ensures c.if-hollow-ne0.false _ c.part0.ensures c.requires.0

pub returns : goal.returns
returns c = (opens-ruled _ _ _ _ _ c.part2-impossible.ensures c.if-impossible-ne0.false _ c.part1.ensures c.if-part1-ne0.false _ c.part3-hollow.ensures c.if-hollow-ne0.false _ c.part0.ensures _ _ _ c.lay_one.ensures c.requires.1, ruled-arrays _ _ _ _ _ c.part2-impossible.ensures c.if-impossible-ne0.false _ c.part1.ensures c.if-part1-ne0.false _ c.part3-hollow.ensures c.if-hollow-ne0.false _ c.part0.ensures _ _ _ c.lay_one.ensures c.requires.1 c.requires.0)

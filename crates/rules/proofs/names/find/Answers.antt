-- The answers to the goals of `rules::names::find`.
use native.Mathlib.Omega.{arith}
use borrow.Author.Rules.{rules}
use Rattle.rules.proofs.Lookup.{looked-start, inside, looked-next, looked-found, looked-none}
use Rattle.rules.proofs.names.find.Goals as goal

pub loop-cell-init : goal.loop-cell-init
loop-cell-init c = looked-start _ _ _ _

pub offset_bounds-words-cell : goal.offset_bounds-words-cell
offset_bounds-words-cell c = let l = (inside _ _ _ _ _ c.loop-cell.invariant c.loop-cell-test.true c.requires.2).0 in search rules

pub bounds-words-cell : goal.bounds-words-cell
bounds-words-cell c = (inside _ _ _ _ _ c.loop-cell.invariant c.loop-cell-test.true c.requires.2).0

pub slice_bounds-equal-end : goal.slice_bounds-equal-end
slice_bounds-equal-end c = let i = (inside _ _ _ _ _ c.loop-cell.invariant c.loop-cell-test.true c.requires.2).1 in omega (arith, c.part2-from.ensures, c.part3.ensures)

pub returns-then-equal : goal.returns-then-equal
returns-then-equal c = (looked-found _ _ _ _ _ c.loop-cell.invariant c.loop-cell-test.true _ _ c.part2-from.ensures c.part3.ensures _ c.equal.ensures c.if-equal.true, c.loop-cell-test.true)

pub loop-cell-smaller : goal.loop-cell-smaller
loop-cell-smaller c = rw c.part1-cell.ensures (inside _ _ _ _ _ c.loop-cell.invariant c.loop-cell-test.true c.requires.2).2

pub loop-cell-preserved : goal.loop-cell-preserved
loop-cell-preserved c = rw c.part1-cell.ensures (looked-next _ _ _ _ _ c.loop-cell.invariant c.loop-cell-test.true _ _ c.part2-from.ensures c.part3.ensures _ c.equal.ensures c.if-equal.false)

pub returns : goal.returns
returns c = looked-none _ _ _ _ _ c.loop-cell.invariant c.loop-cell-test.false

-- `rules::writes::write_wire` meets its contract.
-- Assumes nothing.
use native.Mathlib.Omega.{arith}
use borrow.Author.Rules.{rules}
use mathlib.Core.Path.{refl}
use Rattle.rules.proofs.Misreads.{exit, some}
use Rattle.rules.proofs.Stepping.{inside-text}
use Rattle.rules.proofs.WriteSteps.{fails-too, writing-declared, write-room, wire-fails, wires-inside, wire-unequal, wire_written}
use Rattle.rules.proofs.writes.write_wire.Goals as goal

pub find_kind-requires : goal.find_kind-requires
find_kind-requires c = (writing-declared c.requires.0, c.requires.4)

pub returns-in_err-cell : goal.returns-in_err-cell
returns-in_err-cell c = rw (exit _ c.from_residual.ensures.1, c.in_err-cell.ensures.1) (wire-fails _ _ _ _ _ _ c.requires.4.1 _ _ _ _ _ _ c.in_err-cell.ensures.0 c.requires.0 (some _))

pub overflow_add-what : goal.overflow_add-what
overflow_add-what c = let l = wires-inside _ _ _ _ _ _ c.requires.4.1 _ _ 0 0 _ _ c.in_ok-cell.ensures.0 c.requires.0 refl in omega arith

pub offset_bounds-words-cell : goal.offset_bounds-words-cell
offset_bounds-words-cell c = let (l, m) = wires-inside _ _ _ _ _ _ c.requires.4.1 _ _ 0 0 _ _ c.in_ok-cell.ensures.0 c.requires.0 refl in search rules

pub bounds-words-cell : goal.bounds-words-cell
bounds-words-cell c = (wires-inside _ _ _ _ _ _ c.requires.4.1 _ _ 0 0 _ _ c.in_ok-cell.ensures.0 c.requires.0 refl).0

pub returns-then-part1-width : goal.returns-then-part1-width
returns-then-part1-width c = rw (c.refused.ensures.0, c.refused.ensures.1) (wire-unequal _ _ _ _ _ _ c.requires.4.1 _ _ _ _ _ _ c.in_ok-cell.ensures.0 c.requires.0 refl _ c.part1.ensures c.if-part1-width.true)

pub with_link-l-requires : goal.with_link-l-requires
with_link-l-requires c =
    let (a, b, e, d) = write-room c.requires.0 _ (wires-inside _ _ _ _ _ _ c.requires.4.1 _ _ 0 0 _ _ c.in_ok-cell.ensures.0 c.requires.0 refl).1 (inside-text _ _ _ c.requires.4.1).1 in
    (a, b, e, d, omega arith, omega arith, omega arith)

pub returns-in_err-end : goal.returns-in_err-end
returns-in_err-end c = rw (exit _ c.from_residual-in_err-end.ensures.1) (fails-too _ _ _ _ _ _ _ _ _ _ _ _ _ _ _ _ _ _ _ _ _ (wire_written _ _ _ _ _ _ c.requires.4.1 _ _ _ _ _ _ c.in_ok-cell.ensures.0 c.requires.0 refl _ c.part1.ensures c.if-part1-width.false _ _ _ _ _ c.part0.ensures c.with_link-l.ensures c.requires.1 _ _ c.in_err-end.ensures) (some _))

pub returns : goal.returns
returns c = wire_written _ _ _ _ _ _ c.requires.4.1 _ _ _ _ _ _ c.in_ok-cell.ensures.0 c.requires.0 refl _ c.part1.ensures c.if-part1-width.false _ _ _ _ _ c.part0.ensures c.with_link-l.ensures c.requires.1 _ _ c.in_ok-end.ensures

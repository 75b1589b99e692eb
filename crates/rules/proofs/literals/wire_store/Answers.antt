-- `rules::literals::wire_store` meets its contract.
-- Assumes nothing.
use native.Mathlib.Omega.{arith}
use borrow.Author.Rules.{rules}
use mathlib.Core.Path.{refl}
use Rattle.rules.proofs.Misreads.{exit, some}
use Rattle.rules.proofs.Stepping.{inside-text}
use Rattle.rules.proofs.LiteralSteps.{link-room, given-declared, store-past, store-inside, no_store, store-unequal, store-crowded, wire-store-read}
use Rattle.rules.proofs.literals.wire_store.Goals as goal

pub find_kind-requires : goal.find_kind-requires
find_kind-requires c = (given-declared c.requires.0, c.requires.3)

pub returns-in_err-cell : goal.returns-in_err-cell
returns-in_err-cell c = rw (exit _ c.from_residual.ensures.1, c.in_err-cell.ensures.1) (no_store _ _ _ _ _ _ c.requires.3.1 _ _ _ _ _ _ c.in_err-cell.ensures.0 c.requires.0 (some _))

pub overflow_add-what : goal.overflow_add-what
overflow_add-what c = let l = store-inside _ _ _ _ _ _ c.requires.3.1 _ 0 0 0 _ _ c.in_ok-cell.ensures.0 c.requires.0 refl in omega arith

pub offset_bounds-words-cell : goal.offset_bounds-words-cell
offset_bounds-words-cell c = let l = store-inside _ _ _ _ _ _ c.requires.3.1 _ 0 0 0 _ _ c.in_ok-cell.ensures.0 c.requires.0 refl in search rules

pub bounds-words-cell : goal.bounds-words-cell
bounds-words-cell c = store-inside _ _ _ _ _ _ c.requires.3.1 _ 0 0 0 _ _ c.in_ok-cell.ensures.0 c.requires.0 refl

pub returns-then-part1-width : goal.returns-then-part1-width
returns-then-part1-width c = rw (c.refused.ensures.0, c.refused.ensures.1) (store-unequal _ _ _ _ _ _ c.requires.3.1 _ _ _ _ _ _ c.in_ok-cell.ensures.0 c.requires.0 refl _ c.part1.ensures c.if-part1-width.true)

pub returns-then-most-q : goal.returns-then-most-q
returns-then-most-q c = rw (c.refused-then-most-q.ensures.0, c.refused-then-most-q.ensures.1) (store-crowded _ _ _ _ _ _ c.requires.3.1 _ _ _ _ _ _ c.in_ok-cell.ensures.0 c.requires.0 refl _ c.part1.ensures c.if-part1-width.false c.if-most-q.true)

pub with_link-l-requires : goal.with_link-l-requires
with_link-l-requires c =
    let (a, b, e, d) = link-room c.requires.0 _ (store-past _ _ _ _ _ _ c.requires.3.1 _ 0 0 0 _ _ c.in_ok-cell.ensures.0 c.requires.0 refl) (inside-text _ _ _ c.requires.3.1).1 in
    (a, b, e, d, omega arith, omega arith, omega arith)

pub returns : goal.returns
returns c = wire-store-read _ _ _ _ _ _ c.requires.3.1 _ _ _ _ _ _ c.in_ok-cell.ensures.0 c.requires.0 refl _ c.part1.ensures c.if-part1-width.false c.if-most-q.false _ _ _ _ _ c.part0.ensures c.with_link-l.ensures

-- `rules::literals::negated` meets its contract.
-- Assumes nothing.
use native.Mathlib.Omega.{arith}
use borrow.Author.Rules.{rules}
use mathlib.Core.Path.{refl}
use Rattle.rules.proofs.Misreads.{exit, some}
use Rattle.rules.proofs.Stepping.{inside-text}
use Rattle.rules.proofs.LiteralSteps.{given-declared, given-on, no-input, input-inside, input-past, input-read}
use Rattle.rules.proofs.literals.negated.Goals as goal

pub find_kind-requires : goal.find_kind-requires
find_kind-requires c = (given-declared c.requires, (_, c.see-t.ensures))

pub returns-in_err-cell : goal.returns-in_err-cell
returns-in_err-cell c = rw (exit _ c.from_residual.ensures.1, c.in_err-cell.ensures.1) (no-input _ _ _ _ _ _ c.see-t.ensures _ _ _ _ c.in_err-cell.ensures.0 c.requires (some _))

pub overflow_add-what : goal.overflow_add-what
overflow_add-what c = let (l, a, b) = input-inside _ _ _ _ _ _ c.see-t.ensures _ 0 _ _ c.in_ok-cell.ensures.0 c.requires refl in omega arith

pub offset_bounds-words-cell : goal.offset_bounds-words-cell
offset_bounds-words-cell c = let (l, a, b) = input-inside _ _ _ _ _ _ c.see-t.ensures _ 0 _ _ c.in_ok-cell.ensures.0 c.requires refl in search rules

pub bounds-words-cell : goal.bounds-words-cell
bounds-words-cell c = (input-inside _ _ _ _ _ _ c.see-t.ensures _ 0 _ _ c.in_ok-cell.ensures.0 c.requires refl).0

pub wire_more-requires : goal.wire_more-requires
wire_more-requires c =
    let (l, a, b) = input-inside _ _ _ _ _ _ c.see-t.ensures _ 0 _ _ c.in_ok-cell.ensures.0 c.requires refl in
    let p = input-past _ _ _ _ _ _ c.see-t.ensures _ 0 _ _ c.in_ok-cell.ensures.0 c.requires refl in
    (given-on c.requires (omega arith) p.1, rw c.part1.ensures a, rw (c.part0.ensures, c.part1.ensures) b, omega arith, (inside-text _ _ _ c.see-t.ensures).0)

pub returns : goal.returns
returns c = input-read _ _ _ _ _ _ c.see-t.ensures _ _ _ _ c.in_ok-cell.ensures.0 c.requires refl _ _ c.part0.ensures c.part1.ensures _ _ c.wire_more.ensures

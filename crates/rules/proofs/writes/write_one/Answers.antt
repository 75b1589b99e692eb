-- `rules::writes::write_one` meets its contract.
-- Assumes nothing.
use native.Mathlib.Omega.{arith}
use borrow.Author.Rules.{rules}
use mathlib.Core.Path.{refl}
use Rattle.rules.proofs.Misreads.{exit, some, ok-past}
use Rattle.rules.proofs.WriteSteps.{writing-declared, writing-on, one-fails, one_inside, one-crowded, one-no-arrow, one-past, one_written}
use Rattle.rules.proofs.Stepping.{well}
use Rattle.rules.proofs.writes.write_one.Goals as goal

pub find_kind-requires : goal.find_kind-requires
find_kind-requires c = (writing-declared c.requires.0, c.requires.1)

pub returns-in_err-cell : goal.returns-in_err-cell
returns-in_err-cell c = rw (exit _ c.from_residual.ensures.1, c.in_err-cell.ensures.1) ((one-fails _ _ _ _ _ _ c.requires.1.1 _ _ _ _ c.in_err-cell.ensures.0 c.requires.0 (some _), tt))

pub returns-then-count-ge2 : goal.returns-then-count-ge2
returns-then-count-ge2 c = rw (c.refused.ensures.0, c.refused.ensures.1) ((one-crowded _ _ _ _ _ _ c.requires.1.1 _ _ _ _ c.in_ok-cell.ensures.0 c.requires.0 refl c.if-count-ge2.true, tt))

pub returns-in_err-arrow : goal.returns-in_err-arrow
returns-in_err-arrow c = rw (exit _ c.from_residual-in_err-arrow.ensures.1) ((one-no-arrow _ _ _ _ _ _ c.requires.1.1 _ _ _ _ c.in_ok-cell.ensures.0 c.requires.0 refl (omega arith) _ _ c.in_err-arrow.ensures (some _), tt))

pub overflow_add-what : goal.overflow_add-what
overflow_add-what c = let (l, a, b, d) = one_inside _ _ _ _ _ _ c.requires.1.1 _ _ _ _ c.in_ok-cell.ensures.0 c.requires.0 refl in omega arith

pub offset_bounds-words-cell : goal.offset_bounds-words-cell
offset_bounds-words-cell c = let (l, a, b, d) = one_inside _ _ _ _ _ _ c.requires.1.1 _ _ _ _ c.in_ok-cell.ensures.0 c.requires.0 refl in search rules

pub bounds-words-cell : goal.bounds-words-cell
bounds-words-cell c = (one_inside _ _ _ _ _ _ c.requires.1.1 _ _ _ _ c.in_ok-cell.ensures.0 c.requires.0 refl).0

pub write_value-requires : goal.write_value-requires
write_value-requires c =
    let (l, a, b, d) = one_inside _ _ _ _ _ _ c.requires.1.1 _ _ _ _ c.in_ok-cell.ensures.0 c.requires.0 refl in
    let p = one-past _ _ _ _ _ _ c.requires.1.1 _ _ _ _ c.in_ok-cell.ensures.0 c.requires.0 refl (omega arith) _ _ c.in_ok-arrow.ensures refl in
    (writing-on c.requires.0 (omega arith) p.1, omega arith, rw c.part0.ensures b, rw c.part1.ensures d)

pub returns : goal.returns
returns c = (
  one_written _ _ _ _ _ _ c.requires.1.1 _ _ _ _ c.in_ok-cell.ensures.0 c.requires.0 refl (omega arith) _ _ c.in_ok-arrow.ensures refl _ _ c.part0.ensures c.part1.ensures _ _ _ _ _ _ c.write_value.ensures,
  ok-past _ _ _ (λ z. let p = one-past _ _ _ _ _ _ c.requires.1.1 _ _ _ _ c.in_ok-cell.ensures.0 c.requires.0 refl (omega arith) _ _ c.in_ok-arrow.ensures refl in let s = (well c.write_value.ensures.outcome z).spent in omega (arith, s.since)),
)

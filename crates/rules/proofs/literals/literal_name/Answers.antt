-- `rules::literals::literal_name` meets its contract.
-- Assumes nothing.
use native.Mathlib.Omega.{arith}
use mathlib.Core.Path.{refl, sym, ◌∙◌, ap}
use Rattle.rules.specs.NamesFound.{name_number}
use borrow.Author.Rules.{rules}
use Rattle.rules.proofs.Stepping.{well, past-place, inside-text}
use Rattle.rules.proofs.LiteralSteps.{given-on, cell-inside, name-unknown, name-input, name-wires, define-at, name-define, test_at, name-store, name-other}
use Rattle.rules.proofs.literals.literal_name.Goals as goal

pub returns-in_default : goal.returns-in_default
returns-in_default c = rw (c.refused.ensures.0, c.refused.ensures.1) ((name-unknown _ _ _ _ _ _ c.requires.1.1 c.requires.2 _ _ _ c.requires.0 (rw c.in_default.is at c.requires.3) refl, λ e h z. absurd (omega arith)))

pub offset_bounds-words-cell : goal.offset_bounds-words-cell
offset_bounds-words-cell c = let l = cell-inside _ _ _ _ _ _ c.requires.1.1 c.requires.2 _ 0 _ c.requires.0 (rw c.in-Some.is at c.requires.3).0 (rw c.in-Some.is at c.requires.3).1 in search rules

pub bounds-words-cell : goal.bounds-words-cell
bounds-words-cell c = let l = cell-inside _ _ _ _ _ _ c.requires.1.1 c.requires.2 _ 0 _ c.requires.0 (rw c.in-Some.is at c.requires.3).0 (rw c.in-Some.is at c.requires.3).1 in omega arith

pub overflow_add-what : goal.overflow_add-what
overflow_add-what c = let l = cell-inside _ _ _ _ _ _ c.requires.1.1 c.requires.2 _ 0 _ c.requires.0 (rw c.in-Some.is at c.requires.3).0 (rw c.in-Some.is at c.requires.3).1 in omega arith

pub offset_bounds-words-cell-in-Wire : goal.offset_bounds-words-cell-in-Wire
offset_bounds-words-cell-in-Wire c = let l = cell-inside _ _ _ _ _ _ c.requires.1.1 c.requires.2 _ 0 _ c.requires.0 (rw c.in-Some.is at c.requires.3).0 (rw c.in-Some.is at c.requires.3).1 in search rules

pub bounds-words-cell-in-Wire : goal.bounds-words-cell-in-Wire
bounds-words-cell-in-Wire c = cell-inside _ _ _ _ _ _ c.requires.1.1 c.requires.2 _ 0 _ c.requires.0 (rw c.in-Some.is at c.requires.3).0 (rw c.in-Some.is at c.requires.3).1

pub wire_more-requires : goal.wire_more-requires
wire_more-requires c =
    let (a, b) = name-input _ _ _ _ _ _ c.requires.1.1 c.requires.2 _ 0 _ c.requires.0 (rw c.in-Some.is at c.requires.3).0 (rw c.in-Some.is at c.requires.3).1 _ refl (c.in-Some-of.ensures ∙ ap name_number c.in-Wire.is) in
    let p = past-place _ _ _ c.requires.1.1 c.requires.2 in
    (given-on c.requires.0 (omega arith) (inside-text _ _ _ c.requires.1.1).1, rw c.part1.ensures a, rw (c.part0.ensures, c.part1.ensures) b, omega arith, (inside-text _ _ _ c.requires.1.1).0)

pub returns-in-Wire : goal.returns-in-Wire
returns-in-Wire c = (name-wires _ _ _ _ _ _ c.requires.1.1 c.requires.2 _ _ _ c.requires.0 (rw c.in-Some.is at c.requires.3).0 (rw c.in-Some.is at c.requires.3).1 _ refl (c.in-Some-of.ensures ∙ ap name_number c.in-Wire.is) _ _ c.part0.ensures c.part1.ensures _ _ c.wire_more.ensures, λ e h z. (well c.wire_more.ensures.outcome z).spent.few)

pub define_literal-requires : goal.define_literal-requires
define_literal-requires c = (c.requires.0, define-at _ _ _ _ _ _ c.requires.1.1 c.requires.2 _ 0 _ c.requires.0 (rw c.in-Some.is at c.requires.3).0 (rw c.in-Some.is at c.requires.3).1 _ refl (c.in-Some-of.ensures ∙ ap name_number c.in-Defined.is), c.requires.1, c.requires.2)

pub returns-in-Defined : goal.returns-in-Defined
returns-in-Defined c = (name-define _ _ _ _ _ _ c.requires.1.1 c.requires.2 _ _ _ c.requires.0 (rw c.in-Some.is at c.requires.3).0 (rw c.in-Some.is at c.requires.3).1 _ refl (c.in-Some-of.ensures ∙ ap name_number c.in-Defined.is) _ _ c.define_literal.ensures.0, c.define_literal.ensures.1)

pub returns-in-Production : goal.returns-in-Production
returns-in-Production c = rw (c.refused-in-Production.ensures.0, c.refused-in-Production.ensures.1) ((name-other _ _ _ _ _ _ c.requires.1.1 c.requires.2 _ _ _ c.requires.0 (rw c.in-Some.is at c.requires.3).0 (rw c.in-Some.is at c.requires.3).1 _ refl (λ z. omega (arith, sym (c.in-Some-of.ensures ∙ ap name_number c.in-Production.is), z)) (λ z. omega (arith, sym (c.in-Some-of.ensures ∙ ap name_number c.in-Production.is), z)) (λ z. omega (arith, sym (c.in-Some-of.ensures ∙ ap name_number c.in-Production.is), z)), λ e h z. absurd (omega arith)))

pub store_name-requires : goal.store_name-requires
store_name-requires c = (c.requires.0, test_at _ _ _ _ _ _ c.requires.1.1 c.requires.2 _ 0 _ c.requires.0 (rw c.in-Some.is at c.requires.3).0 (rw c.in-Some.is at c.requires.3).1 _ refl (c.in-Some-of.ensures ∙ ap name_number c.in-Store.is), c.requires.1, c.requires.2)

pub returns-in-Store : goal.returns-in-Store
returns-in-Store c = (name-store _ _ _ _ _ _ c.requires.1.1 c.requires.2 _ _ _ c.requires.0 (rw c.in-Some.is at c.requires.3).0 (rw c.in-Some.is at c.requires.3).1 _ refl (c.in-Some-of.ensures ∙ ap name_number c.in-Store.is) _ _ c.store_name.ensures.0, c.store_name.ensures.1)

pub returns-in_default-of : goal.returns-in_default-of
returns-in_default-of c =
    let l = c.in_default-of.ensures in
    rw (c.refused-in_default-of.ensures.0, c.refused-in_default-of.ensures.1) ((name-other _ _ _ _ _ _ c.requires.1.1 c.requires.2 _ _ _ c.requires.0 (rw c.in-Some.is at c.requires.3).0 (rw c.in-Some.is at c.requires.3).1 _ refl (λ z. omega (arith, l, z)) (λ z. omega (arith, l, z)) (λ z. omega (arith, l, z)), λ e h z. absurd (omega arith)))

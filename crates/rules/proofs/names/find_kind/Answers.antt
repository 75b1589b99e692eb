-- `rules::names::find_kind` meets its contract.
-- Assumes nothing.
use borrow.Author.Rules.{rules}
use mathlib.Core.Path.{refl, sym, ◌∙◌}
use Rattle.rules.proofs.Stepping.{inside-text}
use Rattle.rules.proofs.Picking.{pick-none, pick-unknown, pick_other, picked, found_inside}
use Rattle.rules.proofs.names.find_kind.Goals as goal

pub returns-then-ne : goal.returns-then-ne
returns-then-ne c = rw (c.misplaced.ensures.0, c.misplaced.ensures.1) ((pick-none _ _ _ _ _ c.requires.1.1 _ (search rules), refl))

pub find-requires : goal.find-requires
find-requires c = ((inside-text _ _ _ c.requires.1.1).0, (inside-text _ _ _ c.requires.1.1).1, c.requires.0)

pub returns-in_default : goal.returns-in_default
returns-in_default c = rw (c.refused.ensures.0, c.refused.ensures.1) ((pick-unknown _ _ _ _ _ c.requires.1.1 _ (search rules) _ c.in_default.ensures refl, refl))

pub returns-then-part0-number : goal.returns-then-part0-number
returns-then-part0-number c =
    rw (c.refused-then-part0-number.ensures.0, c.refused-then-part0-number.ensures.1) ((pick_other _ _ _ _ _ c.requires.1.1 _ (search rules) _ c.in-Some.ensures.0 c.in-Some.ensures.1 (λ z. c.if-part0-number.true (c.part0.ensures ∙ z ∙ sym c.number.ensures)), refl))

pub offset_bounds-words-cell : goal.offset_bounds-words-cell
offset_bounds-words-cell c = let l = found_inside _ _ _ _ _ c.in-Some.ensures.0 c.requires.0 c.in-Some.ensures.1 in search rules

pub bounds-words-cell : goal.bounds-words-cell
bounds-words-cell c = found_inside _ _ _ _ _ c.in-Some.ensures.0 c.requires.0 c.in-Some.ensures.1

pub returns : goal.returns
returns c = (picked _ _ _ _ _ c.requires.1.1 _ (search rules) _ c.in-Some.ensures.0 c.in-Some.ensures.1 (sym c.part0.ensures ∙ c.if-part0-number.false ∙ c.number.ensures), tt)

-- `rules::expression::behind_operand` meets its contract.
-- Assumes nothing.
use borrow.Author.Rules.{rules}
use Rattle.rules.proofs.PartLaws.{is-one, is-none}
use Rattle.rules.proofs.Turning.{turn-star, turn-again, turn_at, turn-comma, turn-bars, turn-ends}
use mathlib.Core.Path.{refl}
use Rattle.rules.proofs.expression.behind_operand.Goals as goal

pub returns-then-eq : goal.returns-then-eq
returns-then-eq c = rw (c.misplaced.ensures.0, c.misplaced.ensures.1) (turn-star _ _ _ _ _ c.see-t.ensures _ _ c.requires (search rules) _ refl refl refl)

pub returns-then-is_some : goal.returns-then-is_some
returns-then-is_some c = rw (c.misplaced-then-is_some.ensures.0, c.misplaced-then-is_some.ensures.1) (turn-again _ _ _ _ _ c.see-t.ensures _ _ c.requires (search rules) (is-one _ c.if-is_some.ensures) _ refl refl refl)

pub returns-then-eq-2 : goal.returns-then-eq-2
returns-then-eq-2 c = turn_at _ _ _ _ _ c.see-t.ensures _ _ c.requires _ refl refl refl (search rules) (is-none _ c.if-is_some.ensures) refl refl

pub returns-then-eq-3 : goal.returns-then-eq-3
returns-then-eq-3 c = turn-comma _ _ _ _ _ c.see-t.ensures _ _ c.requires _ refl refl refl (search rules) _ _ _ refl refl c.sequenced-m.ensures

pub returns-then-eq-4 : goal.returns-then-eq-4
returns-then-eq-4 c = turn-bars _ _ _ _ _ c.see-t.ensures _ _ c.requires _ refl refl refl (search rules) _ _ _ refl refl c.whole-m.ensures

pub returns : goal.returns
returns c = turn-ends _ _ _ _ _ c.see-t.ensures _ _ c.requires (search rules) (search rules) (search rules) (search rules) _ _ _ c.whole-m.ensures _ refl refl

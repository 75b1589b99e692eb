-- The answers to the goals of `lexer::number_at`.
use mathlib.Core.Path.{sym, ◌∙◌}
use borrow.Author.Rules.{rules}
use Rattle.lexer.proofs.Runs.{rest}
use Rattle.lexer.proofs.Numbers.{left-ends, left-stops, left-goes, left-large}
use Rattle.lexer.proofs.number_at.Goals as goal

pub returns-then-not-is_digit : goal.returns-then-not-is_digit
returns-then-not-is_digit c =
    left-stops _ _ _ _ c.loop-i.invariant (rw rest at c.loop-i-test.true) (rw rest at (sym c.is_digit.ensures ∙ c.if-not-is_digit.true))

pub returns-in_default : goal.returns-in_default
returns-in_default c =
    c.knot_at.ensures _
    ∙ left-large _ _ _ _ c.loop-i.invariant (rw rest at c.loop-i-test.true) (rw rest at (sym c.is_digit.ensures ∙ c.if-not-is_digit.false)) (rw rest at c.in_default.ensures)

pub loop-i-preserved : goal.loop-i-preserved
loop-i-preserved c =
    left-goes _ _ _ _ c.loop-i.invariant (rw rest at c.loop-i-test.true) (rw rest at (sym c.is_digit.ensures ∙ c.if-not-is_digit.false)) _ (rw rest at c.in-Some.ensures) (search rules)

pub returns : goal.returns
returns c = left-ends _ _ _ _ c.loop-i.invariant (rw rest at c.loop-i-test.false) (rw rest at c.loop-i.auto.i-end) c.requires

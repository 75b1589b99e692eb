-- `lexer::sign_at` meets its contract.
-- Assumes nothing.
use mathlib.Core.Path.{sym, ◌∙◌, ap}
use native.Mathlib.Omega.{arith}
use borrow.Author.Rules.{rules}
use mathlib.Core.Bool.{false≢true}
use denote.Enum.Bare.{same_true, sameb}
use Rattle.lexer.specs.declared.Sign.{Sign}
use Rattle.lexer.specs.declared.Sign.TheVariants.{DoubleEquals}
use Rattle.lexer.specs.contracts.Sign.{the_type}
use Rattle.lexer.specs.Shown.{sign_number}
use Rattle.lexer.proofs.Signs.{sign-alone, sign-pair, sign-one, sign-half, is-double-equals}
use Rattle.lexer.proofs.sign_at.Goals as goal

pub returns-in_default : goal.returns-in_default
returns-in_default c =
    sign-alone _ _ c.requires.place_in_bounds (omega (arith, c.type_inv.text c.args.place)) _ c.requires.begins (sym c.in_default.is ∙ c.second.ensures)

pub returns-then-next_is : goal.returns-then-next_is
returns-then-next_is c =
    sign-pair _ _ c.requires.place_in_bounds (omega (arith, c.type_inv.text c.args.place)) _ c.requires.begins _ (sym c.in-Some.is ∙ c.second.ensures)
    (sym c.next_is.ensures ∙ c.if-next_is.true)

pub returns-then-eq : goal.returns-then-eq
returns-then-eq c =
    sign-one _ _ c.requires.place_in_bounds (omega (arith, c.type_inv.text c.args.place)) _ c.requires.begins _ (sym c.in-Some.is ∙ c.second.ensures)
    (sym c.next_is.ensures ∙ c.if-next_is.false)
    (ap sign_number (same_true the_type (search rules) _ DoubleEquals (sym c.if-eq.ensures)))

pub returns : goal.returns
returns c =
    c.knot_at.ensures _
    ∙ sign-half _ _ c.requires.place_in_bounds (omega (arith, c.type_inv.text c.args.place)) _ c.requires.begins _ (sym c.in-Some.is ∙ c.second.ensures)
    (sym c.next_is.ensures ∙ c.if-next_is.false)
    (λ e. false≢true (c.if-eq.ensures ∙ ap (λ (g : Sign). sameb the_type g DoubleEquals) (is-double-equals c.args.longest e)))

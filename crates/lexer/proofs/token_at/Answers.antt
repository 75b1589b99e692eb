-- `lexer::token_at` meets its contract.
-- Assumes nothing.
use mathlib.Core.Path.{◌≡◌, sym, ◌∙◌, ap}
use native.Mathlib.Omega.{arith}
use borrow.Author.Rules.{rules}
use Rattle.lexer.specs.Bytes.{is_white}
use Rattle.lexer.specs.Classes.{class_number}
use Rattle.lexer.specs.declared.classes.Class.TheVariants.{Digit, Letter}
use Rattle.lexer.proofs.ByteClass.{is-digit, is-letter, no-digit, no-letter, small}
use Rattle.lexer.proofs.First.{token_end, token-first, first-digit, first-letter, first-sign}
use Rattle.lexer.proofs.Signs.{sign-none}
use Rattle.lexer.proofs.token_at.Goals as goal

pub returns-then-text-place : goal.returns-then-text-place
returns-then-text-place c = token_end _ _ _ _ _ c.min.ensures (c.run_end-place.ensures.ends is_white (search rules)) c.if-text-place.true

pub returns-in-Digit : goal.returns-in-Digit
returns-in-Digit c =
    c.number_at.ensures
    ∙ first-digit _ _ _ c.if-text-place.false (is-digit _ _ c.class_of.ensures c.in-Digit.is)
    ∙ token-first _ _ _ _ _ c.min.ensures (c.run_end-place.ensures.ends is_white (search rules)) c.if-text-place.false

pub returns-in-Letter : goal.returns-in-Letter
returns-in-Letter c =
    c.name_at.ensures
    ∙ first-letter _ _ _ c.if-text-place.false (no-digit _ _ c.class_of.ensures (λ (e : c.class_of.result ≡ Digit). omega (arith, ap class_number (sym c.in-Letter.is ∙ e)))) (is-letter _ _ c.class_of.ensures c.in-Letter.is)
    ∙ token-first _ _ _ _ _ c.min.ensures (c.run_end-place.ensures.ends is_white (search rules)) c.if-text-place.false

pub returns-in-Sign : goal.returns-in-Sign
returns-in-Sign c =
    c.sign_at.ensures
    ∙ first-sign _ _ _ c.if-text-place.false (no-digit _ _ c.class_of.ensures (λ (e : c.class_of.result ≡ Digit). omega (arith, ap class_number (sym c.in-Sign.is ∙ e)))) (no-letter _ _ c.class_of.ensures (λ (e : c.class_of.result ≡ Letter). omega (arith, ap class_number (sym c.in-Sign.is ∙ e))))
    ∙ token-first _ _ _ _ _ c.min.ensures (c.run_end-place.ensures.ends is_white (search rules)) c.if-text-place.false

pub returns-in-White : goal.returns-in-White
returns-in-White c =
    c.knot_at.ensures _
    ∙ sign-none _ _ c.if-text-place.false (omega (arith, c.type_inv.text c.run_end-place.result)) _ c.class_of.ensures (omega (arith, small _ c.in-White.is))
    ∙ first-sign _ _ _ c.if-text-place.false (no-digit _ _ c.class_of.ensures (λ (e : c.class_of.result ≡ Digit). omega (arith, small _ c.in-White.is, ap class_number e))) (no-letter _ _ c.class_of.ensures (λ (e : c.class_of.result ≡ Letter). omega (arith, small _ c.in-White.is, ap class_number e)))
    ∙ token-first _ _ _ _ _ c.min.ensures (c.run_end-place.ensures.ends is_white (search rules)) c.if-text-place.false

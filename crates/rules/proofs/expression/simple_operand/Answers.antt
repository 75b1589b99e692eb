-- `rules::expression::simple_operand` meets its contract.
-- Assumes nothing.
use borrow.Author.Rules.{rules}
use native.Mathlib.Omega.{arith}
use mathlib.Core.Path.{◌≡◌, refl}
use Rattle.lexer.specs.declared.Kind.TheVariants as kind
use Rattle.lexer.specs.declared.Sign.TheVariants as signs
use Rattle.std.specs.Prelude.{Err}
use Rattle.rules.specs.Expressions.{told_parsed}
use Rattle.rules.proofs.Misreads.{exit, some, ok-past}
use Rattle.rules.proofs.Stepping.{well, past-at, past-place, inside-text}
use Rattle.rules.proofs.Picking.{finds-cell, found-cell}
use Rattle.rules.proofs.LetterSteps.{ends-from, named-declared, first-given, begun, letter-read, not_same, simple-fails, found-low, production-at, simple-production, name-same}
use Rattle.rules.proofs.expression.simple_operand.Goals as goal

pub negated-requires : goal.negated-requires
negated-requires c =
    let q : c.args.t.kind ≡ kind.Sign signs.Bang = search rules in
    let p = past-at _ _ _ c.requires.1.1 q tt in first-given _ _ _ _ _ _ c.requires.1.1 c.requires.0 c.requires.2 _ c.no_literals.ensures.0 c.no_literals.ensures.1 _ (omega arith) (inside-text _ _ _ c.requires.1.1).1

pub letter_rest-requires : goal.letter_rest-requires
letter_rest-requires c =
    let q : c.args.t.kind ≡ kind.Sign signs.Bang = search rules in
    begun _ _ _ _ _ _ c.requires.1.1 c.requires.0 c.requires.2 _ c.no_literals.ensures.0 c.no_literals.ensures.1 _ _ _ (let p = past-at _ _ _ c.requires.1.1 q tt in omega arith) (past-at _ _ _ c.requires.1.1 q tt) _ _ c.in_ok-l.ensures (λ z. (well c.in_ok-l.ensures.outcome z).spent.few) (not_same _ _ _ _ _ _ c.requires.1.1 c.requires.0 c.requires.2 q) refl

pub returns-in_err-l : goal.returns-in_err-l
returns-in_err-l c =
    let q : c.args.t.kind ≡ kind.Sign signs.Bang = search rules in
    rw (exit _ c.from_residual.ensures.1) ((letter-read _ _ _ _ _ _ c.requires.1.1 c.requires.0 c.requires.2 _ c.no_literals.ensures.0 c.no_literals.ensures.1 _ _ _ (let p = past-at _ _ _ c.requires.1.1 q tt in omega arith) (past-at _ _ _ c.requires.1.1 q tt) _ _ c.in_err-l.ensures (λ z. (well c.in_err-l.ensures.outcome z).spent.few) (not_same _ _ _ _ _ _ c.requires.1.1 c.requires.0 c.requires.2 q) (told_parsed c.args.free (Err _)) _ refl (λ n. (refl, refl)) (λ z. absurd (some _ z))).0, tt)

pub returns-then-eq : goal.returns-then-eq
returns-then-eq c =
    let q : c.args.t.kind ≡ kind.Sign signs.Bang = search rules in
    let e = ends-from _ _ _ _ _ _ _ _ _ _ c.letter_rest.ensures in
    let r = letter-read _ _ _ _ _ _ c.requires.1.1 c.requires.0 c.requires.2 _ c.no_literals.ensures.0 c.no_literals.ensures.1 _ _ _ (let p = past-at _ _ _ c.requires.1.1 q tt in omega arith) (past-at _ _ _ c.requires.1.1 q tt) _ _ c.in_ok-l.ensures (λ z. (well c.in_ok-l.ensures.outcome z).spent.few) (not_same _ _ _ _ _ _ c.requires.1.1 c.requires.0 c.requires.2 q) (told_parsed c.args.free c.letter_rest.result) _ e.long (λ n. absurd (n refl)) (λ z. e) in
    (r.0, ok-past _ _ _ r.1)

pub returns-then-ne : goal.returns-then-ne
returns-then-ne c = rw (c.misplaced.ensures.0, c.misplaced.ensures.1) (((simple-fails _ _ _ _ _ _ c.requires.1.1 c.requires.0 c.requires.2 (search rules) (search rules) _).0, tt))

pub find-found-requires : goal.find-found-requires
find-found-requires c = ((inside-text _ _ _ c.requires.1.1).0, (inside-text _ _ _ c.requires.1.1).1, named-declared _ _ _ _ _ _ c.requires.1.1 c.requires.0 c.requires.2)

pub production_found-requires : goal.production_found-requires
production_found-requires c = (
  found-low _ _ _ _ _ _ c.requires.1.1 c.requires.0 c.requires.2 (search rules) (search rules) _ (finds-cell _ _ _ _ _ c.find-found.ensures),
  production-at _ _ _ _ _ _ c.requires.1.1 c.requires.0 c.requires.2 (search rules) (search rules) _ (finds-cell _ _ _ _ _ c.find-found.ensures) _ refl,
  found-cell _ _ _ _ _ c.find-found.ensures,
)

pub returns-in-Some : goal.returns-in-Some
returns-in-Some c = let r = simple-production _ _ _ _ _ _ c.requires.1.1 c.requires.0 c.requires.2 (search rules) (search rules) _ (finds-cell _ _ _ _ _ c.find-found.ensures) _ refl c.in-Some.ensures.0 _ c.in-Some.ensures.1 in (r.0, r.1 refl)

pub literal_name-requires : goal.literal_name-requires
literal_name-requires c = (first-given _ _ _ _ _ _ c.requires.1.1 c.requires.0 c.requires.2 _ c.no_literals-in-None.ensures.0 c.no_literals-in-None.ensures.1 _ (omega arith) (let p = inside-text _ _ _ c.requires.1.1 in omega arith), c.requires.1, (search rules), c.find-found.ensures)

pub letter_rest-requires-in-None : goal.letter_rest-requires-in-None
letter_rest-requires-in-None c = begun _ _ _ _ _ _ c.requires.1.1 c.requires.0 c.requires.2 _ c.no_literals-in-None.ensures.0 c.no_literals-in-None.ensures.1 _ _ _ (omega arith) (past-place _ _ _ c.requires.1.1 (search rules)) _ _ c.in_ok-l-in-None.ensures.0 (c.in_ok-l-in-None.ensures.1 c.no_literals-in-None.ensures.1 c.no_literals-in-None.ensures.2) (name-same _ _ _ _ _ _ c.requires.1.1 c.requires.0 c.requires.2 (search rules) (search rules) _ (finds-cell _ _ _ _ _ c.find-found.ensures) _ refl c.in-None.ensures) refl

pub returns-in_err-l-in-None : goal.returns-in_err-l-in-None
returns-in_err-l-in-None c =
    rw (exit _ c.from_residual-in_err-l-in-None.ensures.1) ((letter-read _ _ _ _ _ _ c.requires.1.1 c.requires.0 c.requires.2 _ c.no_literals-in-None.ensures.0 c.no_literals-in-None.ensures.1 _ _ _ (omega arith) (past-place _ _ _ c.requires.1.1 (search rules)) _ _ c.in_err-l-in-None.ensures.0 (c.in_err-l-in-None.ensures.1 c.no_literals-in-None.ensures.1 c.no_literals-in-None.ensures.2) (name-same _ _ _ _ _ _ c.requires.1.1 c.requires.0 c.requires.2 (search rules) (search rules) _ (finds-cell _ _ _ _ _ c.find-found.ensures) _ refl c.in-None.ensures) (told_parsed c.args.free (Err _)) _ refl (λ n. (refl, refl)) (λ z. absurd (some _ z))).0, tt)

pub returns-in_ok-l-in-None : goal.returns-in_ok-l-in-None
returns-in_ok-l-in-None c =
    let e = ends-from _ _ _ _ _ _ _ _ _ _ c.letter_rest-in-None.ensures in
    let r = letter-read _ _ _ _ _ _ c.requires.1.1 c.requires.0 c.requires.2 _ c.no_literals-in-None.ensures.0 c.no_literals-in-None.ensures.1 _ _ _ (omega arith) (past-place _ _ _ c.requires.1.1 (search rules)) _ _ c.in_ok-l-in-None.ensures.0 (c.in_ok-l-in-None.ensures.1 c.no_literals-in-None.ensures.1 c.no_literals-in-None.ensures.2) (name-same _ _ _ _ _ _ c.requires.1.1 c.requires.0 c.requires.2 (search rules) (search rules) _ (finds-cell _ _ _ _ _ c.find-found.ensures) _ refl c.in-None.ensures) (told_parsed c.args.free c.letter_rest-in-None.result) _ e.long (λ n. absurd (n refl)) (λ z. e) in
    (r.0, ok-past _ _ _ r.1)

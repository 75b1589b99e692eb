-- Reading stops at the last token: behind the end of a text and behind a knot nothing is read. So reading from a position on is judging the token there, and reading on behind it.
-- Assumes nothing.
use mathlib.Core.Path.{◌≡◌, refl, ◌∙◌, ap}
use mathlib.Core.Bool.{Bool, true, false, cond}
use mathlib.Core.List.{List, []}
use Prim.Native.Nat.{ℕ}
use Rattle.lexer.specs.Tokens.{Token, Placed, goes_on, token_at, tokens_at, rule_words}
use Rattle.lexer.proofs.Order.{tokens-step}
use Rattle.meaning.specs.Answers.{Answer}
use Rattle.meaning.specs.Reading.{Expect, Step, go, finished, fault, step, and_then, read_on}
use Rattle.meaning.specs.Names.{Names, Program}
use Rattle.meaning.proofs.ListLaws.{clash}
use Rattle.meaning.proofs.Outcomes.{Next, by_sign, by_number, by_name, by_word, Outcome, refusal, late, ended, goes, outcome}

-- the step reads on no further
abbrev Halts : Step → Type 0
Halts (go ns x) = ⊥
Halts (finished p) = Unit {0}
Halts (fault number place) = Unit {0}

pub next-goes-on : {ns ms : Names} {place : ℕ} {u : Token} {x y : Expect} → Next ns place u x ms y → goes_on u ≡ true
next-goes-on (by_sign n) = refl
next-goes-on (by_number n) = refl
next-goes-on (by_name n) = refl
next-goes-on (by_word n) = refl

-- At the end and at a knot reading stops, whatever is expected.
halts : {ns : Names} {t : Placed} {x : Expect} {s : Step} → goes_on t.token ≡ false → Outcome ns t x s → Halts s
halts h refusal = tt
halts h late = tt
halts h (ended e) = tt
halts h (goes e n) = clash (cc (next-goes-on n))

-- ---- reading from a position on

-- what a step that halts comes to does not depend on what would follow
halted : (s : Step) (next more : Names → Expect → Answer Program) → Halts s → and_then s next ≡ and_then s more
halted (go ns x) next more h = absurd h
halted (finished p) next more h = refl
halted (fault number place) next more h = refl

-- Reading from a position on is judging the token there, and reading on from the place behind it.
pub read-from : (text : List ℕ) (at : ℕ) (ns : Names) (x : Expect)
    → read_on ns x (tokens_at rule_words text at)
    ≡ and_then (step ns x (token_at rule_words text at)) (λ ms y. read_on ms y (tokens_at rule_words text (token_at rule_words text at).after))
unfolding read_on
read-from text at ns x =
    ap (read_on ns x) (tokens-step rule_words text at) ∙ on (goes_on (token_at rule_words text at).token) refl
  where
    more : Names → Expect → Answer Program
    more ms y = read_on ms y (tokens_at rule_words text (token_at rule_words text at).after)

    on : (b : Bool) → goes_on (token_at rule_words text at).token ≡ b
        → and_then (step ns x (token_at rule_words text at)) (λ ms y. read_on ms y (cond b (tokens_at rule_words text (token_at rule_words text at).after) []))
        ≡ and_then (step ns x (token_at rule_words text at)) more
    on true e = refl
    on false e = halted (step ns x (token_at rule_words text at)) _ more (halts e (outcome ns (token_at rule_words text at) x))

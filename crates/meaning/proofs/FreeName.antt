-- A name is free among fewer than 128: a word of seven letters, each an a or a b (97 and 98). At most half of the names begin with the one letter, or with the other, and the
-- next letters are chosen among what follows it in these. Assumes nothing.
use mathlib.Core.Path.{◌≡◌, refl, ◌∙◌, ap}
use mathlib.Core.Bool.{Bool, true, false, ◌&&◌}
use mathlib.Core.List.{List, [], ◌∷◌}
use mathlib.Core.Option.{Option, none, some}
use Prim.Native.Nat.{ℕ, zero, suc, ◌+◌, ◌^◌, ◌≤◌, ◌<◌}
use native.Mathlib.Nat.{pow-suc}
use native.Mathlib.Omega.{arith}
use lib.Dec.{eqb, ltb}
use lib.ListN.{length}
use borrow.Author.Tests.{eqb-true, ltb-true, ltb-false}
use Rattle.lexer.specs.Bytes.{Entry, same, lookup, run, is_white, is_digit, is_letter}
use Rattle.lexer.specs.Tokens as token
use Rattle.lexer.specs.Tokens.{Token, name_token, first_token, next_token, token_at, rule_words}
use Rattle.lexer.proofs.Bools.{and_left, and_right}
use Rattle.lexer.proofs.Spelling.{same-eq}
use Rattle.meaning.specs.Names.{Names}
use Rattle.meaning.specs.Grammar.{Free}
use Rattle.meaning.specs.Viable.{Spelled, Room}
use Rattle.meaning.proofs.ListLaws.{clash}

-- the test passes at every word of k letters
abbrev every_word : ℕ → (List ℕ → Bool) → Bool
every_word zero f = f []
every_word (suc k) f = every_word k (λ s. f (97 ∷ s)) && every_word k (λ s. f (98 ∷ s))

module _ {A : Type 0} where
  -- the entry of what follows b, before others, where its spelling begins with b
  abbrev after : Bool → List ℕ → A → List (Entry A) → List (Entry A)
  after true s m es = record { spelling = s; meaning = m } ∷ es
  after false s m es = es

  abbrev from : ℕ → List ℕ → A → List (Entry A) → List (Entry A)
  from b [] m es = es
  from b (c ∷ s) m es = after (eqb b c) s m es

  -- the entries whose spelling begins with b, of what follows it
  abbrev behind : ℕ → List (Entry A) → List (Entry A)
  behind b [] = []
  behind b (e ∷ es) = from b e.spelling e.meaning (behind b es)

  -- what is looked up is this, or in the rest
  abbrev found : A → Bool → Option A → Option A
  found m t other = elim t [ true ↦ some m | false ↦ other ]

  lookup-behind : (b : ℕ) (s : List ℕ) (es : List (Entry A)) → lookup (b ∷ s) es ≡ lookup s (behind b es)
  unfolding lookup same
  lookup-behind b s [] = refl
  lookup-behind b s (e ∷ es) = by e.spelling (lookup-behind b s es)
    where
      at : (t : Bool) (r : List ℕ) → lookup (b ∷ s) es ≡ lookup s (behind b es)
          → found e.meaning (t && same s r) (lookup (b ∷ s) es) ≡ lookup s (after t r e.meaning (behind b es))
      at true r ih = ap (found e.meaning (same s r)) ih
      at false r ih = ih

      by : (r : List ℕ) → lookup (b ∷ s) es ≡ lookup s (behind b es)
          → found e.meaning (same (b ∷ s) r) (lookup (b ∷ s) es) ≡ lookup s (from b r e.meaning (behind b es))
      by [] ih = ih
      by (c ∷ r) ih = at (eqb b c) r ih

  halves : (es : List (Entry A)) → length (behind 97 es) + length (behind 98 es) ≤ length es
  halves [] = omega arith
  halves (e ∷ es) = by e.spelling (halves es)
    where
      at : (c : ℕ) (s : List ℕ) (t u : Bool) → eqb 97 c ≡ t → eqb 98 c ≡ u → length (behind 97 es) + length (behind 98 es) ≤ length es
          → length (after t s e.meaning (behind 97 es)) + length (after u s e.meaning (behind 98 es)) ≤ suc (length es)
      at c s true true f g h = omega (arith, eqb-true 97 c f, eqb-true 98 c g)
      at c s true false f g h = omega arith
      at c s false true f g h = omega arith
      at c s false false f g h = omega arith

      by : (s : List ℕ) → length (behind 97 es) + length (behind 98 es) ≤ length es
          → length (from 97 s e.meaning (behind 97 es)) + length (from 98 s e.meaning (behind 98 es)) ≤ suc (length es)
      by [] h = omega arith
      by (c ∷ s) h = at c s (eqb 97 c) (eqb 98 c) refl refl h

  -- Among fewer entries than there are words of k letters one of these is free, and it passes a test that they all pass.
  free-word : (k : ℕ) (f : List ℕ → Bool) (es : List (Entry A)) → every_word k f ≡ true → length es < 2 ^ k → (s : List ℕ) × (lookup s es ≡ none) × (f s ≡ true)
  unfolding lookup
  free-word zero f [] t h = ([], refl, t)
  free-word zero f (e ∷ es) t h = absurd (omega arith)
  free-word (suc k) f es t h =
      by (ltb (length (behind 97 es)) (2 ^ k)) refl
      (λ l. letter 97 (free-word k (λ s. f (97 ∷ s)) (behind 97 es) (and_left _ (every_word k (λ s. f (98 ∷ s))) t) l))
      (λ l. letter 98 (free-word k (λ s. f (98 ∷ s)) (behind 98 es) (and_right (every_word k (λ s. f (97 ∷ s))) _ t) l))
    where
      letter : (b : ℕ) → (s : List ℕ) × (lookup s (behind b es) ≡ none) × (f (b ∷ s) ≡ true) → (s : List ℕ) × (lookup s es ≡ none) × (f s ≡ true)
      letter b (s, g, u) = (b ∷ s, lookup-behind b s es ∙ g, u)

      by : {B : Type 0} (t : Bool) → ltb (length (behind 97 es)) (2 ^ k) ≡ t → (length (behind 97 es) < 2 ^ k → B) → (length (behind 98 es) < 2 ^ k → B) → B
      by true e one other = one (ltb-true _ _ e)
      by false e one other = other (omega (arith, ltb-false (length (behind 97 es)) (2 ^ k) e, halves es, pow-suc 2 k))

-- the token is this name
abbrev is_name : List ℕ → Token → Bool
is_name s (token.name r) = same r s
is_name s (token.word w) = false
is_name s (token.number n) = false
is_name s (token.sign n) = false
is_name s token.end = false
is_name s (token.refused n) = false

is_name_lem : (s : List ℕ) (t : Token) → is_name s t ≡ true → t ≡ token.name s
is_name_lem s (token.name r) e = ap token.name (same-eq r s e)
is_name_lem s (token.word w) e = clash (cc)
is_name_lem s (token.number n) e = clash (cc)
is_name_lem s (token.sign n) e = clash (cc)
is_name_lem s token.end e = clash (cc)
is_name_lem s (token.refused n) e = clash (cc)

-- all words of seven letters are names, by computation
words-named : every_word 7 (λ s. is_name s (token_at rule_words s 0).token) ≡ true
unfolding token_at next_token first_token name_token run same lookup is_white is_digit is_letter
words-named = refl

-- a name that may be declared, and that a text can have
abbrev pub New : Names → List ℕ → Type 0
New ns s = Free ns s × Spelled (token.name s)

-- Where there is room for a name, there is one.
pub new-name : (ns : Names) → Room 1 ns → (s : List ℕ) × New ns s
new-name ns h =
    let (s, e, t) = free-word 7 (λ s. is_name s (token_at rule_words s 0).token) ns.declared words-named (omega arith) in
    (s, ((e, omega arith), (s, 0, is_name_lem s _ t)))

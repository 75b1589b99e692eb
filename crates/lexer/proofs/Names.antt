-- What the code finds where a name or a reserved word begins is what the definition says.
-- Assumes nothing.
use mathlib.Core.Path.{◌≡◌, refl, ◌∙◌, ap}
use mathlib.Core.Bool.{Bool, true, false, ◌&&◌, false≢true}
use mathlib.Core.List.{List, [], ◌∷◌}
use mathlib.Core.Option.{none, some}
use Prim.Native.Nat.{ℕ, ◌+◌, ◌-◌, ◌<◌, ◌≤◌}
use native.Mathlib.Omega.{arith}
use Rattle.std.proofs.lemmas.List.{drop_more}
use lib.ListN.{length, get_or, take, drop, drop_of_length-le}
use borrow.Author.Tests.{le-leb, lt-leb}
use Rattle.lexer.specs.declared.Kind.{Kind}
use Rattle.lexer.specs.declared.Reserved.{Reserved}
use Rattle.lexer.specs.declared.Word as Code
use Rattle.lexer.specs.declared.TheConstants.{WORDS}
use Rattle.lexer.specs.Bytes.{bytes, run, same, lookup, is_name_byte}
use Rattle.lexer.specs.Tokens.{Word, Token, Placed, spelling, entries, or_name, name_token, knot}
use Rattle.lexer.specs.Shown.{with_word, word_shown, is_reserved, kind_shown, shown}
use Rattle.lexer.proofs.Spelling.{lookup-nil, lookup-hit, lookup-miss}
use Rattle.lexer.proofs.Runs.{take-run}

pub placed : {t u : Token} {p q m n : ℕ} → t ≡ u → p ≡ q → m ≡ n
    → ◌≡◌ {A = Placed} (record { token = t; place = p; after = m }) (record { token = u; place = q; after = n })
placed a b c = λ i. record { token = a i; place = b i; after = c i }

-- a list of reserved words, the first of which is there or not
module _ (s : List ℕ) (b : Bool) (w : Word) (ws : List Word) where
  pub word-hit : (b && same s (bytes (spelling w))) ≡ true → lookup s (entries (with_word b w ws)) ≡ some w
  word-hit e = go b e
    where
      go : (b : Bool) → (b && same s (bytes (spelling w))) ≡ true → lookup s (entries (with_word b w ws)) ≡ some w
      go true e = lookup-hit s _ (entries ws) e
      go false e = absurd (false≢true e)

  pub word-miss : (b && same s (bytes (spelling w))) ≡ false → lookup s (entries (with_word b w ws)) ≡ lookup s (entries ws)
  word-miss e = go b e
    where
      go : (b : Bool) → (b && same s (bytes (spelling w))) ≡ false → lookup s (entries (with_word b w ws)) ≡ lookup s (entries ws)
      go true e = lookup-miss s _ (entries ws) e
      go false e = refl

-- the words of a list that are reserved
abbrev pub kept : Reserved → List Code.Word → List Word
kept r [] = []
kept r (w ∷ ws) = with_word (is_reserved r w) (word_shown w) (kept r ws)

-- the reserved words from the i-th on; a name that is not the i-th is looked for among the rest
module _ (s : List ℕ) (r : Reserved) (i : ℕ) (d : Code.Word) (here : i < length WORDS) where
  abbrev spelled : Bool
  spelled = is_reserved r (get_or WORDS i d) && same s (bytes (spelling (word_shown (get_or WORDS i d))))

  pub word-found : spelled ≡ true → lookup s (entries (kept r (drop i WORDS))) ≡ some (word_shown (get_or WORDS i d))
  word-found e = ap (λ (ws : List Code.Word). lookup s (entries (kept r ws))) (drop_more WORDS i d here) ∙ word-hit s _ _ (kept r (drop (i + 1) WORDS)) e

  pub word-passed : spelled ≡ false → lookup s (entries (kept r (drop i WORDS))) ≡ lookup s (entries (kept r (drop (i + 1) WORDS)))
  word-passed e = ap (λ (ws : List Code.Word). lookup s (entries (kept r ws))) (drop_more WORDS i d here) ∙ word-miss s _ _ (kept r (drop (i + 1) WORDS)) e

pub none-kept : (s : List ℕ) (r : Reserved) (i : ℕ) → length WORDS ≤ i → lookup s (entries (kept r (drop i WORDS))) ≡ none
none-kept s r i h = ap (λ (ws : List Code.Word). lookup s (entries (kept r ws))) (drop_of_length-le WORDS {i = i} h) ∙ lookup-nil s

module _ (R : List Word) where
  module _ (s : List ℕ) (p q : ℕ) (ends : q ≡ p + length (run is_name_byte (drop p s))) where
    pub name-long : 16 < q - p → knot p ≡ name_token R p (run is_name_byte (drop p s))
    unfolding name_token
    name-long h = rw (lt-leb (length (run is_name_byte (drop p s))) 16 (omega (arith, ends)))

    pub name-short : q - p ≤ 16 → (k : Kind)
        → kind_shown (take (q - p) (drop p s)) k ≡ or_name (take (q - p) (drop p s)) (lookup (take (q - p) (drop p s)) (entries R))
        → shown s (record { kind = k; place = p; after = q }) ≡ name_token R p (run is_name_byte (drop p s))
    unfolding name_token
    name-short h k e =
        let n : q - p ≡ length (run is_name_byte (drop p s)) = omega (arith, ends) in
        let x : take (q - p) (drop p s) ≡ run is_name_byte (drop p s) = rw n (take-run is_name_byte (drop p s)) in
        rw (le-leb (length (run is_name_byte (drop p s))) 16 (omega (arith, ends)))
        (placed (e ∙ ap (λ (l : List ℕ). or_name l (lookup l (entries R))) x) refl ends)

-- The test of equality of byte strings, and what a list of spellings holds.
-- Assumes nothing.
use mathlib.Core.Path.{◌≡◌, refl, sym, ◌∙◌, ap, ap₂, subst}
use mathlib.Core.Bool.{Bool, true, false, ◌&&◌, false≢true}
use mathlib.Core.List.{List, [], ◌∷◌}
use mathlib.Core.Option.{Option, none, some, none-ne-some}
use Prim.Native.Nat.{ℕ}
use lib.Dec.{eqb}
use borrow.Author.Tests.{eqb-true, eq-eqb}
use Rattle.std.specs.Cmp.Lexicographic.{pointwise}
use Rattle.lexer.specs.Bytes.{Entry, same, lookup}
use Rattle.lexer.proofs.Bools.{and_left, and_right}

pub same-eq : (s t : List ℕ) → same s t ≡ true → s ≡ t
unfolding same
same-eq [] [] e = refl
same-eq [] (c ∷ t) e = absurd (false≢true e)
same-eq (b ∷ s) [] e = absurd (false≢true e)
same-eq (b ∷ s) (c ∷ t) e =
    ap₂ (λ (x : ℕ) (l : List ℕ). x ∷ l) (eqb-true b c (and_left (eqb b c) (same s t) e)) (same-eq s t (and_right (eqb b c) (same s t) e))

pub same_refl : (s : List ℕ) → same s s ≡ true
unfolding same
same_refl [] = refl
same_refl (b ∷ s) = rw (eq-eqb b b refl) (same_refl s)

-- the code compares two slices byte by byte
pub pointwise-same : (s t : List ℕ) → pointwise eqb s t ≡ same s t
unfolding same
pointwise-same [] [] = refl
pointwise-same [] (c ∷ t) = refl
pointwise-same (b ∷ s) [] = refl
pointwise-same (b ∷ s) (c ∷ t) = ap (λ (r : Bool). eqb b c && r) (pointwise-same s t)

-- a list of spellings is searched from the front
pub lookup-nil : {A : Type 0} (s : List ℕ) → ◌≡◌ {A = Option A} (lookup s []) none
unfolding lookup
lookup-nil s = refl

module _ {A : Type 0} (s : List ℕ) (e : Entry A) (es : List (Entry A)) where
  pub lookup-hit : same s e.spelling ≡ true → lookup s (e ∷ es) ≡ some e.meaning
  unfolding lookup
  lookup-hit q =
      subst
      (λ (t : Bool). ◌≡◌ {A = Option A} (elim t as (λ _. Option A) [ true ↦ some e.meaning | false ↦ lookup s es ]) (some e.meaning))
      (sym q)
      refl

  pub lookup-miss : same s e.spelling ≡ false → lookup s (e ∷ es) ≡ lookup s es
  unfolding lookup
  lookup-miss q =
      subst
      (λ (t : Bool). ◌≡◌ {A = Option A} (elim t as (λ _. Option A) [ true ↦ some e.meaning | false ↦ lookup s es ]) (lookup s es))
      (sym q)
      refl

-- what every spelling of a list passes, a spelling that is found there passes
abbrev pub spelled : {A : Type 0} → (List ℕ → Bool) → List (Entry A) → Bool
spelled q [] = true
spelled q (e ∷ es) = q e.spelling && spelled q es

pub lookup-passes : {A : Type 0} (q : List ℕ → Bool) (s : List ℕ) (es : List (Entry A)) (a : A)
    → spelled q es ≡ true → lookup s es ≡ some a → q s ≡ true
lookup-passes q s [] a h e = absurd (none-ne-some a (sym (lookup-nil s) ∙ e))
lookup-passes q s (x ∷ es) a h e = go (same s x.spelling) refl (lookup-passes q s es a (and_right (q x.spelling) (spelled q es) h))
  where
    go : (t : Bool) → same s x.spelling ≡ t → (lookup s es ≡ some a → q s ≡ true) → q s ≡ true
    go true f ih = rw (same-eq s x.spelling f) (and_left (q x.spelling) (spelled q es) h)
    go false f ih = ih (sym (lookup-miss s x es f) ∙ e)

-- Rule 11: what is made of an expression says of a letter whether it is an open end. Assumes nothing.
use mathlib.Core.List.{List, [], ◌∷◌, ◌++◌}
use mathlib.Core.Bool.{Bool, true, false, not, ◌&&◌, ◌||◌}
use mathlib.Core.Path.{◌≡◌, refl, sym, ap, ap₂, ◌∙◌}
use Prim.Native.Nat.{ℕ}
use lib.Dec.{eqb}
use Rattle.meaning.specs.Lists.{any, null, only}
use Rattle.meaning.specs.Expression.{Exp, letter, seq, alt, star, pipe}
use Rattle.meaning.specs.Shape.{nullable, first, last, follow, threads}
use Rattle.meaning.proofs.ListLaws.{any_append}
use Rattle.shape.specs.Ends.{Ends, letter_ends, star_ends, joined_ends}
use Rattle.shape.proofs.Walked.{folded}

-- ---- lists

module _ {A : Type 0} where
  some-append : (xs ys : List A) → not (null (xs ++ ys)) ≡ not (null xs) || not (null ys)
  some-append [] ys = refl
  some-append (x ∷ xs) ys = refl

  -- a list that has some, if at all
  some-only : (b : Bool) (xs : List A) → not (null xs) ≡ true → not (null (only b xs)) ≡ b
  some-only true xs p = p
  some-only false xs p = refl

-- something can come first
some_first : (e : Exp) → not (null (first e)) ≡ true
unfolding first
some_first (letter l) = refl
some_first (seq e f) = some-append (first e) (only (nullable e) (first f)) ∙ ap (λ (b : Bool). b || not (null (only (nullable e) (first f)))) (some_first e)
some_first (alt e f) = some-append (first e) (first f) ∙ ap (λ (b : Bool). b || not (null (first f))) (some_first e)
some_first (star e) = some_first e
some_first (pipe e f) = some_first e

-- ---- letter n

module _ (n : ℕ) where
  -- it is an open end of the thread
  abbrev pub ends_open : Exp → Bool
  ends_open f = last n f && not (null (follow n f))

  abbrev ends_of : Exp → Ends
  ends_of e = record { nullable = nullable e; last = last n e; followed = not (null (follow n e)); fault = any ends_open (threads e) }

  abbrev made : Exp → Ends
  made e = folded (λ l. letter_ends (eqb n l.number)) star_ends joined_ends e

  -- what comes last in e is followed by f
  followed-by : (e f : Exp) → not (null (only (last n e) (first f))) ≡ last n e
  followed-by e f = some-only (last n e) (first f) (some_first f)

  -- the same but for the names of two tests
  same : (a b : Bool) {c d g h : Bool} → c ≡ d → g ≡ h
      → ◌≡◌ {A = Ends} (record { nullable = a; last = b; followed = c; fault = g }) (record { nullable = a; last = b; followed = d; fault = h })
  same a b p q = ap₂ (λ (x y : Bool). record { nullable = a; last = b; followed = x; fault = y }) p q

  -- threads of two parts
  faults : (e f : Exp) → any ends_open (threads e) || any ends_open (threads f) ≡ any ends_open (threads e ++ threads f)
  faults e f = sym (any_append ends_open (threads e) (threads f))

  pub ends-right : (e : Exp) → made e ≡ ends_of e
  unfolding folded nullable last follow threads
  ends-right (letter l) = refl
  ends-right (seq e f) =
      ap₂ (joined_ends 1) (ends-right e) (ends-right f)
      ∙ same _ _ (sym (some-append (follow n e ++ follow n f) (only (last n e) (first f)) ∙ ap₂ ◌||◌ (some-append (follow n e) (follow n f)) (followed-by e f))) (faults e f)
  ends-right (alt e f) = ap₂ (joined_ends 2) (ends-right e) (ends-right f) ∙ same _ _ (sym (some-append (follow n e) (follow n f))) (faults e f)
  ends-right (star e) =
      ap star_ends (ends-right e)
      ∙ same _ _ (sym (some-append (follow n e) (only (last n e) (first e)) ∙ ap (λ (b : Bool). not (null (follow n e)) || b) (followed-by e e))) refl
  ends-right (pipe e f) =
      ap₂ (joined_ends 4) (ends-right e) (ends-right f)
      ∙ same _ _ (sym (some-append (follow n e) (follow n f))) (ap (λ (b : Bool). ends_open f || b) (faults e f))

-- The token that begins with a byte, by the seven ways to find it: what each law goes by.
-- Assumes nothing.
use mathlib.Core.Path.{◌≡◌, refl, ◌∙◌}
use mathlib.Core.Bool.{Bool, true, false}
use mathlib.Core.List.{List, [], ◌∷◌}
use mathlib.Core.Option.{Option, none, some}
use Prim.Native.Nat.{ℕ, ◌^◌, ◌<◌, ◌≤◌}
use lib.Dec.{leb, ltb}
use lib.ListN.{length, take}
use borrow.Author.Tests.{lt-ltb, le-ltb, le-leb, lt-leb, leb-true, leb-false, ltb-true, ltb-false}
use Rattle.lexer.specs.Bytes.{run, lookup, is_digit, is_letter, is_name_byte}
use Rattle.lexer.specs.Signs.{signs}
use Rattle.lexer.specs.Tokens.{Word, Placed, number, sign, entries, taken, knot, or_name, value_from, name_token, number_token, sign_token, first_token}

-- the token t is at p, where the text b ∷ s begins
pub data First (R : List Word) (p b : ℕ) (s : List ℕ) (t : Placed) : Type 0 where
  fits : is_digit b ≡ true → value_from 0 (run is_digit (b ∷ s)) < 2 ^ 64
      → t ≡ taken p (number (value_from 0 (run is_digit (b ∷ s)))) (length (run is_digit (b ∷ s))) → First R p b s t
  large : is_digit b ≡ true → 2 ^ 64 ≤ value_from 0 (run is_digit (b ∷ s)) → t ≡ knot p → First R p b s t
  short : is_digit b ≡ false → is_letter b ≡ true → length (run is_name_byte (b ∷ s)) ≤ 16
      → t ≡ taken p (or_name (run is_name_byte (b ∷ s)) (lookup (run is_name_byte (b ∷ s)) (entries R))) (length (run is_name_byte (b ∷ s))) → First R p b s t
  long : is_digit b ≡ false → is_letter b ≡ true → 16 < length (run is_name_byte (b ∷ s)) → t ≡ knot p → First R p b s t
  double : is_digit b ≡ false → is_letter b ≡ false → (n : ℕ) → lookup (take 2 (b ∷ s)) signs ≡ some n
      → t ≡ taken p (sign n) (length (take 2 (b ∷ s))) → First R p b s t
  single : is_digit b ≡ false → is_letter b ≡ false → lookup (take 2 (b ∷ s)) signs ≡ none → (n : ℕ) → lookup (b ∷ []) signs ≡ some n
      → t ≡ taken p (sign n) 1 → First R p b s t
  nothing : is_digit b ≡ false → is_letter b ≡ false → lookup (take 2 (b ∷ s)) signs ≡ none → lookup (b ∷ []) signs ≡ none
      → t ≡ knot p → First R p b s t

module _ (R : List Word) where
  module _ (p b : ℕ) (s : List ℕ) where
    numbers : is_digit b ≡ true → First R p b s (number_token p (run is_digit (b ∷ s)))
    unfolding number_token
    numbers d = go (ltb (value_from 0 (run is_digit (b ∷ s))) (2 ^ 64)) refl
      where
        go : (t : Bool) → ltb (value_from 0 (run is_digit (b ∷ s))) (2 ^ 64) ≡ t → First R p b s (number_token p (run is_digit (b ∷ s)))
        go true e = fits d (ltb-true _ (2 ^ 64) e) (rw e)
        go false e = large d (ltb-false _ (2 ^ 64) e) (rw e)

    names : is_digit b ≡ false → is_letter b ≡ true → First R p b s (name_token R p (run is_name_byte (b ∷ s)))
    unfolding name_token
    names d l = go (leb (length (run is_name_byte (b ∷ s))) 16) refl
      where
        go : (t : Bool) → leb (length (run is_name_byte (b ∷ s))) 16 ≡ t → First R p b s (name_token R p (run is_name_byte (b ∷ s)))
        go true e = short d l (leb-true _ 16 e) (rw e)
        go false e = long d l (leb-false _ 16 e) (rw e)

    marks : is_digit b ≡ false → is_letter b ≡ false → First R p b s (sign_token p (b ∷ s))
    unfolding sign_token
    marks d l = go (lookup (take 2 (b ∷ s)) signs) refl (lookup (b ∷ []) signs) refl
      where
        go : (two : Option ℕ) → lookup (take 2 (b ∷ s)) signs ≡ two → (one : Option ℕ) → lookup (b ∷ []) signs ≡ one → First R p b s (sign_token p (b ∷ s))
        go (some n) e one f = double d l n e (rw e)
        go none e (some n) f = single d l e n f (rw (e, f))
        go none e none f = nothing d l e f (rw (e, f))

    pub first : First R p b s (first_token R p (b ∷ s))
    unfolding first_token
    first = go (is_digit b) refl (is_letter b) refl
      where
        go : (d : Bool) → is_digit b ≡ d → (l : Bool) → is_letter b ≡ l → First R p b s (first_token R p (b ∷ s))
        go true d l e = rw d (numbers d)
        go false d true l = rw (d, l) (names d l)
        go false d false l = rw (d, l) (marks d l)

    -- and what is found in one of these ways is the token
    pub unique : (t : Placed) → First R p b s t → t ≡ first_token R p (b ∷ s)
    unfolding first_token number_token name_token sign_token
    unique t (fits d v e) = e ∙ rw (d, lt-ltb (value_from 0 (run is_digit (b ∷ s))) (2 ^ 64) v)
    unique t (large d v e) = e ∙ rw (d, le-ltb (value_from 0 (run is_digit (b ∷ s))) (2 ^ 64) v)
    unique t (short d l v e) = e ∙ rw (d, l, le-leb (length (run is_name_byte (b ∷ s))) 16 v)
    unique t (long d l v e) = e ∙ rw (d, l, lt-leb (length (run is_name_byte (b ∷ s))) 16 v)
    unique t (double d l n f e) = e ∙ rw (d, l, f)
    unique t (single d l f n g e) = e ∙ rw (d, l, f, g)
    unique t (nothing d l f g e) = e ∙ rw (d, l, f, g)

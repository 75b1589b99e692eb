-- What a byte's class says of it.
-- Assumes nothing.
use mathlib.Core.Path.{◌≡◌, refl, sym, ◌∙◌, ap}
use mathlib.Core.Bool.{Bool, true, false, cond, ◌||◌, false≢true}
use mathlib.Core.List.{List, [], ◌∷◌}
use mathlib.Core.Logic.{◌⊎◌, inl, inr, ⊎_elim}
use Prim.Native.Nat.{ℕ, ◌+◌, ◌<◌, ◌≤◌}
use native.Mathlib.Omega.{arith}
use lib.Dec.{leb, eqb}
use borrow.Author.Tests.{lt-leb, leb-true, eqb-true, ne_eqb}
use Rattle.lexer.specs.Bytes.{Entry, any, is_white, is_digit, is_letter, bytes}
use Rattle.lexer.specs.Signs.{signs}
use Rattle.lexer.specs.Classes.{begins, sign_class, class_of, class_number}
use Rattle.lexer.specs.Shown.{sign_number}
use Rattle.lexer.specs.declared.classes.Class.{Class}
use Rattle.lexer.specs.declared.classes.Class.TheVariants.{White, Digit, Letter, Sign, Other}
use Rattle.lexer.proofs.Bools.{and_left, and_right, or_left, or_right}

-- a test that fails at each byte of a list fails at a byte that is one of them
none_of : (f : ℕ → Bool) (b : ℕ) (xs : List ℕ) → any (eqb b) xs ≡ true → any f xs ≡ false → f b ≡ false
none_of f b [] e n = absurd (false≢true e)
none_of f b (x ∷ xs) e n = go (eqb b x) refl e (none_of f b xs)
  where
    go : (t : Bool) → eqb b x ≡ t → t || any (eqb b) xs ≡ true → (any (eqb b) xs ≡ true → any f xs ≡ false → f b ≡ false) → f b ≡ false
    go true q e ih = rw (eqb-true b x q) (or_left (f x) (any f xs) n)
    go false q e ih = ih e (or_right (f x) (any f xs) n)

-- white space is no part of a name or a number
pub white-no-digit : (b : ℕ) → is_white b ≡ true → is_digit b ≡ false
unfolding is_white is_digit
white-no-digit b e = none_of is_digit b (bytes " \t\n\r") e refl

pub white-no-letter : (b : ℕ) → is_white b ≡ true → is_letter b ≡ false
unfolding is_white is_letter
white-no-letter b e = none_of is_letter b (bytes " \t\n\r") e refl

-- the class of a byte that begins a sign is 4 or more
Apart : ℕ → Type 0
Apart k = (k ≡ 0) ⊎ (4 ≤ k)

apart-cond : (t : Bool) (n c : ℕ) → Apart c → Apart (cond t (4 + n) c)
unfolding Apart
apart-cond true n c h = inr (omega arith)
apart-cond false n c h = h

signs_apart : (b c : ℕ) (es : List (Entry ℕ)) → Apart c → Apart (sign_class b c es)
signs_apart b c [] h = h
signs_apart b c (e ∷ es) h = signs_apart b (cond (begins b e.spelling) (4 + e.meaning) c) es (apart-cond (begins b e.spelling) e.meaning c h)

-- the class that three tests choose, each of which excludes the next, decides them
chosen-white : (w d l : Bool) (n : ℕ) → Apart n → w ≡ eqb (cond w 1 (cond d 2 (cond l 3 n))) 1
unfolding Apart
chosen-white true d l n h = refl
chosen-white false true l n h = refl
chosen-white false false true n h = refl
chosen-white false false false n h = sym (ne_eqb n 1 (λ e. ⊎_elim (λ z. omega arith) (λ f. omega arith) h))

chosen-digit : (w d l : Bool) (n : ℕ) → Apart n → (w ≡ true → d ≡ false) → d ≡ eqb (cond w 1 (cond d 2 (cond l 3 n))) 2
unfolding Apart
chosen-digit true d l n h wd = wd refl
chosen-digit false true l n h wd = refl
chosen-digit false false true n h wd = refl
chosen-digit false false false n h wd = sym (ne_eqb n 2 (λ e. ⊎_elim (λ z. omega arith) (λ f. omega arith) h))

chosen-letter : (w d l : Bool) (n : ℕ) → Apart n → (w ≡ true → l ≡ false) → (d ≡ true → l ≡ false) → l ≡ eqb (cond w 1 (cond d 2 (cond l 3 n))) 3
unfolding Apart
chosen-letter true d l n h wl dl = wl refl
chosen-letter false true l n h wl dl = dl refl
chosen-letter false false true n h wl dl = refl
chosen-letter false false false n h wl dl = sym (ne_eqb n 3 (λ e. ⊎_elim (λ z. omega arith) (λ f. omega arith) h))

-- where the digits lie
pub digit-range : (b : ℕ) → is_digit b ≡ true → (48 ≤ b) × (b ≤ 57)
unfolding is_digit
digit-range b e = (leb-true 48 b (and_left (leb 48 b) (leb b 57) e), leb-true b 57 (and_right (leb 48 b) (leb b 57) e))

pub digit-no-letter : (b : ℕ) → is_digit b ≡ true → is_letter b ≡ false
unfolding is_letter
digit-no-letter b d =
    let r = digit-range b d in
    rw (lt-leb 97 b (omega arith), lt-leb 65 b (omega arith), ne_eqb b 95 (λ e. omega arith))

-- the tests of a byte by its class
module _ (b k : ℕ) (is : k ≡ class_of b) where
  apart : Apart (sign_class b 0 signs)
  unfolding Apart
  apart = signs_apart b 0 signs (inl refl)

  pub white-class : is_white b ≡ eqb k 1
  unfolding class_of
  white-class = rw is (chosen-white (is_white b) (is_digit b) (is_letter b) (sign_class b 0 signs) apart)

  pub digit-class : is_digit b ≡ eqb k 2
  unfolding class_of
  digit-class = rw is (chosen-digit (is_white b) (is_digit b) (is_letter b) (sign_class b 0 signs) apart (white-no-digit b))

  pub letter-class : is_letter b ≡ eqb k 3
  unfolding class_of
  letter-class = rw is (chosen-letter (is_white b) (is_digit b) (is_letter b) (sign_class b 0 signs) apart (white-no-letter b) (digit-no-letter b))

-- the same by the code's class
no-white-number : (k : Class) → (k ≡ White → ⊥) → eqb (class_number k) 1 ≡ false
no-white-number White h = absurd (h refl)
no-white-number Digit h = refl
no-white-number Letter h = refl
no-white-number (Sign g) h = ne_eqb (4 + sign_number g) 1 (λ e. omega (arith, e))
no-white-number Other h = refl

no-digit-number : (k : Class) → (k ≡ Digit → ⊥) → eqb (class_number k) 2 ≡ false
no-digit-number White h = refl
no-digit-number Digit h = absurd (h refl)
no-digit-number Letter h = refl
no-digit-number (Sign g) h = ne_eqb (4 + sign_number g) 2 (λ e. omega (arith, e))
no-digit-number Other h = refl

no-letter-number : (k : Class) → (k ≡ Letter → ⊥) → eqb (class_number k) 3 ≡ false
no-letter-number White h = refl
no-letter-number Digit h = refl
no-letter-number Letter h = absurd (h refl)
no-letter-number (Sign g) h = ne_eqb (4 + sign_number g) 3 (λ e. omega (arith, e))
no-letter-number Other h = refl

pub small : (k : Class) → (k ≡ White) ⊎ (k ≡ Other) → class_number k < 2
small k h = ⊎_elim (λ w. rw w (omega arith)) (λ o. rw o (omega arith)) h

module _ (b : ℕ) (k : Class) (is : class_number k ≡ class_of b) where
  pub is-white : k ≡ White → is_white b ≡ true
  is-white e = white-class b _ is ∙ ap (λ (k : Class). eqb (class_number k) 1) e

  pub is-digit : k ≡ Digit → is_digit b ≡ true
  is-digit e = digit-class b _ is ∙ ap (λ (k : Class). eqb (class_number k) 2) e

  pub is-letter : k ≡ Letter → is_letter b ≡ true
  is-letter e = letter-class b _ is ∙ ap (λ (k : Class). eqb (class_number k) 3) e

  pub no-white : (k ≡ White → ⊥) → is_white b ≡ false
  no-white h = white-class b _ is ∙ no-white-number k h

  pub no-digit : (k ≡ Digit → ⊥) → is_digit b ≡ false
  no-digit h = digit-class b _ is ∙ no-digit-number k h

  pub no-letter : (k ≡ Letter → ⊥) → is_letter b ≡ false
  no-letter h = letter-class b _ is ∙ no-letter-number k h

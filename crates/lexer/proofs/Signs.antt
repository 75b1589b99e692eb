-- What the code finds where a sign may begin is what the definition says.
-- What a first byte's class says of the signs that begin with it is proved by tests that antt computes over the 256 bytes.
-- Assumes nothing.
use mathlib.Core.Path.{◌≡◌, refl, sym, ◌∙◌, ap}
use mathlib.Core.Bool.{Bool, true, false, cond, ◌&&◌, ◌||◌, false≢true}
use mathlib.Core.List.{List, [], ◌∷◌, ◌++◌}
use mathlib.Core.Option.{Option, none, some}
use Prim.Native.Nat.{ℕ, suc, ◌+◌, ◌-◌, ◌<◌, ◌≤◌}
use native.Mathlib.Decide.{dec_lt}
use native.Mathlib.Omega.{arith}
use lib.Dec.{ltb, eqb}
use lib.ListN.{length, get_or, drop}
use borrow.Author.Tests.{eqb-true, eq-eqb, ne_eqb, ltb-true, lt-ltb, le-ltb}
use Rattle.lexer.specs.Bytes.{Entry, any, same, lookup, is_white, is_digit, is_letter}
use Rattle.lexer.specs.Signs.{signs}
use Rattle.lexer.specs.Tokens.{sign, taken, knot, or_sign, sign_token}
use Rattle.lexer.specs.Classes.{begins, class_of}
use Rattle.lexer.specs.Inner.{second_bytes, second_by}
use Rattle.lexer.specs.Shown.{sign_number}
use Rattle.lexer.specs.declared.Sign as Code
use Rattle.lexer.specs.declared.Sign.TheVariants as code
use Rattle.std.specs.declared.option.Option.TheVariants.{Some, None}
use Rattle.std.proofs.lemmas.Option.{none-some, same_Some}
use Rattle.lexer.proofs.Bools.{taken as taken_left, left, and_left, and_right, and-false, or-false, or_left, or_right, eqb-sym}
use Rattle.lexer.proofs.Every.{every, every-at}
use Rattle.std.proofs.lemmas.List.{drop_more}
use Rattle.lexer.proofs.Spelling.{same-eq, lookup-nil, lookup-miss}

-- the second bytes of the spellings of two bytes that begin with a byte
abbrev second_of : ℕ → List ℕ → List ℕ
second_of b [] = []
second_of b (x ∷ []) = []
second_of b (x ∷ y ∷ []) = cond (eqb b x) (y ∷ []) []
second_of b (x ∷ y ∷ z ∷ s) = []

seconds : ℕ → List (Entry ℕ) → List ℕ
seconds b [] = []
seconds b (e ∷ es) = second_of b e.spelling ++ seconds b es

any_append : (p : ℕ → Bool) (s t : List ℕ) → any p (s ++ t) ≡ any p s || any p t
any_append p [] t = refl
any_append p (x ∷ s) t = go (p x) (any_append p s t)
  where
    go : (c : Bool) → any p (s ++ t) ≡ any p s || any p t → c || any p (s ++ t) ≡ (c || any p s) || any p t
    go true e = refl
    go false e = e

pair-apart : (b c : ℕ) (s : List ℕ) → any (eqb c) (second_of b s) ≡ false → same (b ∷ c ∷ []) s ≡ false
unfolding same
pair-apart b c [] h = refl
pair-apart b c (x ∷ []) h = and-false (eqb b x)
pair-apart b c (x ∷ y ∷ []) h = go (eqb b x) (eqb c y) h
  where
    go : (t u : Bool) → any (eqb c) (cond t (y ∷ []) []) ≡ false → t && (eqb c y && true) ≡ false
    go true u h = rw (or_left (eqb c y) false h)
    go false u h = refl
pair-apart b c (x ∷ y ∷ z ∷ s) h = rw (and-false (eqb c y)) (and-false (eqb b x))

no-pair : (b c : ℕ) (es : List (Entry ℕ)) → any (eqb c) (seconds b es) ≡ false → lookup (b ∷ c ∷ []) es ≡ none
unfolding seconds
no-pair b c [] h = lookup-nil (b ∷ c ∷ [])
no-pair b c (e ∷ es) h =
    let h' = sym (any_append (eqb c) (second_of b e.spelling) (seconds b es)) ∙ h in
    lookup-miss (b ∷ c ∷ []) e es (pair-apart b c e.spelling (or_left _ (any (eqb c) (seconds b es)) h'))
    ∙ no-pair b c es (or_right (any (eqb c) (second_of b e.spelling)) _ h')

-- an answer of `lookup` as a number, which a test can compare
found : Option ℕ → ℕ
found none = 0
found (some n) = suc n

found_none : (o : Option ℕ) → found o ≡ 0 → o ≡ none
unfolding found
found_none none e = refl
found_none (some n) e = absurd (omega arith)

found_some : (o : Option ℕ) (n : ℕ) → found o ≡ suc n → o ≡ some n
unfolding found
found_some none n e = absurd (omega arith)
found_some (some m) n e = cc

-- by the class k of its first byte: the sign of that byte alone, as a number, and the second bytes that may follow
abbrev alone_by : ℕ → ℕ
alone_by k = cond (ltb k 4) 0 (cond (ltb (k - 4) 14) (suc (k - 4)) (cond (eqb (k - 4) 14) 14 0))

abbrev seconds_by : ℕ → List ℕ
seconds_by k = cond (ltb (k - 4) 14) [] (get_or second_bytes (k - 4 - 14) 0 ∷ [])

abbrev alone_right : ℕ → Bool
alone_right b = eqb (found (lookup (b ∷ []) signs)) (alone_by (class_of b))

abbrev seconds_right : ℕ → Bool
seconds_right b = same (seconds b signs) (seconds_by (class_of b))

-- a class that allows a second byte is that of a sign of two bytes, which is made with that byte
abbrev pair_right : ℕ → Bool
pair_right b =
    cond (ltb (class_of b - 4) 14) true
    (ltb (class_of b - 4) 18 && eqb (found (lookup (b ∷ get_or second_bytes (class_of b - 4 - 14) 0 ∷ []) signs)) (suc (class_of b - 4)))

every-alone : every alone_right 256 ≡ true
unfolding class_of is_white is_digit is_letter lookup same found
every-alone = refl

every-seconds : every seconds_right 256 ≡ true
unfolding class_of is_white is_digit is_letter same seconds
every-seconds = refl

every-pair : every pair_right 256 ≡ true
unfolding class_of is_white is_digit is_letter lookup same found
every-pair = refl

-- the text r goes on with one of the bytes xs
abbrev goes_on_with : List ℕ → List ℕ → Bool
goes_on_with xs [] = false
goes_on_with xs (c ∷ r) = any (eqb c) xs

-- no sign of two bytes: one of one byte, or a knot
no_second : (b p : ℕ) (r : List ℕ) → goes_on_with (seconds b signs) r ≡ false
    → sign_token p (b ∷ r) ≡ or_sign p (b ∷ []) (lookup (b ∷ []) signs) (knot p)
unfolding sign_token
no_second b p [] h = go (lookup (b ∷ []) signs)
  where
    go : (o : Option ℕ) → or_sign p (b ∷ []) o (or_sign p (b ∷ []) o (knot p)) ≡ or_sign p (b ∷ []) o (knot p)
    go none = refl
    go (some n) = refl
no_second b p (c ∷ r) h = rw (no-pair b c signs h)

-- a sign of two bytes
with_second : (b x n p : ℕ) (r : List ℕ) → lookup (b ∷ x ∷ []) signs ≡ some n → begins x r ≡ true → sign_token p (b ∷ r) ≡ taken p (sign n) 2
unfolding sign_token
with_second b x n p [] e h = absurd (false≢true h)
with_second b x n p (c ∷ r) e h = rw (← eqb-true x c h, e)

goes-on-nil : (r : List ℕ) → goes_on_with [] r ≡ false
goes-on-nil [] = refl
goes-on-nil (c ∷ r) = refl

goes-on-begins : (x : ℕ) (r : List ℕ) → goes_on_with (x ∷ []) r ≡ begins x r
goes-on-begins x [] = refl
goes-on-begins x (c ∷ r) = or-false (eqb c x) ∙ eqb-sym c x

-- the sign at the place p of the text s, where the byte there has the class k
module _ (s : List ℕ) (p : ℕ) (here : p < length s) (byte : get_or s p 0 < 256) (k : ℕ) (is : k ≡ class_of (get_or s p 0)) where
  alone : found (lookup (get_or s p 0 ∷ []) signs) ≡ alone_by k
  alone = rw is (eqb-true _ _ (every-at alone_right 256 every-alone (get_or s p 0) byte))

  follow : seconds (get_or s p 0) signs ≡ seconds_by k
  follow = rw is (same-eq _ _ (every-at seconds_right 256 every-seconds (get_or s p 0) byte))

  at_one : goes_on_with (seconds_by k) (drop (p + 1) s) ≡ false
      → sign_token p (drop p s) ≡ or_sign p (get_or s p 0 ∷ []) (lookup (get_or s p 0 ∷ []) signs) (knot p)
  at_one h = ap (sign_token p) (drop_more s p 0 here) ∙ no_second (get_or s p 0) p (drop (p + 1) s) (rw follow h)

  as-knot : goes_on_with (seconds_by k) (drop (p + 1) s) ≡ false → alone_by k ≡ 0 → knot p ≡ sign_token p (drop p s)
  as-knot h e = sym (at_one h ∙ rw (found_none _ (alone ∙ e)))

  as-sign : (n : ℕ) → goes_on_with (seconds_by k) (drop (p + 1) s) ≡ false → alone_by k ≡ suc n → taken p (sign n) 1 ≡ sign_token p (drop p s)
  as-sign n h e = sym (at_one h ∙ rw (found_some _ n (alone ∙ e)))

  single : k - 4 < 14 → goes_on_with (seconds_by k) (drop (p + 1) s) ≡ false
  single g = rw (lt-ltb (k - 4) 14 g) (goes-on-nil (drop (p + 1) s))

  pub sign-none : k < 4 → knot p ≡ sign_token p (drop p s)
  sign-none h = as-knot (single (omega arith)) (rw (lt-ltb k 4 h))

  sign-single : 4 ≤ k → k - 4 < 14 → taken p (sign (k - 4)) 1 ≡ sign_token p (drop p s)
  sign-single h g = as-sign (k - 4) (single g) (rw (le-ltb k 4 h, lt-ltb (k - 4) 14 g))

  -- the class is that of a sign of two bytes
  module _ (two : 14 ≤ k - 4) where
    pair-right : ltb (k - 4) 18 && eqb (found (lookup (get_or s p 0 ∷ get_or second_bytes (k - 4 - 14) 0 ∷ []) signs)) (suc (k - 4)) ≡ true
    pair-right = rw (← is, le-ltb (k - 4) 14 two) at (every-at pair_right 256 every-pair (get_or s p 0) byte)

    sign-bound : k - 4 < 18
    sign-bound = ltb-true (k - 4) 18 (and_left (ltb (k - 4) 18) _ pair-right)

    -- the byte that may follow
    abbrev second : ℕ
    second = get_or second_bytes (k - 4 - 14) 0

    broken : begins second (drop (p + 1) s) ≡ false → goes_on_with (seconds_by k) (drop (p + 1) s) ≡ false
    broken h = rw (le-ltb (k - 4) 14 two) (goes-on-begins second (drop (p + 1) s) ∙ h)

    sign_pair : begins second (drop (p + 1) s) ≡ true → taken p (sign (k - 4)) 2 ≡ sign_token p (drop p s)
    sign_pair h =
        sym
        (ap (sign_token p) (drop_more s p 0 here)
        ∙ with_second (get_or s p 0) second (k - 4) p (drop (p + 1) s) (found_some _ (k - 4) (eqb-true _ _ (and_right (ltb (k - 4) 18) _ pair-right))) h)

    sign-equals : begins second (drop (p + 1) s) ≡ false → k - 4 ≡ 14 → taken p (sign 13) 1 ≡ sign_token p (drop p s)
    sign-equals h e = as-sign 13 (broken h) (rw (le-ltb k 4 (omega arith), le-ltb (k - 4) 14 two, eq-eqb (k - 4) 14 e))

    sign-broken : begins second (drop (p + 1) s) ≡ false → (k - 4 ≡ 14 → ⊥) → knot p ≡ sign_token p (drop p s)
    sign-broken h e = as-knot (broken h) (rw (le-ltb k 4 (omega arith), le-ltb (k - 4) 14 two, ne_eqb (k - 4) 14 e))

-- a sign of the code is `==` if it has its number
pub is-double-equals : (g : Code.Sign) → sign_number g ≡ 14 → g ≡ code.DoubleEquals
is-double-equals code.Semicolon e = absurd (omega (arith, e))
is-double-equals code.Comma e = absurd (omega (arith, e))
is-double-equals code.At e = absurd (omega (arith, e))
is-double-equals code.Star e = absurd (omega (arith, e))
is-double-equals code.Ampersand e = absurd (omega (arith, e))
is-double-equals code.Bang e = absurd (omega (arith, e))
is-double-equals code.LeftParen e = absurd (omega (arith, e))
is-double-equals code.RightParen e = absurd (omega (arith, e))
is-double-equals code.LeftBracket e = absurd (omega (arith, e))
is-double-equals code.RightBracket e = absurd (omega (arith, e))
is-double-equals code.LeftBrace e = absurd (omega (arith, e))
is-double-equals code.RightBrace e = absurd (omega (arith, e))
is-double-equals code.Colon e = absurd (omega (arith, e))
is-double-equals code.Equals e = absurd (omega (arith, e))
is-double-equals code.DoubleEquals e = refl
is-double-equals code.DoubleBar e = absurd (omega (arith, e))
is-double-equals code.RightArrow e = absurd (omega (arith, e))
is-double-equals code.LeftArrow e = absurd (omega (arith, e))

-- the code's second byte is there from `==` on
none-small : (n : ℕ) → None ≡ second_by n → n < 14
none-small n e = go (dec_lt n 14)
  where
    go : Dec (n < 14) → n < 14
    go (yes l) = l
    go (no l) = absurd (none-some _ (e ∙ left (ltb n 14) None (Some (get_or second_bytes (n - 14) 0)) (le-ltb n 14 (omega arith))))

some-large : (n x : ℕ) → Some x ≡ second_by n → (14 ≤ n) × (get_or second_bytes (n - 14) 0 ≡ x)
some-large n x e = go (dec_lt n 14)
  where
    go : Dec (n < 14) → (14 ≤ n) × (get_or second_bytes (n - 14) 0 ≡ x)
    go (yes l) = absurd (none-some x (sym (e ∙ taken_left (ltb n 14) None (Some (get_or second_bytes (n - 14) 0)) (lt-ltb n 14 l))))
    go (no l) = (omega arith, same_Some _ _ (sym (e ∙ left (ltb n 14) None (Some (get_or second_bytes (n - 14) 0)) (le-ltb n 14 (omega arith)))))

-- the sign at the place p of the text s, where n is the number of the longest that begins with the byte there
module _ (s : List ℕ) (p : ℕ) (here : p < length s) (byte : get_or s p 0 < 256) (n : ℕ) (is : 4 + n ≡ class_of (get_or s p 0)) where
  same_number : 4 + n - 4 ≡ n
  same_number = omega arith

  pub sign-alone : None ≡ second_by n → taken p (sign n) 1 ≡ sign_token p (drop p s)
  sign-alone e = rw same_number at (sign-single s p here byte (4 + n) is (omega arith) (omega (arith, none-small n e)))

  module _ (x : ℕ) (some : Some x ≡ second_by n) where
    large : 14 ≤ n
    large = (some-large n x some).0

    so : get_or second_bytes (n - 14) 0 ≡ x
    so = (some-large n x some).1

    pub sign-pair : begins x (drop (p + 1) s) ≡ true → taken p (sign n) 2 ≡ sign_token p (drop p s)
    sign-pair h = rw same_number at (sign_pair s p here byte (4 + n) is (omega (arith, large)) (rw same_number (rw so h)))

    pub sign-one : begins x (drop (p + 1) s) ≡ false → n ≡ 14 → taken p (sign 13) 1 ≡ sign_token p (drop p s)
    sign-one h e = sign-equals s p here byte (4 + n) is (omega (arith, large)) (rw same_number (rw so h)) (omega (arith, e))

    pub sign-half : begins x (drop (p + 1) s) ≡ false → (n ≡ 14 → ⊥) → knot p ≡ sign_token p (drop p s)
    sign-half h e = sign-broken s p here byte (4 + n) is (omega (arith, large)) (rw same_number (rw so h)) (λ q. e (omega (arith, q)))

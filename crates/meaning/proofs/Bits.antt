-- The test on bits is right: letters agree exactly where one word meets the wire literals of both.
use mathlib.Core.List.{List, ◌∷◌, ◌++◌}
use mathlib.Core.Bool.{Bool, true, false, not, cond, ◌&&◌}
use mathlib.Core.Path.{◌≡◌, refl, sym, ap, ◌∙◌, subst}
use mathlib.Core.Logic.{⊎_elim, ◌↔◌}
use Prim.Native.Nat.{ℕ, zero, suc, ◌+◌, ◌*◌, ◌-◌, ◌/◌, ◌%◌, ◌^◌, ◌≤◌, ◌<◌}
use native.Mathlib.Omega.{arith}
use native.Mathlib.Nat.{div-one, pow-suc, mod-lt}
use lib.Dec.{T, T_not, not_T, eqb, leb, ltb, eqb→eq, eqb_refl, leb→le, ltb→lt, le→leb, lt→ltb}
use native.Mathlib.Decide.{dec_lt}
use lib.Pow.{shr-shr, mod-mod-pow, pow_pos, field as field-shift}
use Rattle.meaning.specs.Lists.{any, all, below, ◌∈◌}
use Rattle.meaning.specs.Expression.{Literal, wire, wire_store, wire_past, store, Letter, field, bit}
use Rattle.meaning.specs.Shape.{wire_holds, meets_wires, Together, Unsatisfiable}
use Rattle.meaning.specs.ShapeTests.{asks, bits, agree, together, Sized, AllSized}
use Rattle.meaning.proofs.ListLaws.{here, there, append-∈, ∈-left, ∈-right, and_T, T_and, any-from, any-to, all-at, all_from}

-- bit j of a field is bit lo + j of the word
pub bit-field : (lo width w j : ℕ) → j < width → bit j (field lo width w) ≡ bit (lo + j) w
bit-field lo width w j h =
    let i : ℕ = width - suc j in
    let e : width ≡ suc i + j = omega arith in
    ap (λ k. ((w / 2 ^ lo) % 2 ^ k) / 2 ^ j % 2) e
    ∙ ap (λ x. x % 2) (field-shift (w / 2 ^ lo) (suc i) j)
    ∙ ap (λ k. (w / 2 ^ lo / 2 ^ j) % 2 ^ k % 2) (sym suc_one)
    ∙ mod-mod-pow (w / 2 ^ lo / 2 ^ j) i 1
    ∙ ap (λ x. x % 2) (shr-shr w lo j)
  where
    suc_one : (width - suc j) + 1 ≡ suc (width - suc j)
    suc_one = omega arith

bit-suc : (i w : ℕ) → bit (suc i) w ≡ bit i (w / 2)
bit-suc i w = ap (λ k. w / 2 ^ k % 2) one_more ∙ ap (λ x. x % 2) (sym (shr-shr w 1 i))
  where
    one_more : suc i ≡ 1 + i
    one_more = omega arith

bit-zero : (w : ℕ) → bit 0 w ≡ w % 2
bit-zero w = ap (λ x. x % 2) (div-one w)

-- numbers of k bits are equal if their bits are
pub same_bits : (k a b : ℕ) → a < 2 ^ k → b < 2 ^ k → ((j : ℕ) → j < k → bit j a ≡ bit j b) → a ≡ b
same_bits zero a b p q h = omega arith
same_bits (suc k) a b p q h =
    let halves : a / 2 ≡ b / 2 = same_bits k (a / 2) (b / 2) (omega (arith, pow-suc 2 k)) (omega (arith, pow-suc 2 k))
    (λ j l. sym (bit-suc j a) ∙ h (suc j) (omega arith) ∙ bit-suc j b) in
    let odds : a % 2 ≡ b % 2 = sym (bit-zero a) ∙ h 0 (omega arith) ∙ bit-zero b in
    omega arith

-- the number with the given bits
word : (ℕ → Bool) → ℕ → ℕ
word f zero = 0
word f (suc n) = word (λ i. f (suc i)) n * 2 + cond (f 0) 1 0

word_lt : (f : ℕ → Bool) (n : ℕ) → word f n < 2 ^ n
unfolding word
word_lt f zero = omega arith
word_lt f (suc n) = digit (word (λ i. f (suc i)) n) (f 0) (word_lt (λ i. f (suc i)) n)
  where
    digit : (x : ℕ) (b : Bool) → x < 2 ^ n → x * 2 + cond b 1 0 < 2 ^ suc n
    digit x true h = omega (arith, pow-suc 2 n)
    digit x false h = omega (arith, pow-suc 2 n)

digit-half : (x : ℕ) (b : Bool) → (x * 2 + cond b 1 0) / 2 ≡ x
digit-half x true = omega arith
digit-half x false = omega arith

digit-odd : (x : ℕ) (b : Bool) → (x * 2 + cond b 1 0) % 2 ≡ cond b 1 0
digit-odd x true = omega arith
digit-odd x false = omega arith

bit_word : (f : ℕ → Bool) (n i : ℕ) → i < n → bit i (word f n) ≡ cond (f i) 1 0
unfolding word
bit_word f zero i h = absurd (omega arith)
bit_word f (suc n) zero h = bit-zero (word (λ i. f (suc i)) n * 2 + cond (f 0) 1 0) ∙ digit-odd (word (λ i. f (suc i)) n) (f 0)
bit_word f (suc n) (suc i) h =
    bit-suc i (word (λ i. f (suc i)) n * 2 + cond (f 0) 1 0) ∙ ap (bit i) (digit-half (word (λ i. f (suc i)) n) (f 0)) ∙ bit_word (λ i. f (suc i)) n i (omega arith)

-- ---- a word that meets them: they agree ----

pub asked-bit : (w i b : ℕ) (l : Literal) → T (wire_holds w l) → T (asks i b l) → bit i w ≡ b
asked-bit w i b (wire lo width v) h a =
    let (c, e) = and_T (leb lo i && ltb i (lo + width)) (eqb (bit (i - lo) v) b) a in
    let (p, q) = and_T (leb lo i) (ltb i (lo + width)) c in
    let le : lo ≤ i = leb→le lo i p in
    let lt : i < lo + width = ltb→lt i (lo + width) q in
    ap (λ k. bit k w) (back lo i le) ∙ sym (bit-field lo width w (i - lo) (omega arith)) ∙ ap (bit (i - lo)) (eqb→eq (field lo width w) v h) ∙ eqb→eq (bit (i - lo) v) b e
  where
    back : (lo i : ℕ) → lo ≤ i → i ≡ lo + (i - lo)
    back lo i h = omega arith
asked-bit w i b (wire_store lo width s) h a = absurd a
asked-bit w i b (wire_past lo width) h a = absurd a
asked-bit w i b (store s v) h a = absurd a

pub agree-if : (w : ℕ) (ls : List Literal) → T (all (wire_holds w) ls) → T (agree ls)
unfolding agree
agree-if w ls h = all_from (λ i. not (any (asks i 0) ls && any (asks i 1) ls)) bits (λ i j. not_T (any (asks i 0) ls && any (asks i 1) ls) (λ t.
    let (p, q) = and_T (any (asks i 0) ls) (any (asks i 1) ls) t in
    let (x, ix, ax) = any-to (asks i 0) ls p in
    let (y, iy, ay) = any-to (asks i 1) ls q in
    let e : bit i w ≡ 0 = asked-bit w i 0 x (all-at (wire_holds w) ix h) ax in
    let f : bit i w ≡ 1 = asked-bit w i 1 y (all-at (wire_holds w) iy h) ay in
    omega arith))

pub all_append : {A : Type 0} (p : A → Bool) (xs ys : List A) → T (all p xs) → T (all p ys) → T (all p (xs ++ ys))
all_append p xs ys h k = all_from p (xs ++ ys) (λ x i. ⊎_elim (λ j. all-at p j h) (λ j. all-at p j k) (append-∈ xs i))

-- any word, of 64 bits or not, that meets both
pub meets-together : (x y : Letter) (w : ℕ) → T (meets_wires x w) → T (meets_wires y w) → T (together x y)
unfolding together meets_wires
meets-together x y w p q = agree-if w (x.literals ++ y.literals) (all_append (wire_holds w) x.literals y.literals p q)

-- ---- they agree: the word with the bits asked for meets them ----

pub in-below : (n i : ℕ) → i < n → i ∈ below n
in-below zero i h = absurd (omega arith)
in-below (suc n) i h = elim (dec_lt i n) [ yes l ↦ there (in-below n i l) | no g ↦ at_last (omega arith) ]
  where
    at_last : i ≡ n → i ∈ n ∷ below n
    at_last e = here e

pub digit-is : (k b : ℕ) (ls : List Literal) → b < 2 → T (any (asks k b) ls) → T (not (any (asks k 0) ls && any (asks k 1) ls)) → cond (any (asks k 1) ls) 1 0 ≡ b
digit-is k zero ls h t n = low (any (asks k 0) ls) (any (asks k 1) ls) t n
  where
    low : (a c : Bool) → T a → T (not (a && c)) → ◌≡◌ {A = ℕ} (cond c 1 0) 0
    low true true t n = absurd n
    low true false t n = refl
    low false c t n = absurd t
digit-is k (suc zero) ls h t n = high (any (asks k 1) ls) t
  where
    high : (c : Bool) → T c → ◌≡◌ {A = ℕ} (cond c 1 0) 1
    high true t = refl
    high false t = absurd t
digit-is k (suc (suc b)) ls h t n = absurd (omega arith)

pub asks-own : (lo width v j : ℕ) → j < width → T (asks (lo + j) (bit j v) (wire lo width v))
asks-own lo width v j h =
    T_and (leb lo (lo + j) && ltb (lo + j) (lo + width)) (eqb (bit (lo + j - lo) v) (bit j v))
    (T_and (leb lo (lo + j)) (ltb (lo + j) (lo + width)) (le→leb lo (lo + j) (omega arith)) (lt→ltb (lo + j) (lo + width) (omega arith)))
    (subst (λ k. T (eqb (bit k v) (bit j v))) there_and_back (eqb_refl (bit j v)))
  where
    there_and_back : j ≡ lo + j - lo
    there_and_back = omega arith

pub met-if : (ls : List Literal) → AllSized ls → T (agree ls) → (w : ℕ) × (w < 2 ^ 64) × T (all (wire_holds w) ls)
unfolding agree
met-if ls sized a = (word f 64, word_lt f 64, all_from (wire_holds (word f 64)) ls (λ l j. one l j (sized l j)))
  where
    f : ℕ → Bool
    f i = any (asks i 1) ls

    one : (l : Literal) → l ∈ ls → Sized l → T (wire_holds (word f 64) l)
    one (wire lo width v) i (p, q) =
        subst (λ z. T (eqb (field lo width (word f 64)) z))
        (same_bits width (field lo width (word f 64)) v (mod-lt (word f 64 / 2 ^ lo) (pow_pos width)) p
        (λ j l. bit-field lo width (word f 64) j l ∙ bit_word f 64 (lo + j) (omega arith)
        ∙ digit-is (lo + j) (bit j v) ls (mod-lt (v / 2 ^ j) (omega arith)) (any-from (asks (lo + j) (bit j v)) i (asks-own lo width v j l))
        (all-at (λ i. not (any (asks i 0) ls && any (asks i 1) ls)) (in-below 64 (lo + j) (omega arith)) a)))
        (eqb_refl (field lo width (word f 64)))
    one (wire_store lo width s) i z = tt
    one (wire_past lo width) i z = tt
    one (store s v) i z = tt

-- ---- the tests of rules 9 and 12 are what the rules say ----

pub unsatisfiable-exactly : (l : Letter) → AllSized l.literals → T (not (agree l.literals)) ↔ Unsatisfiable l
unfolding meets_wires
unsatisfiable-exactly l sized = (
  λ t w b h. T_not (agree l.literals) t (agree-if w l.literals h),
  λ u. not_T (agree l.literals) (λ a. let (w, b, h) = met-if l.literals sized a in u w b h),
)

pub together-exactly : (x y : Letter) → AllSized x.literals → AllSized y.literals → T (together x y) ↔ Together x y
unfolding together meets_wires
together-exactly x y sx sy = (
  λ t.
      let (w, b, h) = met-if (x.literals ++ y.literals) (λ l i. ⊎_elim (sx l) (sy l) (append-∈ x.literals i)) t in (
        w,
        b,
        all_from (wire_holds w) x.literals (λ l i. all-at (wire_holds w) (∈-left y.literals i) h),
        all_from (wire_holds w) y.literals (λ l i. all-at (wire_holds w) (∈-right x.literals i) h),
      ),
  λ (w, b, p, q). meets-together x y w p q,
)

-- Sets of letters as words, letter by letter. Assumes nothing.
use mathlib.Core.Bool.{Bool, true, false, not, ◌&&◌, ◌||◌, or-false}
use mathlib.Core.List.{List}
use mathlib.Core.Path.{◌≡◌, refl, sym, ap, ap₂, ◌∙◌, subst}
use Prim.Native.Nat.{ℕ, zero, suc, ◌+◌, ◌*◌, ◌-◌, ◌/◌, ◌%◌, ◌^◌, ◌≤◌, ◌<◌}
use native.Mathlib.Omega.{arith}
use native.Mathlib.Nat.{le_dest}
use native.Mathlib.Decide.{dec_lt}
use lib.Dec.{eqb}
use lib.ListN.{length, get_or, get_or-eq_default}
use lib.Bits.{bit_and, bit_or, bit_xor, and_zero_l}
use lib.Pow.{shl_exact, field, mod-mod-pow}
use borrow.Author.Tests.{eqb-true, eqb-false, eq-eqb, ne_eqb}
use Rattle.std.proofs.Common.{w64}
use Rattle.std.specs.Int.Count.{count_trailing_zeros, trailing_of_zero}
use Rattle.std.proofs.lemmas.Nat.Bits.{bit_at-trailing_zeros}
use Rattle.meaning.specs.Expression.{bit}
use Rattle.masks.specs.Masks.{compatible}
use Rattle.masks.proofs.BitLaws.{Bit, off, on, bit_is, bit-and, bit-or, bit-xor, bit_below, bit-above, bit-over, bit-ones, zero_bit}
use Rattle.masks.proofs.Masks.{compatible-apart}
use Rattle.shape.specs.Sets.{has, Passing}
use Rattle.shape.specs.Sides.{rivals}
use Rattle.shape.specs.Lowest.{lowest}
use Rattle.shape.proofs.Lowest.{lowest-at, lowest-none}

-- ---- single bits

or-on : {a b : ℕ} → Bit a → Bit b → eqb (bit_or a b) 1 ≡ eqb a 1 || eqb b 1
or-on off off = refl
or-on off on = refl
or-on on off = refl
or-on on on = refl

and-on : {a b : ℕ} → Bit a → Bit b → eqb (bit_and a b) 1 ≡ eqb a 1 && eqb b 1
and-on off off = refl
and-on off on = refl
and-on on off = refl
and-on on on = refl

without_on : {a b : ℕ} → Bit a → Bit b → eqb (bit_xor a (bit_and a b)) 1 ≡ not (eqb b 1) && eqb a 1
without_on off off = refl
without_on off on = refl
without_on on off = refl
without_on on on = refl

-- ---- sets

module _ (x a b : ℕ) where
  pub has-or : has x (bit_or a b) ≡ has x a || has x b
  unfolding has
  has-or = ap (λ (n : ℕ). eqb n 1) (bit-or x a b) ∙ or-on (bit_is x a) (bit_is x b)

  pub has-and : has x (bit_and a b) ≡ has x a && has x b
  unfolding has
  has-and = ap (λ (n : ℕ). eqb n 1) (bit-and x a b) ∙ and-on (bit_is x a) (bit_is x b)

  pub has-without : has x (bit_xor a (bit_and a b)) ≡ not (has x b) && has x a
  unfolding has
  has-without =
      ap (λ (n : ℕ). eqb n 1) (bit-xor x a (bit_and a b) ∙ ap (bit_xor (bit x a)) (bit-and x a b))
      ∙ without_on (bit_is x a) (bit_is x b)

pub has-none : (x : ℕ) → has x 0 ≡ false
unfolding has
has-none x = ap (λ (n : ℕ). eqb n 1) (zero_bit x)

pub has_all : (x : ℕ) → x < 64 → has x (2 ^ 64 - 1) ≡ true
unfolding has
has_all x h = ap (λ (n : ℕ). eqb n 1) (bit-ones x 64 h)

-- no letter, where none is asked for
pub has_no : (x i j : ℕ) → (i ≡ j → ⊥) → has x 0 ≡ eqb i j
has_no x i j h = has-none x ∙ sym (ne_eqb i j h)

-- what does not fit into the word is none of its letters
bit-within : (x w n : ℕ) → x < w → bit x (n % 2 ^ w) ≡ bit x n
bit-within x w n h =
    let (d, e) = le_dest h in
    let f : w ≡ d + 1 + x = omega (arith, e) in
    rw f (ap (λ (m : ℕ). m % 2) (field n (d + 1) x) ∙ mod-mod-pow (n / 2 ^ x) d 1)

-- ---- one letter

bit-one : (x : ℕ) → (x ≡ 0 → ⊥) → bit x 1 ≡ 0
bit-one x h = bit-over x 1 1 (omega arith) (omega arith)

-- the word with bit k alone
bit-alone : (x k : ℕ) → k < 64 → bit x ((1 * 2 ^ k) % 2 ^ 64) ≡ bit x (1 * 2 ^ k)
bit-alone x k h = ap (bit x) (shl_exact {a = 1} 1 k 64 (omega arith) (omega arith))

alone_at : (k : ℕ) → bit k (1 * 2 ^ k) ≡ 1
alone_at k = let e : k ≡ k + 0 = omega arith in ap (λ (j : ℕ). bit j (1 * 2 ^ k)) e ∙ bit-above 0 k 1

alone-else : (x k : ℕ) → (x ≡ k → ⊥) → bit x (1 * 2 ^ k) ≡ 0
alone-else x k h = elim (dec_lt x k) [ yes l ↦ bit_below x k 1 l | no g ↦ above (omega arith) ]
  where
    above : k < x → bit x (1 * 2 ^ k) ≡ 0
    above l =
        let e : x ≡ k + (x - k) = omega arith in
        ap (λ (j : ℕ). bit j (1 * 2 ^ k)) e ∙ bit-above (x - k) k 1 ∙ bit-one (x - k) (λ z. omega arith)

-- letter i of those from f on
pub has-alone : (x i f : ℕ) → f ≤ i → i - f < 64 → has x ((1 * 2 ^ (i - f)) % 2 ^ 64) ≡ eqb i (f + x)
unfolding has
has-alone x i f l h = ap (λ (n : ℕ). eqb n 1) (bit-alone x (i - f) h) ∙ by (eqb i (f + x)) refl
  where
    by : (t : Bool) → eqb i (f + x) ≡ t → eqb (bit x (1 * 2 ^ (i - f))) 1 ≡ t
    by true p =
        let e : i ≡ f + x = eqb-true i (f + x) p in
        let g : x ≡ i - f = omega arith in
        eq-eqb (bit x (1 * 2 ^ (i - f))) 1 (ap (λ (j : ℕ). bit j (1 * 2 ^ (i - f))) g ∙ alone_at (i - f))
    by false p =
        let e : i ≡ f + x → ⊥ = eqb-false i (f + x) p in
        ne_eqb (bit x (1 * 2 ^ (i - f))) 1 (λ q. omega (arith, alone-else x (i - f) (λ g. e (omega arith))))

-- ---- one letter more in front

module _ (a : ℕ) where
  -- the others move up
  pub moved-first : has 0 (a * 2 % 2 ^ 64) ≡ false
  unfolding has
  moved-first = ap (λ (n : ℕ). eqb n 1) (bit-within 0 64 (a * 2) (omega arith) ∙ bit_below 0 1 a (omega arith))

  pub moved-next : (x : ℕ) → x < 63 → has (x + 1) (a * 2 % 2 ^ 64) ≡ has x a
  unfolding has
  moved-next x h =
      let e : x + 1 ≡ 1 + x = omega arith in
      ap (λ (n : ℕ). eqb n 1) (bit-within (x + 1) 64 (a * 2) (omega arith) ∙ ap (λ (j : ℕ). bit j (a * 2)) e ∙ bit-above x 1 a)

  -- with the first
  pub front-first : has 0 (bit_or (a * 2 % 2 ^ 64) 1) ≡ true
  unfolding has
  front-first = has-or 0 (a * 2 % 2 ^ 64) 1 ∙ ap (λ (b : Bool). b || true) moved-first

  pub front-next : (x : ℕ) → x < 63 → has (x + 1) (bit_or (a * 2 % 2 ^ 64) 1) ≡ has x a
  unfolding has
  front-next x h =
      let none : has (x + 1) 1 ≡ false = ap (λ (n : ℕ). eqb n 1) (bit-one (x + 1) (λ z. omega arith)) in
      has-or (x + 1) (a * 2 % 2 ^ 64) 1 ∙ ap₂ ◌||◌ (moved-next x h) none ∙ or-false (has x a)

module _ (test : ℕ → Bool) (i stop set : ℕ) (passing : Passing test i stop set) where
  -- with the letter before, which passes or not
  pub passing-front : (r : ℕ) → 0 < i → has 0 r ≡ test (i - 1) → ((x : ℕ) → x < 63 → has (x + 1) r ≡ has x set) → Passing test (i - 1) stop r
  passing-front r some first next zero l s = let e : i - 1 ≡ i - 1 + 0 = omega arith in first ∙ ap test e
  passing-front r some first next (suc x) l s =
      let e : suc x ≡ x + 1 = omega arith in
      let f : i + x ≡ i - 1 + suc x = omega arith in
      ap (λ (k : ℕ). has k r) e ∙ next x (omega arith) ∙ passing x (omega arith) (omega arith) ∙ ap test f

  -- the letters that were asked for are all in
  pub passing-from : (first : ℕ) → i ≤ first → (first ≤ stop → first ≤ i) → Passing test first stop set
  passing-from first below above x l s =
      let e : i ≡ first = omega (arith, above (omega arith)) in
      subst (λ (k : ℕ). has x set ≡ test (k + x)) e (passing x l (omega arith))

-- ---- letters that one word meets together, by their masks

pub met : (look want : List ℕ) (i j : ℕ) {a b c d : ℕ} → a ≡ get_or look i 0 → b ≡ get_or want i 0 → c ≡ get_or look j 0 → d ≡ get_or want j 0
    → compatible a b c d ≡ rivals look want i j
met look want i j p q r s = rw (p, q, r, s)

-- each word meets a letter that has no masks
pub unmasked : (look want : List ℕ) (i j : ℕ) → length look ≤ i → rivals look want i j ≡ true
unmasked look want i j h = rw (get_or-eq_default look 0 {n = i} h) (compatible-apart 0 (get_or want i 0) (get_or look j 0) (get_or want j 0) (and_zero_l (get_or look j 0)))

-- ---- the lowest letter of a set

module _ (set first : ℕ) (fits : set < 2 ^ 64) where
  at : (j : ℕ) → first + j - first ≡ j
  at j = omega arith

  has-at : (j : ℕ) → bit j set ≡ 1 → has (first + j - first) set ≡ true
  unfolding has
  has-at j p = rw (at j) (eq-eqb (bit j set) 1 p)

  lacks-at : (j : ℕ) → bit j set ≡ 0 → has (first + j - first) set ≡ false
  unfolding has
  lacks-at j p = rw (at j) (ne_eqb (bit j set) 1 (λ q. omega arith))

  -- the place of its lowest bit
  pub lowest_bit : (n : ℕ) → n ≤ 64 → count_trailing_zeros 64 set < n → first + count_trailing_zeros 64 set ≡ lowest (λ i. has (i - first) set) first n
  lowest_bit n small h =
      let some : 0 < set = positive set h in
      let (inside, stands, lacks) = bit_at-trailing_zeros w64 set some fits in
      sym (lowest-at (λ i. has (i - first) set) first n (count_trailing_zeros 64 set) h (has-at (count_trailing_zeros 64 set) stands) (λ j l. lacks-at j (lacks j l)))
    where
      positive : (s : ℕ) → count_trailing_zeros 64 s < n → 0 < s
      positive zero l = absurd (omega (arith, trailing_of_zero 64))
      positive (suc s) l = omega arith

  -- it has none of the first letters
  pub no_bit : (stop : ℕ) → stop ≤ first + 64 → stop - first ≤ count_trailing_zeros 64 set → stop ≤ lowest (λ i. has (i - first) set) first (stop - first)
  no_bit stop small h = omega (arith, lowest-none (λ i. has (i - first) set) first (stop - first) (λ j l. lacks-at j (off j (omega arith))))
    where
      off : (j : ℕ) → j < count_trailing_zeros 64 set → bit j set ≡ 0
      off j l = elim (dec_lt 0 set) [
        | yes some ↦ (bit_at-trailing_zeros w64 set some fits).2 j l
        | no none ↦ let e : set ≡ 0 = omega arith in rw e (zero_bit j)
      ]

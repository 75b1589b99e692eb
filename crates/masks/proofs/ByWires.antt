-- The test of wires, wire by wire, and the arithmetic that does it for all at once. Assumes nothing.
use mathlib.Core.Bool.{Bool, true, ◌&&◌, ◌||◌}
use mathlib.Core.List.{List, [], ◌∷◌}
use mathlib.Core.Logic.{⊎_elim}
use mathlib.Core.Path.{◌≡◌, refl, sym, ap, ap₂, ◌∙◌}
use Prim.Native.Nat.{ℕ, zero, suc, ◌^◌, ◌<◌}
use native.Mathlib.Nat.{lt_of_le_of_lt}
use native.Mathlib.Omega.{arith}
use lib.Dec.{T, eqb, eqb→eq, eqb_refl}
use lib.Bits.{bit_and, bit_xor, and_le_r}
use lib.Pow.{pow_pos}
use Rattle.meaning.specs.Lists.{◌∈◌, all, below}
use Rattle.meaning.specs.Expression.{bit}
use Rattle.meaning.proofs.Bits.{same_bits, in-below}
use Rattle.meaning.proofs.ListLaws.{cons-∈, no-∈, or-T, all-at, all_from, same_truth, clash}
use Rattle.masks.specs.Wires.{as_wanted, passes}
use Rattle.masks.proofs.BitLaws.{bit-and, bit-xor, zero_bit, Bit, off, on, bit_is}

-- the numbers below n; tests that say the same of each number say the same of all
below-lt : (n i : ℕ) → i ∈ below n → i < n
below-lt zero i j = absurd (no-∈ j)
below-lt (suc n) i j = ⊎_elim (λ e. omega arith) (λ k. let l = below-lt n i k in omega arith) (cons-∈ j)

all_same : (p q : ℕ → Bool) (xs : List ℕ) → ((x : ℕ) → p x ≡ q x) → all p xs ≡ all q xs
all_same p q [] h = refl
all_same p q (x ∷ xs) h = ap₂ ◌&&◌ (h x) (all_same p q xs h)

-- ---- wire by wire: a word passes exactly if at every bit below 64 that is looked at it has what is wanted

module _ (look want word : ℕ) where
  pub passes_then : T (passes look want word) → (i : ℕ) → i < 64 → bit i look ≡ 1 → bit i word ≡ bit i want
  unfolding passes
  passes_then t i l h =
      ⊎_elim (λ z. clash (sym (eqb→eq (bit i look) 0 z) ∙ h)) (eqb→eq (bit i word) (bit i want))
      (or-T (eqb (bit i look) 0) (eqb (bit i word) (bit i want)) (all-at (as_wanted look want word) (in-below 64 i l) t))

  pub passes-if : ((i : ℕ) → i < 64 → bit i look ≡ 1 → bit i word ≡ bit i want) → T (passes look want word)
  unfolding passes
  passes-if h = all_from (as_wanted look want word) (below 64) (λ i j. at i (bit_is i look) (h i (below-lt 64 i j)))
    where
      at : (i : ℕ) {a : ℕ} → Bit a → (a ≡ 1 → bit i word ≡ bit i want) → T (eqb a 0 || eqb (bit i word) (bit i want))
      at i off f = tt
      at i on f = rw (f refl) (eqb_refl (bit i want))

-- Where no wire is looked at each word passes.
pub unasked : (want word : ℕ) → passes 0 want word ≡ true
unasked want word = same_truth (passes 0 want word) true (λ t. tt) (λ t. passes-if 0 want word (λ i l h. clash (sym (zero_bit i) ∙ h)))

-- ---- all at once

-- one bit: the exclusive or is 1 where the two differ, and the and keeps it where it is looked at
one_bit : {look want word : ℕ} → Bit look → Bit want → Bit word → (eqb look 0 || eqb word want) ≡ eqb (bit_and (bit_xor word want) look) 0
one_bit off off off = refl
one_bit off off on = refl
one_bit off on off = refl
one_bit off on on = refl
one_bit on off off = refl
one_bit on off on = refl
one_bit on on off = refl
one_bit on on on = refl

-- a number of 64 bits is 0 exactly if its bits are
zero-exactly : (n : ℕ) → n < 2 ^ 64 → all (λ i. eqb (bit i n) 0) (below 64) ≡ eqb n 0
zero-exactly n small =
    same_truth (all (λ i. eqb (bit i n) 0) (below 64)) (eqb n 0)
    (λ t. rw (same_bits 64 n 0 small (pow_pos 64) (λ i l. eqb→eq (bit i n) 0 (all-at (λ i. eqb (bit i n) 0) (in-below 64 i l) t) ∙ sym (zero_bit i))) tt)
    (λ t. all_from (λ i. eqb (bit i n) 0) (below 64) (λ i j. rw (eqb→eq n 0 t, zero_bit i) tt))

-- The law: a word passes exactly if, of the bits that are not as wanted, none is looked at.
pub by-arithmetic : (look want word : ℕ) → look < 2 ^ 64 → eqb (bit_and (bit_xor word want) look) 0 ≡ passes look want word
unfolding passes
by-arithmetic look want word small =
    sym (all_same (as_wanted look want word) (λ i. eqb (bit i (bit_and (bit_xor word want) look)) 0) (below 64) (λ i.
    one_bit (bit_is i look) (bit_is i want) (bit_is i word)
    ∙ ap (λ (n : ℕ). eqb n 0) (sym (bit-and i (bit_xor word want) look ∙ ap (λ (n : ℕ). bit_and n (bit i look)) (bit-xor i word want))))
    ∙ zero-exactly (bit_and (bit_xor word want) look) (lt_of_le_of_lt (and_le_r (bit_xor word want) look) small))

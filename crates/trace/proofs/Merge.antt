-- Merging the bytes given into the word before, one byte after the other: what holds after i of them. Assumes nothing.
use mathlib.Core.Path.{◌≡◌, refl, sym, ap, ap₂, ◌∙◌}
use mathlib.Core.Bool.{Bool, true, false, ◌||◌, ◌&&◌}
use mathlib.Core.List.{List}
use Prim.Native.Nat.{ℕ, zero, suc, ◌+◌, ◌*◌, ◌^◌, ◌≤◌, ◌<◌}
use native.Mathlib.Nat.{lt_of_lt_of_le}
use native.Mathlib.Decide.{le_ind}
use native.Mathlib.Numerals.{add-one}
use native.Mathlib.Omega.{arith}
use lib.Dec.{eqb}
use lib.ListN.{length, get_or}
use lib.Pow.{pow_mono}
use borrow.Author.Tests.{eq-eqb, ne_eqb}
use Rattle.trace.specs.Record.{bit, byte, number, count, choose, given_for, new_byte, merged, idle_at, idle}
use Rattle.trace.proofs.Bits.{bit-zero, count-mono}
use Rattle.trace.proofs.Digits.{digit_lt, number_lt}

choose-lt : (b kept new n : ℕ) → kept < n → new < n → choose b kept new < n
choose-lt zero kept new n k h = k
choose-lt (suc b) kept new n k h = h

-- bytes given are bytes of the word
pub new_byte-lt : (before map : ℕ) (given : List ℕ) → ((j : ℕ) → get_or given j 0 < 256) → (i : ℕ) → new_byte before map given i < 256
unfolding new_byte
new_byte-lt before map given small i =
    choose-lt (bit i map) (byte i before) (given_for i map given) 256 (digit_lt 8 i before) (small (count i map))

pub merged-lt : (before map : ℕ) (given : List ℕ) → ((j : ℕ) → get_or given j 0 < 256) → (i : ℕ) → i ≤ 8
    → number 8 (new_byte before map given) i < 2 ^ 64
merged-lt before map given small i h =
    lt_of_lt_of_le (number_lt 8 (new_byte before map given) (new_byte-lt before map given small) i) (pow_mono {j = 64} (omega arith))

pub new_byte-given : (before map : ℕ) (given : List ℕ) (i : ℕ) → bit i map ≡ 1 → new_byte before map given i ≡ given_for i map given
unfolding new_byte
new_byte-given before map given i e = rw e

pub new_byte-kept : (before map : ℕ) (given : List ℕ) (i : ℕ) → bit i map ≡ 0 → new_byte before map given i ≡ byte i before
unfolding new_byte
new_byte-kept before map given i e = rw e

pub or-false : (a b : Bool) → a ≡ false → b ≡ false → (a || b) ≡ false
or-false a b p q = rw (p, q)

or_left : (a b : Bool) → a ≡ true → (a || b) ≡ true
or_left a b p = rw p

or_right : (a b : Bool) → b ≡ true → (a || b) ≡ true
or_right true b p = refl
or_right false b p = p

and-true : (a b : Bool) → a ≡ true → b ≡ true → (a && b) ≡ true
and-true a b p q = rw (p, q)

pub and-left-false : (a b : Bool) → a ≡ false → (a && b) ≡ false
and-left-false a b p = rw p

pub and-right-false : (a b : Bool) → b ≡ false → (a && b) ≡ false
and-right-false true b p = p
and-right-false false b p = refl

-- once a byte is idle, it stays so however many are looked at
pub idle-more : (before map : ℕ) (given : List ℕ) (i j : ℕ) → i ≤ j → idle i before map given ≡ true → idle j before map given ≡ true
unfolding idle
idle-more before map given i j h e =
    le_ind (λ n. idle n before map given ≡ true) e (λ n l r. or_left (idle n before map given) (idle_at n before map given) r) j h

pub idle-here : (before map : ℕ) (given : List ℕ) (i n : ℕ) → i < n → bit i map ≡ 1 → given_for i map given ≡ byte i before
    → idle n before map given ≡ true
unfolding idle
idle-here before map given i n h e d =
    idle-more before map given (suc i) n h
    (or_right (idle i before map given) (idle_at i before map given) (and-true _ _ (eq-eqb (bit i map) 1 e) (eq-eqb _ _ d)))

pub record Merging (given : List ℕ) (before map word at i : ℕ) : Type 0 where
  pub within : i ≤ 8
  pub passed : at ≡ count i map
  pub so_far : word ≡ number 8 (new_byte before map given) i
  pub none_idle : idle i before map given ≡ false

pub merging-none : (given : List ℕ) (before map : ℕ) → Merging given before map 0 0 0
unfolding count number idle
merging-none given before map = record { within = omega arith; passed = refl; so_far = refl; none_idle = refl }

module _ (given : List ℕ) (before map word at i : ℕ) (m : Merging given before map word at i) (less : i < 8) where
  -- the byte given for a bit that stands
  pub is-given : given_for i map given ≡ get_or given at 0
  is-given = ap (λ (n : ℕ). get_or given n 0) (sym m.passed)

  -- a step where the bit stands, and one where it does not: `new` is the byte taken, `placed` that byte at its place in the word
  pub merging-given : (new placed next : ℕ) → bit i map ≡ 1 → new ≡ get_or given at 0 → (new ≡ byte i before → ⊥) → placed ≡ new * 2 ^ (8 * i)
      → next ≡ at + 1 → Merging given before map (word + placed) next (i + 1)
  unfolding count number idle
  merging-given new placed next e n d p a = rw (add-one i) record {
    within = less;
    passed = omega (arith, m.passed, e);
    so_far = ap₂ (λ (x y : ℕ). x + y) m.so_far (p ∙ ap (λ (y : ℕ). y * 2 ^ (8 * i)) (n ∙ sym (new_byte-given before map given i e ∙ is-given)));
    none_idle = or-false _ _ m.none_idle (and-right-false (eqb (bit i map) 1) _ (ne_eqb _ _ (λ h. d (n ∙ sym is-given ∙ h))));
  }

  pub merging-kept : (new placed next : ℕ) → (bit i map ≡ 1 → ⊥) → new ≡ byte i before → placed ≡ new * 2 ^ (8 * i) → next ≡ at
      → Merging given before map (word + placed) next (i + 1)
  unfolding count number idle
  merging-kept new placed next e n p a = rw (add-one i) record {
    within = less;
    passed = omega (arith, bit-zero i map e, m.passed);
    so_far = ap₂ (λ (x y : ℕ). x + y) m.so_far (p ∙ ap (λ (y : ℕ). y * 2 ^ (8 * i)) (n ∙ sym (new_byte-kept before map given i (bit-zero i map e))));
    none_idle = or-false _ _ m.none_idle (and-left-false _ _ (ne_eqb _ _ e));
  }

  pub merging-idle : bit i map ≡ 1 → get_or given at 0 ≡ byte i before → idle 8 before map given ≡ true
  merging-idle e d = idle-here before map given i 8 less e (is-given ∙ d)

  -- a bit that stands has its byte
  pub at-below : bit i map ≡ 1 → count 8 map ≤ length given → at < length given
  unfolding count
  at-below e h = omega (arith, m.passed, count-mono map (suc i) 8 less)

-- after all eight
pub merging-done : (given : List ℕ) (before map word at i : ℕ) → Merging given before map word at i → 8 ≤ i
    → (idle 8 before map given ≡ false) × (word ≡ merged before map given)
unfolding merged
merging-done given before map word at i m h =
    let e : i ≡ 8 = omega (arith, m.within) in
    (rw e at m.none_idle, rw e at m.so_far)

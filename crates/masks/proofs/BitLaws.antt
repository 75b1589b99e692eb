-- The bits of a number, and of what is made of two: and, or, exclusive or, shifts. Assumes nothing.
use mathlib.Core.Path.{◌≡◌, sym, ap, ◌∙◌}
use Prim.Native.Nat.{ℕ, zero, suc, ◌+◌, ◌*◌, ◌-◌, ◌/◌, ◌%◌, ◌^◌, ◌≤◌, ◌<◌}
use native.Mathlib.Omega.{arith}
use native.Mathlib.Nat.{mod-lt, pow-suc, mul_assoc, lt_of_lt_of_le, div-eq_of_lt, le_dest}
use lib.Bits.{bit_and, bit_or, bit_xor, and_shr, or_shr, xor_shr, and_mod, or_mod, xor_mod, shifted_even}
use lib.Pow.{pow_pos, pow_mono, pow-add, shr-shr, shl-shr, ones_split, ones_lt, high}
use Rattle.meaning.specs.Expression.{bit}

-- ---- operations bit by bit

pub bit-and : (i a b : ℕ) → bit i (bit_and a b) ≡ bit_and (bit i a) (bit i b)
bit-and i a b = ap (λ (x : ℕ). x % 2) (and_shr a b i) ∙ and_mod (a / 2 ^ i) (b / 2 ^ i) 1

pub bit-or : (i a b : ℕ) → bit i (bit_or a b) ≡ bit_or (bit i a) (bit i b)
bit-or i a b = ap (λ (x : ℕ). x % 2) (or_shr a b i) ∙ or_mod (a / 2 ^ i) (b / 2 ^ i) 1

pub bit-xor : (i a b : ℕ) → bit i (bit_xor a b) ≡ bit_xor (bit i a) (bit i b)
bit-xor i a b = ap (λ (x : ℕ). x % 2) (xor_shr a b i) ∙ xor_mod (a / 2 ^ i) (b / 2 ^ i) 1

pub bit-lt : (i a : ℕ) → bit i a < 2
bit-lt i a = mod-lt (a / 2 ^ i) (omega arith)

-- what was shifted up by lo has nothing below lo, and its own bits above
pub bit_below : (i lo v : ℕ) → i < lo → bit i (v * 2 ^ lo) ≡ 0
bit_below i lo v h =
    let (d, e) = le_dest h in
    let f : lo ≡ suc d + i = omega (arith, e) in
    rw (f, pow-add 2 (suc d) i, ← mul_assoc, shl-shr) (shifted_even v d)

pub bit-above : (i lo v : ℕ) → bit (lo + i) (v * 2 ^ lo) ≡ bit i v
bit-above i lo v = ap (λ (x : ℕ). x % 2) (sym (shr-shr (v * 2 ^ lo) lo i) ∙ ap (λ (x : ℕ). x / 2 ^ i) (shl-shr v lo))

-- a number below 2 ^ w has no bits from w on, and of 2 ^ w - 1 all bits below w stand
pub bit-over : (i w v : ℕ) → v < 2 ^ w → w ≤ i → bit i v ≡ 0
bit-over i w v h k = ap (λ (x : ℕ). x % 2) (div-eq_of_lt (lt_of_lt_of_le h (pow_mono k)))

odd-ones : (d : ℕ) → (2 ^ suc d - 1) % 2 ≡ 1
odd-ones d = rw (pow-suc 2 d) (omega (arith, pow_pos d))

pub bit-ones : (j w : ℕ) → j < w → bit j (2 ^ w - 1) ≡ 1
bit-ones j w h =
    let (d, e) = le_dest h in
    let f : w ≡ suc d + j = omega (arith, e) in
    rw (f, ones_split (suc d) j, high (2 ^ suc d - 1) j (ones_lt j)) (odd-ones d)

pub zero_bit : (i : ℕ) → bit i 0 ≡ 0
zero_bit i = bit-over i 0 0 (omega arith) (omega arith)

-- ---- single bits

pub data Bit : ℕ → Type 0 where
  off : Bit 0
  on : Bit 1

is-bit : (x : ℕ) → x < 2 → Bit x
is-bit zero h = off
is-bit (suc zero) h = on
is-bit (suc (suc x)) h = absurd (omega arith)

pub bit_is : (i a : ℕ) → Bit (bit i a)
bit_is i a = is-bit (bit i a) (bit-lt i a)

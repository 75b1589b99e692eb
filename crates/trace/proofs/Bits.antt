-- The standing bits of a map: their count, and that it grows with the bits looked at. Assumes nothing.
use mathlib.Core.Path.{◌≡◌, refl, sym, ap}
use mathlib.Core.Logic.{◌⊎◌, inl, inr}
use Prim.Native.Nat.{ℕ, zero, suc, ◌+◌, ◌*◌, ◌%◌, ◌^◌, ◌≤◌, ◌<◌}
use native.Mathlib.Nat.{one-mul, mod-one, add_comm, mod-lt, mod-eq_of_lt, le_refl, not-suc-le-zero, le_of_suc-le-suc}
use native.Mathlib.Decide.{le_ind}
use native.Mathlib.Numerals.{one-add}
use native.Mathlib.Omega.{arith}
use lib.Count.{ones, ones_cat}
use lib.Pow.{pow_pos, mod-pow-add}
use Rattle.trace.specs.Record.{digit, bit, count}
use Rattle.trace.proofs.Digits.{digit_lt}

pub bit-lt : (i map : ℕ) → bit i map < 2
bit-lt i map = digit_lt 1 i map

pub bit-zero : (i map : ℕ) → (bit i map ≡ 1 → ⊥) → bit i map ≡ 0
bit-zero i map n = omega (arith, bit-lt i map)

pub bit-cases : (i map : ℕ) → (bit i map ≡ 0) ⊎ (bit i map ≡ 1)
bit-cases i map = go (bit i map) (bit-lt i map)
  where
    go : (b : ℕ) → b < 2 → (b ≡ 0) ⊎ (b ≡ 1)
    go zero h = inl refl
    go (suc zero) h = inr refl
    go (suc (suc b)) h = absurd (not-suc-le-zero (le_of_suc-le-suc (le_of_suc-le-suc h)))

ones_small : (b : ℕ) → b < 2 → ones b ≡ b
unfolding ones
ones_small zero h = refl
ones_small (suc zero) h = refl
ones_small (suc (suc b)) h = absurd (not-suc-le-zero (le_of_suc-le-suc (le_of_suc-le-suc h)))

split-top : (i map : ℕ) → map % 2 ^ suc i ≡ bit i map * 2 ^ i + map % 2 ^ i
unfolding digit
split-top i map = rw (one-mul, ← one-add i) (mod-pow-add map 1 i)

-- the i lowest bits of a map are a number whose set digits they are
ones_low : (i map : ℕ) → ones (map % 2 ^ i) ≡ count i map
unfolding count ones
ones_low zero map = rw mod-one
ones_low (suc i) map =
    rw (split-top, ones_cat i (bit i map) (map % 2 ^ i) (mod-lt map (pow_pos i)), ones_small (bit i map) (bit-lt i map), ones_low i map)
    (add_comm (bit i map) (count i map))

pub ones-count : (map : ℕ) → map < 256 → ones map ≡ count 8 map
ones-count map h = rw (← ones_low) (ap ones (sym (mod-eq_of_lt h)))

pub count-mono : (map i j : ℕ) → i ≤ j → count i map ≤ count j map
unfolding count
count-mono map i j h = le_ind (λ n. count i map ≤ count n map) (le_refl _) (λ n l r. omega arith) j h

pub count-le : (i map : ℕ) → count i map ≤ i
unfolding count
count-le zero map = le_refl 0
count-le (suc i) map = omega (arith, bit-lt i map, count-le i map)

-- Laws of `digit` and `number`, once for every width of a digit: bits of a map and bytes of a word are two uses. Assumes nothing.
use mathlib.Core.Path.{◌≡◌, refl, sym, ap₂, ◌∙◌}
use mathlib.Core.Logic.{⊎_elim}
use Prim.Native.Nat.{ℕ, zero, suc, ◌+◌, ◌*◌, ◌/◌, ◌%◌, ◌^◌, ◌<◌}
use native.Mathlib.Nat.{add_comm, mul-suc, mul-zero, mul_comm, mul_assoc, mul-add, mod-lt, mod-one, mod-eq_of_lt, add-mul-mod_self_right, le_dest, le_of_suc-le-suc, eq-or-lt_of_le, not-suc-le-zero}
use native.Mathlib.Omega.{arith}
use lib.Pow.{pow_pos, pow-add, high, field, mod-pow-add}
use lib.Arith.{digits_lt}
use Rattle.trace.specs.Record.{digit, number}

pub digit_lt : (k i n : ℕ) → digit k i n < 2 ^ k
unfolding digit
digit_lt k i n = mod-lt (n / 2 ^ (k * i)) (pow_pos k)

power-suc : (k i : ℕ) → 2 ^ (k * suc i) ≡ 2 ^ k * 2 ^ (k * i)
power-suc k i = rw (mul-suc, add_comm (k * i) k, pow-add)

-- what a number of digits below 2 ^ k is below
pub number_lt : (k : ℕ) (f : ℕ → ℕ) → ((j : ℕ) → f j < 2 ^ k) → (i : ℕ) → number k f i < 2 ^ (k * i)
unfolding number
number_lt k f small zero = rw mul-zero (pow_pos 0)
number_lt k f small (suc i) =
    rw (power-suc, add_comm) (digits_lt (small i) (number_lt k f small i))

top : (k : ℕ) (f : ℕ → ℕ) → ((j : ℕ) → f j < 2 ^ k) → (i : ℕ) → digit k i (number k f i + f i * 2 ^ (k * i)) ≡ f i
unfolding digit
top k f small i =
    rw (add_comm (number k f i) (f i * 2 ^ (k * i)), high (f i) (k * i) (number_lt k f small i)) (mod-eq_of_lt (small i))

-- a digit of a number is one of the number's remainder
digit-mod : (k j n : ℕ) → digit k j n ≡ n % 2 ^ (k * suc j) / 2 ^ (k * j)
unfolding digit
digit-mod k j n = rw (mul-suc, add_comm (k * j) k) (sym (field n k (k * j)))

multiple : (k f n a d : ℕ) → (n + f * 2 ^ (k * (a + d))) % 2 ^ (k * a) ≡ n % 2 ^ (k * a)
multiple k f n a d =
    rw (mul-add, pow-add, mul_comm (2 ^ (k * a)) (2 ^ (k * d)), ← mul_assoc) (add-mul-mod_self_right n (f * 2 ^ (k * d)) (2 ^ (k * a)))

-- a multiple of 2 ^ (k * i) adds nothing to the digits below i
lower : (k f n i j : ℕ) → j < i → digit k j (n + f * 2 ^ (k * i)) ≡ digit k j n
lower k f n i j l =
    rw (digit-mod k j (n + f * 2 ^ (k * i)), digit-mod k j n, ← (le_dest l).1, multiple k f n (suc j) (le_dest l).0)

-- the digits of a number given by its digits are those digits
pub digit-number : (k : ℕ) (f : ℕ → ℕ) → ((j : ℕ) → f j < 2 ^ k) → (i j : ℕ) → j < i → digit k j (number k f i) ≡ f j
unfolding number
digit-number k f small zero j h = absurd (not-suc-le-zero h)
digit-number k f small (suc i) j h =
    ⊎_elim (λ e. rw e (top k f small i)) (λ l. lower k (f i) (number k f i) i j l ∙ digit-number k f small i j l) (eq-or-lt_of_le (le_of_suc-le-suc h))

-- a number is given by its digits
pub number_digits : (k n i : ℕ) → number k (λ j. digit k j n) i ≡ n % 2 ^ (k * i)
unfolding number digit
number_digits k n zero = rw mul-zero (sym (mod-one n))
number_digits k n (suc i) =
    rw (number_digits k n i, mul-suc, add_comm (k * i) k, mod-pow-add n k (k * i)) (add_comm (n % 2 ^ (k * i)) (digit k i n * 2 ^ (k * i)))

-- only the digits in use count
pub number-ext : (k : ℕ) (f g : ℕ → ℕ) (i : ℕ) → ((j : ℕ) → j < i → f j ≡ g j) → number k f i ≡ number k g i
unfolding number
number-ext k f g zero e = refl
number-ext k f g (suc i) e =
    ap₂ (λ (x y : ℕ). x + y * 2 ^ (k * i)) (number-ext k f g i (λ j h. e j (omega arith))) (e i (omega arith))

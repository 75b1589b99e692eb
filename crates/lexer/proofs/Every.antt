-- A rule of numbers below a bound, proved at all of them by one test that antt computes.
-- Assumes nothing.
use mathlib.Core.Path.{◌≡◌, subst, sym}
use mathlib.Core.Bool.{Bool, true, ◌&&◌}
use mathlib.Core.Logic.{⊎_elim}
use Prim.Native.Nat.{ℕ, zero, suc, ◌<◌}
use native.Mathlib.Nat.{eq-or-lt_of_le, le_of_suc-le-suc, not-suc-le-zero}
use Rattle.lexer.proofs.Bools.{and_left, and_right}

-- the test passes at every number below n
abbrev pub every : (ℕ → Bool) → ℕ → Bool
every f zero = true
every f (suc n) = f n && every f n

pub every-at : (f : ℕ → Bool) (n : ℕ) → every f n ≡ true → (k : ℕ) → k < n → f k ≡ true
every-at f zero e k h = absurd (not-suc-le-zero h)
every-at f (suc n) e k h =
    ⊎_elim
    (λ q. subst (λ (m : ℕ). f m ≡ true) (sym q) (and_left (f n) (every f n) e))
    (λ l. every-at f n (and_right (f n) (every f n) e) k l)
    (eq-or-lt_of_le (le_of_suc-le-suc h))

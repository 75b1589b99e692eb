-- The lowest number that passes a test: a step of the search. Assumes nothing.
use mathlib.Core.Bool.{Bool, true, false, cond}
use mathlib.Core.Path.{◌≡◌, sym, ◌∙◌}
use Prim.Native.Nat.{ℕ, zero, suc, ◌+◌, ◌-◌, ◌≤◌, ◌<◌}
use native.Mathlib.Omega.{arith}
use Rattle.shape.specs.Lowest.{lowest}

-- it is none of the numbers before
pub not-before : (test : ℕ → Bool) (i n : ℕ) → i ≤ lowest test i n
unfolding lowest
not-before test i zero = omega arith
not-before test i (suc n) = by (test i) (not-before test (suc i) n)
  where
    by : (b : Bool) → suc i ≤ lowest test (suc i) n → i ≤ cond b i (lowest test (suc i) n)
    by true h = omega arith
    by false h = omega arith

pub lowest-from : (test : ℕ → Bool) (i n : ℕ) {r : ℕ} → r ≡ lowest test i n → i ≤ r
lowest-from test i n p = omega (arith, not-before test i n)

module _ (test : ℕ → Bool) (i end : ℕ) where
  pub lowest-end : end ≤ i → lowest test i (end - i) ≡ i
  unfolding lowest
  lowest-end h = let e : end - i ≡ 0 = omega arith in rw e

moved : (i j : ℕ) → i + suc j ≡ suc i + j
moved i j = omega arith

-- the place of the first that passes, and none
pub lowest-at : (test : ℕ → Bool) (i n k : ℕ) → k < n → test (i + k) ≡ true → ((j : ℕ) → j < k → test (i + j) ≡ false) → lowest test i n ≡ i + k
unfolding lowest
lowest-at test i zero k h p q = absurd (omega arith)
lowest-at test i (suc n) zero h p q =
    let e : i + 0 ≡ i = omega arith in
    let f : test i ≡ true = rw e at p in
    rw (f, e)
lowest-at test i (suc n) (suc k) h p q =
    let e : i + 0 ≡ i = omega arith in
    let f : test i ≡ false = rw e at (q 0 (omega arith)) in
    rw f (lowest-at test (suc i) n k (omega arith) (rw (moved i k) at p) (λ j l. rw (moved i j) at (q (suc j) (omega arith))) ∙ sym (moved i k))

pub lowest-none : (test : ℕ → Bool) (i n : ℕ) → ((j : ℕ) → j < n → test (i + j) ≡ false) → i + n ≤ lowest test i n
unfolding lowest
lowest-none test i zero q = omega arith
lowest-none test i (suc n) q =
    let e : i + 0 ≡ i = omega arith in
    let f : test i ≡ false = rw e at (q 0 (omega arith)) in
    let rest = lowest-none test (suc i) n (λ j l. rw (moved i j) at (q (suc j) (omega arith))) in
    rw f (omega (arith, rest))

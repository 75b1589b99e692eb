-- The lowest number that passes a test, found 64 numbers at a time: a step of the search. Assumes nothing.
use mathlib.Core.Bool.{Bool, true, false, cond}
use mathlib.Core.Path.{◌≡◌, refl, sym, ap, ap₂, ◌∙◌, subst}
use Prim.Native.Nat.{ℕ, zero, suc, ◌+◌, ◌-◌, ◌≤◌, ◌<◌}
use native.Mathlib.Omega.{arith}
use Rattle.shape.specs.Sets.{has, Passing}
use Rattle.shape.specs.Lowest.{lowest}

-- tests that say the same of n numbers find the same
lowest-same : (test other : ℕ → Bool) (i n : ℕ) → ((x : ℕ) → x < n → test (i + x) ≡ other (i + x)) → lowest test i n ≡ lowest other i n
unfolding lowest
lowest-same test other i zero h = refl
lowest-same test other i (suc n) h =
    let e : i + 0 ≡ i = omega arith in
    ap₂ (λ (b : Bool) (r : ℕ). cond b i r) (subst (λ (j : ℕ). test j ≡ other j) e (h 0 (omega arith)))
    (lowest-same test other (suc i) n (λ x l. moved x (h (suc x) (omega arith))))
  where
    moved : (x : ℕ) → test (i + suc x) ≡ other (i + suc x) → test (suc i + x) ≡ other (suc i + x)
    moved x p = let e : i + suc x ≡ suc i + x = omega arith in subst (λ (j : ℕ). test j ≡ other j) e p

-- the first n of k + n numbers: one of them is found, or the search goes on behind them
module _ (test : ℕ → Bool) (k : ℕ) where
  found_here : (i n : ℕ) → lowest test i n < i + n → lowest test i (k + n) ≡ lowest test i n
  unfolding lowest
  found_here i zero h = absurd (omega arith)
  found_here i (suc n) h = let e : k + suc n ≡ suc (k + n) = omega arith in ap (lowest test i) e ∙ by (test i) h (found_here (suc i) n)
    where
      by : (b : Bool) → cond b i (lowest test (suc i) n) < i + suc n → (lowest test (suc i) n < suc i + n → lowest test (suc i) (k + n) ≡ lowest test (suc i) n)
          → cond b i (lowest test (suc i) (k + n)) ≡ cond b i (lowest test (suc i) n)
      by true l g = refl
      by false l g = g (omega arith)

  found-behind : (i n : ℕ) → i + n ≤ lowest test i n → lowest test i (k + n) ≡ lowest test (i + n) k
  unfolding lowest
  found-behind i zero h =
      let e : i ≡ i + 0 = omega arith in
      let f : k + 0 ≡ k = omega arith in
      ap₂ (lowest test) e f
  found-behind i (suc n) h = let e : k + suc n ≡ suc (k + n) = omega arith in ap (lowest test i) e ∙ by (test i) h (found-behind (suc i) n)
    where
      by : (b : Bool) → i + suc n ≤ cond b i (lowest test (suc i) n) → (suc i + n ≤ lowest test (suc i) n → lowest test (suc i) (k + n) ≡ lowest test (suc i + n) k)
          → cond b i (lowest test (suc i) (k + n)) ≡ lowest test (i + suc n) k
      by true l g = absurd (omega arith)
      by false l g = let e : suc i + n ≡ i + suc n = omega arith in g (omega arith) ∙ ap (λ (j : ℕ). lowest test j k) e

-- the numbers from i on and below stop are looked up in a set
module _ (test : ℕ → Bool) (i stop end set : ℕ) {r : ℕ} (block : (i < stop) × (stop ≤ i + 64) × (stop ≤ end)) (passing : Passing test i stop set)
    (is-r : r ≡ lowest (λ j. has (j - i) set) i (stop - i)) where
  looked-up : r ≡ lowest test i (stop - i)
  looked-up = is-r ∙ lowest-same (λ j. has (j - i) set) test i (stop - i) same
    where
      same : (x : ℕ) → x < stop - i → has (i + x - i) set ≡ test (i + x)
      same x l = let e : i + x - i ≡ x = omega arith in ap (λ (k : ℕ). has k set) e ∙ passing x (omega arith) (omega arith)

  parts : lowest test i (end - i) ≡ lowest test i (end - stop + (stop - i))
  parts = let e : end - i ≡ end - stop + (stop - i) = omega arith in ap (lowest test i) e

  pub block_here : r < stop → r ≡ lowest test i (end - i)
  block_here h =
      looked-up ∙ sym (parts ∙ found_here test (end - stop) i (stop - i) (subst (λ (n : ℕ). n < i + (stop - i)) looked-up (omega arith)))

  pub block-next : stop ≤ r → lowest test i (end - i) ≡ lowest test stop (end - stop)
  block-next h =
      let e : i + (stop - i) ≡ stop = omega arith in
      parts ∙ found-behind test (end - stop) i (stop - i) (subst (λ (n : ℕ). i + (stop - i) ≤ n) looked-up (omega arith))
      ∙ ap (λ (j : ℕ). lowest test j (end - stop)) e

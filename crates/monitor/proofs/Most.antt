-- Lists of numbers that are all at most n, also behind their end, where they count as 0. Assumes nothing.
use mathlib.Core.List.{List, [], ◌∷◌}
use Prim.Native.Nat.{ℕ, zero, suc, ◌≤◌}
use native.Mathlib.Omega.{arith}
use lib.ListN.{get_or, set, replicate}
use lib.Seq.{sets}

abbrev pub AllMost : (n : ℕ) → List ℕ → Type 0
AllMost n xs = (k : ℕ) → get_or xs k 0 ≤ n

pub replicate-most : {n : ℕ} (c x : ℕ) → x ≤ n → AllMost n (replicate c x)
replicate-most zero x h k = omega arith
replicate-most (suc c) x h zero = h
replicate-most (suc c) x h (suc k) = replicate-most c x h k

pub set-most : {n : ℕ} (xs : List ℕ) (i x : ℕ) → AllMost n xs → x ≤ n → AllMost n (set xs i x)
set-most [] i x a h k = omega arith
set-most (y ∷ xs) zero x a h zero = h
set-most (y ∷ xs) zero x a h (suc k) = a (suc k)
set-most (y ∷ xs) (suc i) x a h zero = a zero
set-most (y ∷ xs) (suc i) x a h (suc k) = set-most xs i x (λ j. a (suc j)) h k

pub sets-most : {n : ℕ} (ys xs : List ℕ) (i : ℕ) → AllMost n xs → AllMost n ys → AllMost n (sets xs i ys)
sets-most [] xs i a b = a
sets-most (y ∷ ys) xs i a b = sets-most ys (set xs i y) (suc i) (set-most xs i y a (b zero)) (λ k. b (suc k))

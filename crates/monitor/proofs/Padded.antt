-- The store values of a watch: those of the meaning, with zeros behind them. Assumes nothing.
use mathlib.Core.Path.{◌≡◌, refl, sym, ap, ◌∙◌}
use mathlib.Core.List.{List, ◌++◌}
use Prim.Native.Nat.{ℕ, zero, suc, ◌+◌, ◌-◌, ◌≤◌, ◌<◌}
use native.Mathlib.Omega.{arith}
use native.Mathlib.Nat.{zero-add}
use native.Mathlib.Decide.{dec_lt}
use lib.ListN.{length, get_or, set, drop, replicate, length-set, length-replicate, get_or-eq_default, get_or-append}
use lib.Seq.{sets, sets-eq, set-append_left, get_or-append-add, get_or-drop}

-- as a watch's array has them
abbrev pub padded : List ℕ → List ℕ
padded σ = sets (replicate 16 0) 0 σ

-- an element of zeros, or past their end
pub zeros-at : (n i : ℕ) → ◌≡◌ {A = ℕ} (get_or (replicate n 0) i 0) 0
zeros-at zero i = refl
zeros-at (suc n) zero = refl
zeros-at (suc n) (suc i) = zeros-at n i

-- a list at the front of n zeros
module _ (n : ℕ) (σ : List ℕ) (few : length σ ≤ n) where
  padding : sets (replicate n 0) 0 σ ≡ σ ++ drop (length σ) (replicate n 0)
  padding =
      sets-eq σ (replicate n 0) 0 (let z = length-replicate {A = ℕ} n 0 in omega (arith, z, few))
      ∙ ap (λ (k : ℕ). σ ++ drop k (replicate n 0)) (zero-add (length σ))

  -- a load, also behind it
  pub padded-get : (s : ℕ) → get_or (sets (replicate n 0) 0 σ) s 0 ≡ get_or σ s 0
  padded-get s = ap (λ l. get_or l s 0) padding ∙ elim (dec_lt s (length σ)) [
    | yes l ↦ get_or-append σ _ 0 s l
    | no g ↦
        let e : s ≡ length σ + (s - length σ) = omega arith in
        ap (λ (i : ℕ). get_or (σ ++ drop (length σ) (replicate n 0)) i 0) e
        ∙ get_or-append-add σ (drop (length σ) (replicate n 0)) (s - length σ) 0
        ∙ get_or-drop (length σ) (replicate n 0) (s - length σ) 0
        ∙ zeros-at n (length σ + (s - length σ))
        ∙ sym (get_or-eq_default σ 0 (omega arith))
  ]

-- a store
pub padded-set : (σ : List ℕ) → length σ ≤ 16 → (s v : ℕ) → s < length σ → set (padded σ) s v ≡ padded (set σ s v)
padded-set σ few s v l =
    ap (λ r. set r s v) (padding 16 σ few) ∙ set-append_left σ _ s v l
    ∙ ap (λ (n : ℕ). set σ s v ++ drop n (replicate 16 0)) (sym (length-set σ s v))
    ∙ sym (padding 16 (set σ s v) (let e = length-set σ s v in omega (arith, e)))

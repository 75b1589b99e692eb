-- Turns of the loops that lay out costs and places. Assumes nothing.
use Rattle.std.proofs.Common.{◌≡◌, ◌∙◌, ap, ap₂, cond, eqb, List, ℕ, suc, ◌+◌, ◌-◌, ◌<◌, ◌≤◌, get_or, arith}
use Rattle.std.proofs.Math.ListN.{set}
use Rattle.words.specs.Words.{part0}
use Rattle.counts.specs.Counts.{row_cost, costs_down, row_place, letters_before, places_up}

-- one row more from behind
pub costs_next : (t cs : List ℕ) (n r v : ℕ) → cs ≡ costs_down t n (n - r) → v ≡ row_cost t cs (r - 1) → 0 < r → r ≤ n → set cs (r - 1) v ≡ costs_down t n (n - (r - 1))
unfolding costs_down
costs_next t cs n r v a b c h =
    let i : r - 1 ≡ n - suc (n - r) = omega (arith, c, h) in
    let j : suc (n - r) ≡ n - (r - 1) = omega (arith, c, h) in
    ap₂ (λ (l : List ℕ) (x : ℕ). set l (r - 1) x) a (b ∙ ap (λ (l : List ℕ). row_cost t l (r - 1)) a)
    ∙ ap (λ (i : ℕ). set (costs_down t n (n - r)) i (row_cost t (costs_down t n (n - r)) i)) i
    ∙ ap (costs_down t n) j

-- one row more from the front, k letters behind
module _ (t : List ℕ) (r k : ℕ) (a : k ≡ letters_before t r) where
  next_row : suc r ≡ r + 1
  next_row = omega arith

  pub letters_next : (m : ℕ) → m ≡ k + cond (eqb (part0 (get_or t r 0)) 0) 1 0 → m ≡ letters_before t (r + 1)
  unfolding letters_before
  letters_next m b = b ∙ ap (λ (x : ℕ). x + cond (eqb (part0 (get_or t r 0)) 0) 1 0) a ∙ ap (letters_before t) next_row

  pub places_next : (cs ps : List ℕ) (v : ℕ) → ps ≡ places_up t cs r → v ≡ row_place t cs ps k r → set ps r v ≡ places_up t cs (r + 1)
  unfolding places_up
  places_next cs ps v d b =
      ap₂ (λ (l : List ℕ) (x : ℕ). set l r x) d (b ∙ ap₂ (λ (l : List ℕ) (x : ℕ). row_place t cs l x r) d a) ∙ ap (places_up t cs) next_row

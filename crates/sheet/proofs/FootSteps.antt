-- The foot of the sheet, by the code's loops. Assumes nothing.
use mathlib.Core.Path.{◌≡◌, sym, ◌∙◌, ap, ap₂}
use mathlib.Core.List.{List, [], ◌∷◌, ◌++◌}
use Prim.Native.Nat.{ℕ, suc, ◌+◌, ◌-◌, ◌<◌, ◌≤◌, min}
use native.Mathlib.Omega.{arith}
use lib.ListN.{get_or}
use Rattle.meaning.specs.Lists.{total}
use Rattle.meaning.specs.Totals.{sum}
use Rattle.meaning.specs.Sheet.{met_line, met_lines, all_met_lines}
use Rattle.monitor.specs.Ticks.{letters_end}
use Rattle.monitor.specs.Calls.{stretch, totals_from, totals_in}

-- ---- the letters of a monitor

module _ (N : List ℕ) (to l : ℕ) (h : l < to) where
  stretch-more : stretch N (to - l) l ≡ get_or N l 0 ∷ stretch N (to - (l + 1)) (l + 1)
  unfolding stretch
  stretch-more =
      let d : to - l ≡ suc (to - (l + 1)) = omega arith in
      let s : suc l ≡ l + 1 = omega arith in
      ap (λ (n : ℕ). stretch N n l) d ∙ ap (λ (k : ℕ). get_or N l 0 ∷ stretch N (to - (l + 1)) k) s

  -- c is this letter's number
  pub lines_more : (i j k : ℕ) → k ≡ suc j → (c : ℕ) → c ≡ get_or N l 0 → met_lines i j (stretch N (to - l) l) ≡ met_line i j c ++ met_lines i k (stretch N (to - (l + 1)) (l + 1))
  unfolding met_lines
  lines_more i j k e c f = ap (met_lines i j) stretch-more ∙ ap₂ (λ (n m : ℕ). met_line i j n ++ met_lines i m (stretch N (to - (l + 1)) (l + 1))) (sym f) (sym e)

  pub sum_more : (s t c : ℕ) → c ≡ get_or N l 0 → t ≡ s + total (λ n. n) (stretch N (to - l) l) → t ≡ s + c + total (λ n. n) (stretch N (to - (l + 1)) (l + 1))
  sum_more s t c f e = let d = ap (total (λ n. n)) stretch-more in omega (arith, e, d, f)

pub lines_end : (N : List ℕ) (to l i j : ℕ) → to ≤ l → met_lines i j (stretch N (to - l) l) ≡ []
unfolding met_lines stretch
lines_end N to l i j h = let d : to - l ≡ 0 = omega arith in ap (λ (n : ℕ). met_lines i j (stretch N n l)) d

pub sum-end : (N : List ℕ) (to l s t : ℕ) → to ≤ l → t ≡ s + total (λ n. n) (stretch N (to - l) l) → s ≡ t
unfolding stretch
sum-end N to l s t h e =
    let d : to - l ≡ 0 = omega arith in
    let z : total (λ n. n) (stretch N (to - l) l) ≡ 0 = ap (λ (n : ℕ). total (λ n. n) (stretch N n l)) d in
    omega (arith, e, z)

-- ---- all monitors

module _ (F N : List ℕ) (m l n i : ℕ) (h : i < n) where
  abbrev here : List ℕ
  here = stretch N (letters_end F m l i - get_or F i 0) (get_or F i 0)

  totals-more : totals_from F N m l (n - i) i ≡ here ∷ totals_from F N m l (n - (i + 1)) (i + 1)
  unfolding totals_from
  totals-more =
      let d : n - i ≡ suc (n - (i + 1)) = omega arith in
      let s : suc i ≡ i + 1 = omega arith in
      ap (λ (k : ℕ). totals_from F N m l k i) d ∙ ap (λ (k : ℕ). here ∷ totals_from F N m l (n - (i + 1)) k) s

  pub monitors-more : (from to : ℕ) → from ≡ get_or F i 0 → to ≡ letters_end F m l i
      → all_met_lines i (totals_from F N m l (n - i) i) ≡ met_lines i 0 (stretch N (to - from) from) ++ all_met_lines (i + 1) (totals_from F N m l (n - (i + 1)) (i + 1))
  unfolding all_met_lines
  monitors-more from to p q =
      let s : suc i ≡ i + 1 = omega arith in
      ap (all_met_lines i) totals-more ∙ ap (λ (k : ℕ). met_lines i 0 here ++ all_met_lines k (totals_from F N m l (n - (i + 1)) (i + 1))) s
      ∙ sym (ap₂ (λ (u v : ℕ). met_lines i 0 (stretch N (v - u) u) ++ all_met_lines (i + 1) (totals_from F N m l (n - (i + 1)) (i + 1))) p q)

  pub sums-more : (from to s t x : ℕ) → from ≡ get_or F i 0 → to ≡ letters_end F m l i → x ≡ total (λ n. n) (stretch N (to - from) from)
      → t ≡ s + sum (totals_from F N m l (n - i) i) → t ≡ s + x + sum (totals_from F N m l (n - (i + 1)) (i + 1))
  sums-more from to s t x p q e f =
      let d = ap sum totals-more in
      let g : x ≡ total (λ n. n) here = e ∙ ap₂ (λ (u v : ℕ). total (λ n. n) (stretch N (v - u) u)) p q in
      omega (arith, f, d, g)

module _ (F N : List ℕ) (m l n i : ℕ) (h : n ≤ i) where
  totals-end : totals_from F N m l (n - i) i ≡ []
  unfolding totals_from
  totals-end = let d : n - i ≡ 0 = omega arith in ap (λ (k : ℕ). totals_from F N m l k i) d

  pub monitors-end : all_met_lines i (totals_from F N m l (n - i) i) ≡ []
  unfolding all_met_lines
  monitors-end = ap (all_met_lines i) totals-end

  pub sums-end : (s t : ℕ) → t ≡ s + sum (totals_from F N m l (n - i) i) → s ≡ t
  sums-end s t e = let d = ap sum totals-end in omega (arith, e, d)

pub totals-first : (F N : List ℕ) (m l n : ℕ) → n ≡ min m 32 → totals_in F N m l ≡ totals_from F N (min m 32) (min l 256) (n - 0) 0
totals-first F N m l n e = let d : min m 32 ≡ n - 0 = omega (arith, e) in ap (λ (k : ℕ). totals_from F N (min m 32) (min l 256) k 0) d

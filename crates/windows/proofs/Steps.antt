-- The windows of limits, by the code's branches and loops. Assumes nothing.
use Rattle.std.proofs.Common.{◌≡◌, ℕ, zero, suc, ◌+◌, ◌-◌, ◌%◌, ◌<◌, ◌≤◌, List, get_or, take, drop, set, sym, refl, ap, ◌∙◌, ap₂, arith, get_or-drop, get_or-set_other, get_or-take, le-ltb, lt-ltb}
use lib.Bits.{bit_or}
use lib.ListN.{get_or-map}
use Rattle.words.specs.Words.{part1, part2}
use Rattle.windows.specs.Windows.{bit_of, counted_in, mask_of, met_mask, count_at, most_at, back_at, place_at, place_in, next_count, beyond_from, counted, limited}

-- ---- the mask of a tick

pub met-more : (M C : List ℕ) (l k m r : ℕ) → m ≡ met_mask M C l → r ≡ mask_of M C l → k ≡ l + 1 → bit_or m r ≡ met_mask M C k
unfolding met_mask
met-more M C l k m r e f q = let s : suc l ≡ k = omega arith in ap₂ bit_or e f ∙ ap (met_mask M C) s

-- the limits that count letter i, by the block's word for it
pub counted-at : (F : List ℕ) (i : ℕ) → i < 256 → get_or F (320 + i) 0 % 256 ≡ get_or (counted_in F) i 0
counted-at F i h = sym (get_or-map (λ (x : ℕ). x % 256) (take 256 (drop 320 F)) i 0 ∙ ap (λ (x : ℕ). x % 256) (get_or-take 256 (drop 320 F) i 0 h ∙ get_or-drop 320 F i 0))

-- ---- counts

-- the next count, by the place p, the back b, the running count n, the mask's bit x, and the tick v that leaves with its bit y
pub next-right : (W : List ℕ) (m k p b n x v y : ℕ) → p ≡ get_or W place_at 0 → b ≡ get_or W (back_at k) 0 → n ≡ get_or W (count_at k) 0 → x ≡ bit_of k m
    → v ≡ get_or W ((p % 1024 + b) % 1024) 0 → y ≡ bit_of k v → n + x - y ≡ next_count W m k
next-right W m k p b n x v y e f g h i j = cc

-- it is the same where the numbers that it is made of are
same_next : (X W : List ℕ) (m k : ℕ) → get_or X place_at 0 ≡ get_or W place_at 0 → get_or X (back_at k) 0 ≡ get_or W (back_at k) 0 → get_or X (count_at k) 0 ≡ get_or W (count_at k) 0
    → ((i : ℕ) → i < 1024 → get_or X i 0 ≡ get_or W i 0) → next_count X m k ≡ next_count W m k
same_next X W m k p b c r = next-right W m k _ _ _ _ _ _ p b c refl (r ((place_in X + get_or X (back_at k) 0) % 1024) (omega arith)) refl

-- the first of the limits from k up to n
module _ (W : List ℕ) (m n k : ℕ) where
  pub beyond-none : n ≤ k → 8 ≡ beyond_from W m (n - k) k
  unfolding beyond_from
  beyond-none h = let e : 0 ≡ n - k = omega arith in ap (λ (j : ℕ). beyond_from W m j k) e

  module _ (h : k < n) (a c : ℕ) (p : a ≡ get_or W (most_at k) 0) (q : c ≡ next_count W m k) where
    left_over : suc (n - (k + 1)) ≡ n - k
    left_over = omega arith

    pub beyond-here : a < c → k ≡ beyond_from W m (n - k) k
    unfolding beyond_from
    beyond-here l = rw (← left_over, lt-ltb (get_or W (most_at k) 0) (next_count W m k) (omega (arith, p, q, l)))

    pub beyond-later : c ≤ a → beyond_from W m (n - k) k ≡ beyond_from W m (n - (k + 1)) (k + 1)
    unfolding beyond_from
    beyond-later l =
        let e : suc k ≡ k + 1 = omega arith in
        rw (← left_over, le-ltb (get_or W (most_at k) 0) (next_count W m k) (omega (arith, p, q, l))) (ap (beyond_from W m (n - (k + 1))) e)

-- the counts alone are changed
pub counted-other : (W : List ℕ) (m n i : ℕ) → (1024 ≤ i → 1024 + n ≤ i) → get_or (counted W m n) i 0 ≡ get_or W i 0
unfolding counted
counted-other W m zero i h = refl
counted-other W m (suc n) i h =
    get_or-set_other (counted W m n) (count_at n) i _ 0 (λ e. let l = h (omega arith) in omega arith)
    ∙ counted-other W m n i (λ l. let q = h l in omega arith)

pub counted-more : (W X : List ℕ) (m n k c : ℕ) → X ≡ counted W m n → c ≡ next_count X m n → n < 8 → k ≡ n + 1 → set X (count_at n) (c % 65536) ≡ counted W m k
unfolding counted
counted-more W X m n k c e f h q =
    let other = counted-other W m n in
    let s : suc n ≡ k = omega arith in
    let same = same_next (counted W m n) W m n (other place_at (λ l. omega arith)) (other (back_at n) (λ l. omega arith)) (other (count_at n) (λ l. omega arith)) (λ i l. other i (λ g. omega arith)) in
    ap₂ (λ (l : List ℕ) (x : ℕ). set l (count_at n) (x % 65536)) e (f ∙ ap (λ (l : List ℕ). next_count l m n) e ∙ same) ∙ ap (counted W m) s

-- ---- at opening

pub limited-more : (L W : List ℕ) (n k a b : ℕ) → W ≡ limited L n → a ≡ part1 (get_or L n 0) → b ≡ 1024 - part2 (get_or L n 0) → k ≡ n + 1 → set (set W (most_at n) a) (back_at n) b ≡ limited L k
unfolding limited
limited-more L W n k a b e f g q =
    let s : suc n ≡ k = omega arith in
    ap₂ (λ (l : List ℕ) (x : ℕ). set (set l (most_at n) x) (back_at n) b) e f ∙ ap (set (set (limited L n) (most_at n) (part1 (get_or L n 0))) (back_at n)) g ∙ ap (limited L) s

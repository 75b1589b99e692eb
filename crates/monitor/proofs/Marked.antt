-- Going over marked letters: what does nothing for an unmarked letter goes on from the first marked one; and the marks a good tick leaves. Assumes nothing.
use mathlib.Core.Path.{◌≡◌, refl, sym, ◌∙◌, ap, ap₂}
use mathlib.Core.Bool.{Bool, true, false, cond}
use mathlib.Core.List.{List, ◌++◌}
use Prim.Native.Nat.{ℕ, zero, suc, ◌+◌, ◌-◌, ◌<◌, ◌≤◌}
use native.Mathlib.Omega.{arith}
use borrow.Author.Tests.{eq-eqb, ne_eqb, eqb-true, eqb-false, ltb-true, ltb-false}
use lib.Dec.{eqb, ltb}
use lib.Bits.{bit_or, or_add_and, and_le_l, and_le_r}
use lib.ListN.{get_or, length, take, drop, replicate, length-take, length-drop, length-replicate}
use lib.Seq.{sets-eq}
use Rattle.lexer.proofs.Bools.{taken, left}
use Rattle.monitor.specs.Ticks.{first_marked, if_marked, each_marked, marks_after}

-- ---- one or more at once

pub or-zero : (a b : ℕ) → bit_or a b ≡ 0 → (a ≡ 0) × (b ≡ 0)
or-zero a b e =
    let s = or_add_and a b in
    let l = and_le_l a b in
    let r = and_le_r a b in
    (omega (arith, e, s, r), omega (arith, e, s, l))

-- what one letter is, each of one letter is
pub one-alone : (K : List ℕ) (l : ℕ) → get_or K l 0 ≡ 0 → (j : ℕ) → j < 1 → get_or K (l + j) 0 ≡ 0
one-alone K l z j h = let e : l + j ≡ l = omega (arith, h) in ap (λ (i : ℕ). get_or K i 0) e ∙ z

-- ---- marked letters, one after the other

-- for a letters, and then for b more
pub each-split : (K : List ℕ) (f : ℕ → List ℕ → List ℕ) (a b l : ℕ) (σ : List ℕ) → each_marked K f (a + b) l σ ≡ each_marked K f b (l + a) (each_marked K f a l σ)
unfolding each_marked
each-split K f zero b l σ =
    let e : l ≡ l + 0 = omega arith in
    let d : 0 + b ≡ b = omega arith in
    ap₂ (λ (n k : ℕ). each_marked K f n k σ) d e
each-split K f (suc a) b l σ =
    let e : suc l + a ≡ l + suc a = omega arith in
    let d : suc a + b ≡ suc (a + b) = omega arith in
    ap (λ (n : ℕ). each_marked K f n l σ) d ∙ each-split K f a b (suc l) (if_marked K f l σ) ∙ ap (λ (n : ℕ). each_marked K f b n (each_marked K f a (suc l) (if_marked K f l σ))) e

-- ---- from the first marked letter on

module _ (K : List ℕ) where
  -- a letter before the first that is marked is not
  pub before-first : (n l i : ℕ) → l ≤ i → i < first_marked K n l → get_or K i 0 ≡ 0
  unfolding first_marked
  before-first zero l i x y = absurd (omega (arith, x, y))
  before-first (suc n) l i x y = by (eqb (get_or K l 0) 0) refl (eqb i l) refl y (λ z w. before-first n (suc l) i z w)
    where
      by : (b : Bool) → eqb (get_or K l 0) 0 ≡ b → (c : Bool) → eqb i l ≡ c → i < cond b (first_marked K n (suc l)) l → (suc l ≤ i → i < first_marked K n (suc l) → get_or K i 0 ≡ 0) → get_or K i 0 ≡ 0
      by true e true q w more = ap (λ (z : ℕ). get_or K z 0) (eqb-true i l q) ∙ eqb-true (get_or K l 0) 0 e
      by true e false q w more = more (let s = eqb-false i l q in omega (arith, x, s)) w
      by false e c q w more = absurd (omega (arith, x, w))

  pub first-low : (n l : ℕ) → first_marked K n l ≤ l + n
  unfolding first_marked
  first-low zero l = omega arith
  first-low (suc n) l = by (eqb (get_or K l 0) 0) (first-low n (suc l))
    where
      by : (b : Bool) → first_marked K n (suc l) ≤ suc l + n → cond b (first_marked K n (suc l)) l ≤ l + suc n
      by true h = omega (arith, h)
      by false h = omega arith

  pub first_above : (n l : ℕ) → l ≤ first_marked K n l
  unfolding first_marked
  first_above zero l = omega arith
  first_above (suc n) l = by (eqb (get_or K l 0) 0) (first_above n (suc l))
    where
      by : (b : Bool) → suc l ≤ first_marked K n (suc l) → l ≤ cond b (first_marked K n (suc l)) l
      by true h = omega (arith, h)
      by false h = omega arith

  pub first-here : (to i : ℕ) → i < to → (get_or K i 0 ≡ 0 → ⊥) → i ≡ first_marked K (to - i) i
  unfolding first_marked
  first-here to i h z =
      let d : to - i ≡ suc (to - suc i) = omega arith in
      sym (ap (λ (n : ℕ). first_marked K n i) d ∙ left (eqb (get_or K i 0) 0) _ i (ne_eqb (get_or K i 0) 0 z))

  -- the first is marked, where there is one
  first-is : (n l : ℕ) → first_marked K n l < l + n → get_or K (first_marked K n l) 0 ≡ 0 → ⊥
  unfolding first_marked
  first-is zero l h z = omega (arith, h)
  first-is (suc n) l h z = by (eqb (get_or K l 0) 0) refl h z (first-is n (suc l))
    where
      by : (b : Bool) → eqb (get_or K l 0) 0 ≡ b → cond b (first_marked K n (suc l)) l < l + suc n → get_or K (cond b (first_marked K n (suc l)) l) 0 ≡ 0
          → (first_marked K n (suc l) < suc l + n → get_or K (first_marked K n (suc l)) 0 ≡ 0 → ⊥) → ⊥
      by true e x y more = more (omega (arith, x)) y
      by false e x y more = eqb-false (get_or K l 0) 0 e y

  pub at_first : (to i j : ℕ) → j ≡ first_marked K (to - i) i → j < to → get_or K j 0 ≡ 0 → ⊥
  at_first to i j e h z =
      let l = first_above (to - i) i in
      first-is (to - i) i (omega (arith, e, h, l)) (ap (λ (k : ℕ). get_or K k 0) (sym e) ∙ z)

  pub first-none : (to i : ℕ) → to ≤ i → i ≡ first_marked K (to - i) i
  unfolding first_marked
  first-none to i h = let d : to - i ≡ 0 = omega arith in sym (ap (λ (n : ℕ). first_marked K n i) d)

  -- F n l goes over n letters from l on
  module _ {A : Type 0} (F : (n l : ℕ) → A) (idle : (n l : ℕ) → get_or K l 0 ≡ 0 → F (suc n) l ≡ F n (suc l)) where
    pub past-some : (k to i : ℕ) → i + k ≤ to → ((j : ℕ) → j < k → get_or K (i + j) 0 ≡ 0) → F (to - i) i ≡ F (to - (i + k)) (i + k)
    past-some zero to i h z = let e : i ≡ i + 0 = omega arith in ap (λ (j : ℕ). F (to - j) j) e
    past-some (suc k) to i h z =
        let d : to - i ≡ suc (to - suc i) = omega arith in
        let e : i ≡ i + 0 = omega arith in
        let s : suc i + k ≡ i + suc k = omega arith in
        ap (λ (n : ℕ). F n i) d ∙ idle (to - suc i) i (ap (λ (j : ℕ). get_or K j 0) e ∙ z 0 (omega arith))
        ∙ past-some k to (suc i) (omega arith) (λ j l. let q : suc i + j ≡ i + suc j = omega arith in ap (λ (m : ℕ). get_or K m 0) q ∙ z (suc j) (omega arith))
        ∙ ap (λ (j : ℕ). F (to - j) j) s

    -- to the first marked letter
    past-unmarked : (n l : ℕ) → F n l ≡ F (l + n - first_marked K n l) (first_marked K n l)
    unfolding first_marked
    past-unmarked zero l = let e : 0 ≡ l + 0 - l = omega arith in ap (λ (m : ℕ). F m l) e
    past-unmarked (suc n) l = by (eqb (get_or K l 0) 0) refl (past-unmarked n (suc l))
      where
        by : (b : Bool) → eqb (get_or K l 0) 0 ≡ b → F n (suc l) ≡ F (suc l + n - first_marked K n (suc l)) (first_marked K n (suc l))
            → F (suc n) l ≡ F (l + suc n - cond b (first_marked K n (suc l)) l) (cond b (first_marked K n (suc l)) l)
        by true e more =
            let d : suc l + n ≡ l + suc n = omega arith in
            idle n l (eqb-true (get_or K l 0) 0 e) ∙ more ∙ ap (λ (m : ℕ). F (m - first_marked K n (suc l)) (first_marked K n (suc l))) d
        by false e more = let d : suc n ≡ l + suc n - l = omega arith in ap (λ (m : ℕ). F m l) d

    pub to-first : (to i j : ℕ) → j ≡ first_marked K (to - i) i → F (to - i) i ≡ F (to - j) j
    to-first to i j e =
        let h = first_above (to - i) i in
        let d : i + (to - i) - first_marked K (to - i) i ≡ to - j = omega (arith, e, h) in
        past-unmarked (to - i) i ∙ ap₂ F d (sym e)

  pub first_past : (k to i : ℕ) → i + k ≤ to → ((j : ℕ) → j < k → get_or K (i + j) 0 ≡ 0) → first_marked K (to - i) i ≡ first_marked K (to - (i + k)) (i + k)
  unfolding first_marked
  first_past = past-some (first_marked K) (λ n l z. taken (eqb (get_or K l 0) 0) (first_marked K n (suc l)) l (eq-eqb (get_or K l 0) 0 z))

-- from the first number on: none before it is marked, and it is, where there is one
pub first-of : (K : List ℕ) (to r : ℕ) → r ≤ to → ((j : ℕ) → j < r → get_or K j 0 ≡ 0) → (r < to → get_or K r 0 ≡ 0 → ⊥) → r ≡ first_marked K to 0
first-of K to r h before here = by (ltb r to) refl ∙ sym (first_past K r to 0 (omega (arith, h)) (λ j l. let e : 0 + j ≡ j = omega arith in ap (λ (i : ℕ). get_or K i 0) e ∙ before j l)) ∙ ap (λ (n : ℕ). first_marked K n 0) all
  where
    all : to - 0 ≡ to
    all = omega arith

    at : 0 + r ≡ r
    at = omega arith

    by : (b : Bool) → ltb r to ≡ b → r ≡ first_marked K (to - (0 + r)) (0 + r)
    by true e = let l = ltb-true r to e in first-here K to r l (here l) ∙ ap (λ (i : ℕ). first_marked K (to - i) i) (sym at)
    by false e = first-none K to r (ltb-false r to e) ∙ ap (λ (i : ℕ). first_marked K (to - i) i) (sym at)

-- ---- the new marks

-- those of the memory, and behind them no monitor at its start
pub marks-put : (M N : List ℕ) → length M ≡ 1280 → N ≡ take 256 (drop 1024 M) → N ++ drop 256 (replicate 288 0) ≡ marks_after 256 M
marks-put M N e p =
    let long : length (take 256 (drop 1024 M)) ≡ 256 = omega (arith, length-take 256 (drop 1024 M), length-drop 1024 M, e) in
    let room : 0 + length (take 256 (drop 1024 M)) ≤ length (replicate {A = ℕ} 288 0) = omega (arith, long, length-replicate {A = ℕ} 288 0) in
    let end : 256 ≡ 0 + length (take 256 (drop 1024 M)) = omega (arith, long) in
    ap₂ (λ (xs : List ℕ) (n : ℕ). xs ++ drop n (replicate 288 0)) p end ∙ sym (sets-eq (take 256 (drop 1024 M)) (replicate 288 0) 0 room)

-- Behind the last letter that writes nothing is written, so that far is far enough; and the word of a watch's tables that has that number and those for threads. Assumes nothing.
use mathlib.Core.Path.{◌≡◌, refl, sym, ◌∙◌, ap}
use mathlib.Core.Bool.{Bool, true, false, cond, ◌&&◌}
use mathlib.Core.List.{List}
use Prim.Native.Nat.{ℕ, zero, suc, ◌+◌, ◌-◌, ◌*◌, ◌<◌, ◌≤◌}
use native.Mathlib.Omega.{arith}
use borrow.Author.Tests.{eq-eqb, ne_eqb, eqb-true, eqb-false, ltb-true, ltb-false}
use lib.Dec.{eqb, ltb}
use lib.ListN.{get_or, length, replicate, length-replicate}
use lib.Seq.{sets, get_or-set_same, length-sets}
use Rattle.lexer.proofs.Bools.{taken, left, and_left, and_right, neither, both}
use Rattle.words.specs.Words.{quad, part1}
use Rattle.words.proofs.Quads.{quad-1}
use Rattle.rules.specs.declared.Watch.{Watch}
use Rattle.monitor.specs.Letters.{Given, write_letter}
use Rattle.monitor.specs.Ticks.{each_marked, write_if, write_marked, writers}
use Rattle.monitor.specs.Threads.{threads_of}
use Rattle.monitor.specs.Calls.{up_to, writers_of, threaded_of, unthreaded_of, given_of}
use Rattle.monitor.proofs.LetterSteps.{no_write}
use Rattle.monitor.proofs.Marked.{each-split}

-- ---- the last letter that is not idle

module _ (p : ℕ → Bool) where
  -- a turn of a loop, from the last letter down
  module _ (n l : ℕ) (h : 0 < n) (e : l ≡ n - 1) where
    one_more_lem : n ≡ suc l
    one_more_lem = omega (arith, h, e)

    pub last-busy : p l ≡ false → l + 1 ≡ up_to p n
    unfolding up_to
    last-busy f = let d : l + 1 ≡ suc l = omega arith in d ∙ sym (ap (up_to p) one_more_lem ∙ left (p l) (up_to p l) (suc l) f)

    pub last-idle : p l ≡ true → up_to p n ≡ up_to p l
    unfolding up_to
    last-idle f = ap (up_to p) one_more_lem ∙ taken (p l) (up_to p l) (suc l) f

  pub none-busy : (n : ℕ) → n ≡ 0 → up_to p n ≡ 0
  unfolding up_to
  none-busy n e = rw e

  -- the last number of which the letter before it is not idle
  pub up-to-is : (n r : ℕ) → r ≤ n → ((i : ℕ) → r ≤ i → i < n → p i ≡ true) → (0 < r → p (r - 1) ≡ false) → r ≡ up_to p n
  unfolding up_to
  up-to-is zero r h idle busy = omega (arith, h)
  up-to-is (suc n) r h idle busy = by (p n) refl (ltb n r) refl (λ l. up-to-is n r l (λ i g k. idle i g (omega (arith, k))) busy)
    where
      by : (b : Bool) → p n ≡ b → (c : Bool) → ltb n r ≡ c → (r ≤ n → r ≡ up_to p n) → r ≡ cond b (up_to p n) (suc n)
      by true e true l less =
          let m = ltb-true n r l in
          let d : r - 1 ≡ n = omega (arith, h, m) in
          let f : true ≡ false = sym e ∙ sym (ap p d) ∙ busy (omega (arith, m)) in cc
      by true e false l less = less (ltb-false n r l)
      by false e true l less = let m = ltb-true n r l in omega (arith, h, m)
      by false e false l less = let f : true ≡ false = sym (idle n (ltb-false n r l) (omega arith)) ∙ e in cc

  pub up-to-below : (n : ℕ) → up_to p n ≤ n
  unfolding up_to
  up-to-below zero = omega arith
  up-to-below (suc n) = by (p n) (up-to-below n)
    where
      by : (b : Bool) → up_to p n ≤ n → cond b (up_to p n) (suc n) ≤ suc n
      by true h = omega (arith, h)
      by false h = omega arith

  -- each letter behind it is idle
  pub beyond : (n l : ℕ) → up_to p n ≤ l → l < n → p l ≡ true
  unfolding up_to
  beyond zero l h k = absurd (omega (arith, k))
  beyond (suc n) l h k = by (p n) refl h (eqb l n) refl (beyond n l)
    where
      by : (a : Bool) → p n ≡ a → cond a (up_to p n) (suc n) ≤ l → (d : Bool) → eqb l n ≡ d → (up_to p n ≤ l → l < n → p l ≡ true) → p l ≡ true
      by true e g true q more = ap p (eqb-true l n q) ∙ e
      by true e g false q more = more g (let s = eqb-false l n q in omega (arith, s, k))
      by false e g d q more = absurd (omega (arith, g, k))

-- ---- the last letter that writes

module _ (c : List ℕ) where
  -- neither slot of the letter has a write
  abbrev unwriting : ℕ → Bool
  unwriting l = eqb (get_or c (4 * l + 2) 0) 0 && eqb (get_or c (4 * l + 3) 0) 0

  module _ (n l : ℕ) (h : 0 < n) (e : l ≡ n - 1) where
    pub first-writes : (get_or c (4 * l + 2) 0 ≡ 0 → ⊥) → l + 1 ≡ writers_of c n
    first-writes f = last-busy unwriting n l h e (sym (neither _ _ (ne_eqb (get_or c (4 * l + 2) 0) 0 f)))

    module _ (z : get_or c (4 * l + 2) 0 ≡ 0) where
      second : unwriting l ≡ eqb (get_or c (4 * l + 3) 0) 0
      second = sym (both _ _ (eq-eqb (get_or c (4 * l + 2) 0) 0 z))

      pub second-writes : (get_or c (4 * l + 3) 0 ≡ 0 → ⊥) → l + 1 ≡ writers_of c n
      second-writes f = last-busy unwriting n l h e (second ∙ ne_eqb (get_or c (4 * l + 3) 0) 0 f)

      pub none-writes : get_or c (4 * l + 3) 0 ≡ 0 → writers_of c n ≡ writers_of c l
      none-writes f = last-idle unwriting n l h e (second ∙ eq-eqb (get_or c (4 * l + 3) 0) 0 f)

  pub no-writers : (n : ℕ) → n ≡ 0 → writers_of c n ≡ 0
  no-writers = none-busy unwriting

  unwritten-beyond : (n l : ℕ) → writers_of c n ≤ l → l < n → (get_or c (4 * l + 2) 0 ≡ 0) × (get_or c (4 * l + 3) 0 ≡ 0)
  unwritten-beyond n l h k =
      let e = beyond unwriting n l h k in
      (eqb-true (get_or c (4 * l + 2) 0) 0 (and_left _ _ e), eqb-true (get_or c (4 * l + 3) 0) 0 (and_right (eqb (get_or c (4 * l + 2) 0) 0) _ e))

-- ---- the letters behind it write nothing

module _ (g : Given) (K : List ℕ) where
  unwritten : (l : ℕ) → get_or g.links (4 * l + 2) 0 ≡ 0 → get_or g.links (4 * l + 3) 0 ≡ 0 → (σ : List ℕ) → write_if g K l σ ≡ σ
  unfolding write_letter
  unwritten l a b σ = by (eqb (get_or K l 0) 0)
    where
      by : (d : Bool) → cond d σ (write_letter g l σ) ≡ σ
      by true = refl
      by false = sym (no_write g (4 * l + 2) a σ ∙ no_write g (4 * l + 3) b _)

  none_written : (k l : ℕ) → ((i : ℕ) → i < k → (get_or g.links (4 * (l + i) + 2) 0 ≡ 0) × (get_or g.links (4 * (l + i) + 3) 0 ≡ 0)) → (σ : List ℕ) → write_marked g K k l σ ≡ σ
  unfolding each_marked
  none_written zero l z σ = refl
  none_written (suc k) l z σ =
      let e : l + 0 ≡ l = omega arith in
      let p = z 0 (omega arith) in
      ap (write_marked g K k (suc l)) (unwritten l (ap (λ (m : ℕ). get_or g.links (4 * m + 2) 0) (sym e) ∙ p.0) (ap (λ (m : ℕ). get_or g.links (4 * m + 3) 0) (sym e) ∙ p.1) σ)
      ∙ none_written k (suc l)
      (λ i h. let q : suc l + i ≡ l + suc i = omega arith in let p = z (suc i) (omega arith) in
      (ap (λ (m : ℕ). get_or g.links (4 * m + 2) 0) q ∙ p.0, ap (λ (m : ℕ). get_or g.links (4 * m + 3) 0) q ∙ p.1)) σ

  -- so far is far enough
  enough : (m n : ℕ) → m ≤ n → ((l : ℕ) → m ≤ l → l < n → (get_or g.links (4 * l + 2) 0 ≡ 0) × (get_or g.links (4 * l + 3) 0 ≡ 0)) → (σ : List ℕ)
      → write_marked g K m 0 σ ≡ write_marked g K n 0 σ
  enough m n h z σ =
      let e : n ≡ m + (n - m) = omega arith in
      let o : 0 + m ≡ m = omega arith in
      sym
      (ap (λ (k : ℕ). write_marked g K k 0 σ) e ∙ each-split K (write_letter g) m (n - m) 0 σ
      ∙ none_written (n - m) (0 + m) (λ i l. z (0 + m + i) (omega arith) (omega (arith, l))) (write_marked g K m 0 σ))

-- ---- in a watch's tables

module _ (v : Watch) where
  -- the threads of its letters, and what stands before them
  abbrev pub threads_in : List ℕ
  threads_in = threads_of v.table v.rows

  abbrev pub before_threads : List ℕ
  before_threads = sets (sets (sets (replicate 1024 0) 0 v.look) 256 v.want) 512 v.held

  pub before-long : length before_threads ≡ 1024
  before-long =
      length-sets (sets (sets (replicate 1024 0) 0 v.look) 256 v.want) 512 v.held ∙ length-sets (sets (replicate 1024 0) 0 v.look) 256 v.want
      ∙ length-sets (replicate 1024 0) 0 v.look ∙ length-replicate {A = ℕ} 1024 0

module _ (v : Watch) (σ w : List ℕ) where
  -- the word with the counts
  pub counts-are : get_or (given_of v σ w).letters 768 0 ≡ quad (get_or (threads_in v) 0 0) (writers_of v.links 256) (threaded_of (threads_in v) 256) (unthreaded_of (threads_in v) 256)
  counts-are = get_or-set_same (sets (before_threads v) 768 (threads_in v)) 768 _ 0 (omega (arith, length-sets (before_threads v) 768 (threads_in v), before-long v))

  writers-are : part1 (get_or (given_of v σ w).letters 768 0) ≡ writers_of v.links 256
  writers-are = ap part1 counts-are ∙ quad-1 (get_or (threads_in v) 0 0) (writers_of v.links 256) (threaded_of (threads_in v) 256) (unthreaded_of (threads_in v) 256) (let h = up-to-below (unwriting v.links) 256 in omega (arith, h))

  pub writers-enough : (n : ℕ) → n ≤ 256 → (K ρ : List ℕ) → write_marked (given_of v σ w) K (writers (given_of v σ w) n) 0 ρ ≡ write_marked (given_of v σ w) K n 0 ρ
  writers-enough n few K ρ =
      let e = writers-are in
      enough (given_of v σ w) K (writers (given_of v σ w) n) n (omega arith) (λ l h k. unwritten-beyond v.links 256 l (omega (arith, e, h, k)) (omega (arith, k, few))) ρ

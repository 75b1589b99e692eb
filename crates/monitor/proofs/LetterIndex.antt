-- Each letter's numbers stand in a watch's lists at the letter's own number. Assumes nothing.
use mathlib.Core.Path.{◌≡◌, refl, sym, ap, ap₂, ◌∙◌, subst}
use mathlib.Core.Logic.{⊎_elim}
use mathlib.Core.List.{List, [], ◌∷◌, ◌++◌, map}
use mathlib.Core.Option.{Option}
use Prim.Native.Nat.{ℕ, suc, ◌+◌, ◌*◌, ◌<◌, ◌≤◌}
use native.Mathlib.Omega.{arith}
use lib.ListN.{length, length-append, length-map, length-replicate, get_or, replicate}
use lib.Seq.{sets, length-sets, get_or-set_other}
use Rattle.meaning.specs.Lists.{◌∈◌, each, total}
use Rattle.meaning.specs.Expression.{Letter, Exp, letter, seq, alt, star, pipe, letters, size, Ordered}
use Rattle.masks.specs.Masks as masks
use Rattle.meaning.proofs.ListLaws.{no-∈, cons-∈, ∈-each}
use Rattle.meaning.proofs.Rows.{Stands}
use Rattle.rules.specs.Cells.{Link, tests_on, writes_on}
use Rattle.rules.specs.Laying.{slot_word, slot_number, two_slots, slots_of}
use Rattle.rules.specs.Monitors.{with_monitors}
use Rattle.rules.specs.Watches.{no_lists, watch_by}
use Rattle.rules.specs.declared.Watch.{Watch}
use Rattle.rules.proofs.Overlay.{two-long}
use Rattle.rules.proofs.Placing.{letters-long}
use Rattle.monitor.specs.Threads.{threads_of}
use Rattle.monitor.specs.Calls.{letters_of, letters_by, writers_of, threaded_of, unthreaded_of}
use Rattle.monitor.proofs.Stored.{stands_at, front, rear, before, stored-from, stored, stored_at}
use Rattle.monitor.proofs.Numbered.{InOrder, numbers-below}

-- letters numbered from k on
abbrev Consecutive : ℕ → List Letter → Type 0
Consecutive k [] = Unit {0}
Consecutive k (x ∷ xs) = (x.number ≡ k) × Consecutive (suc k) xs

consecutive-append : (k n : ℕ) (xs ys : List Letter) → n ≡ k + length xs → Consecutive k xs → Consecutive n ys → Consecutive k (xs ++ ys)
consecutive-append k n [] ys e p q = let z : n ≡ k = omega arith in subst (λ (i : ℕ). Consecutive i ys) z q
consecutive-append k n (x ∷ xs) ys e p q = (p.0, consecutive-append (suc k) n xs ys (omega arith) p.1 q)

two-consecutive : (k : ℕ) (e f : Exp) → Consecutive k (letters e) → Consecutive (k + size e) (letters f) → Consecutive k (letters e ++ letters f)
two-consecutive k e f = consecutive-append k (k + size e) (letters e) (letters f) (omega (arith, letters-long e))

letters-consecutive : (k : ℕ) (e : Exp) → Ordered k e → Consecutive k (letters e)
unfolding letters
letters-consecutive k (letter x) o = (o, tt)
letters-consecutive k (seq e f) o = two-consecutive k e f (letters-consecutive k e o.0) (letters-consecutive (k + size e) f o.1)
letters-consecutive k (alt e f) o = two-consecutive k e f (letters-consecutive k e o.0) (letters-consecutive (k + size e) f o.1)
letters-consecutive k (star e) o = letters-consecutive k e o
letters-consecutive k (pipe e f) o = two-consecutive k e f (letters-consecutive k e o.0) (letters-consecutive (k + size e) f o.1)

all-consecutive : (k : ℕ) (ms : List Exp) → InOrder k ms → Consecutive k (each ms letters)
all-consecutive k [] o = tt
all-consecutive k (m ∷ ms) o =
    consecutive-append k (k + size m) (letters m) (each ms letters) (omega (arith, letters-long m)) (letters-consecutive k m o.0)
    (all-consecutive (k + size m) ms o.1)

all-letters-long : (ms : List Exp) → length (each ms letters) ≡ total size ms
all-letters-long [] = refl
all-letters-long (m ∷ ms) = length-append (letters m) (each ms letters) ∙ ap₂ ◌+◌ (letters-long m) (all-letters-long ms)

-- one number a letter
at-number : (f : ℕ → ℕ) (h : Letter → ℕ) (k : ℕ) (xs : List Letter) → Consecutive k xs → Stands f k (map h xs) → (x : Letter) → x ∈ xs → f x.number ≡ h x
at-number f h k [] c s x i = absurd (no-∈ i)
at-number f h k (y ∷ ys) c s x i = ⊎_elim
    (λ (p : x ≡ y). subst (λ (z : Letter). f z.number ≡ h z) (sym p) (ap f c.0 ∙ s.0))
    (λ (j : x ∈ ys). at-number f h (suc k) ys c.1 s.1 x j) (cons-∈ i)

-- four numbers a letter
module _ (h : Letter → List ℕ) (four : (x : Letter) → length (h x) ≡ 4) where
  at_slots : (f : ℕ → ℕ) (k i : ℕ) (xs : List Letter) → i ≡ 4 * k → Consecutive k xs → Stands f i (each xs h) → (x : Letter) → x ∈ xs → (j : ℕ) → j < 4
      → f (4 * x.number + j) ≡ get_or (h x) j 0
  at_slots f k i [] e c s x m j l = absurd (no-∈ m)
  at_slots f k i (y ∷ ys) e c s x m j l = ⊎_elim
      (λ (p : x ≡ y). subst (λ (z : Letter). f (4 * z.number + j) ≡ get_or (h z) j 0) (sym p)
      (let q : 4 * y.number + j ≡ i + j = omega (arith, c.0) in
      ap f q ∙ stands_at f 0 i (h y) j (omega (arith, four y)) (front f i (h y) (each ys h) s)))
      (λ (r : x ∈ ys). at_slots f (suc k) (i + 4) ys (omega arith) c.1 (rear f i (i + 4) (h y) (each ys h) (omega (arith, four y)) s) x r j l)
      (cons-∈ m)

  slots-long : (xs : List Letter) → length (each xs h) ≡ 4 * length xs
  slots-long [] = refl
  slots-long (x ∷ xs) = omega (arith, length-append (h x) (each xs h), four x, slots-long xs)

four-slots : (f : Option Link → ℕ) (x : Letter) → length (map f (slots_of x)) ≡ 4
four-slots f x =
    omega (arith, length-map (slots_of x) f, length-append (two_slots (tests_on [] x.literals)) (two_slots (writes_on [] x.writes)), two-long (tests_on [] x.literals), two-long (writes_on [] x.writes))

-- what a letter looks at, what it wants and what it holds, in one list
module _ (ls ws hs ts : List ℕ) (n m k i : ℕ) (h : i < 256) where
  abbrev each-one : List ℕ → List ℕ
  each-one xs = sets (replicate 256 0) 0 xs

  long : (xs : List ℕ) → length (each-one xs) ≡ 256
  long xs = length-sets (replicate 256 0) 0 xs ∙ length-replicate {A = ℕ} 256 0

  -- the list with the first, and with the first two
  abbrev one : List ℕ
  one = sets (replicate 1024 0) 0 (each-one ls)

  abbrev two : List ℕ
  two = sets one 256 (each-one ws)

  abbrev three : List ℕ
  three = sets two 512 (each-one hs)

  abbrev four : List ℕ
  four = sets three 768 ts

  -- below the threads
  lower : (j : ℕ) → j < 768 → get_or (letters_of (each-one ls) (each-one ws) (each-one hs) ts n m k) j 0 ≡ get_or three j 0
  lower j l = get_or-set_other four 768 j _ 0 (λ e. omega (arith, e, l)) ∙ before three 768 j ts l

  one-long : length one ≡ 1024
  one-long = length-sets (replicate 1024 0) 0 (each-one ls) ∙ length-replicate {A = ℕ} 1024 0

  two-longer : length two ≡ 1024
  two-longer = length-sets one 256 (each-one ws) ∙ one-long

  -- what stands from a place on
  part : (L : List ℕ) (at : ℕ) (xs : List ℕ) → at + 256 ≤ length L → get_or (sets L at (each-one xs)) (at + i) 0 ≡ get_or (each-one xs) i 0
  part L at xs l =
      stands_at (λ j. get_or (sets L at (each-one xs)) j 0) 0 at (each-one xs) i (omega (arith, long xs)) (stored-from L at (each-one xs) (omega (arith, long xs)))

  looked-at : get_or (letters_of (each-one ls) (each-one ws) (each-one hs) ts n m k) i 0 ≡ get_or (each-one ls) i 0
  looked-at =
      lower i (omega (arith, h)) ∙ before two 512 i (each-one hs) (omega (arith, h)) ∙ before one 256 i (each-one ws) h
      ∙ stored_at 1024 (each-one ls) i (omega (arith, long ls)) (omega (arith, long ls))

  wanted : get_or (letters_of (each-one ls) (each-one ws) (each-one hs) ts n m k) (256 + i) 0 ≡ get_or (each-one ws) i 0
  wanted =
      lower (256 + i) (omega (arith, h)) ∙ before two 512 (256 + i) (each-one hs) (omega (arith, h))
      ∙ part one 256 ws (omega (arith, one-long))

  held_at : get_or (letters_of (each-one ls) (each-one ws) (each-one hs) ts n m k) (512 + i) 0 ≡ get_or (each-one hs) i 0
  held_at = lower (512 + i) (omega (arith, h)) ∙ part two 512 hs (omega (arith, two-longer))

-- a letter's numbers stand at its own number
pub record LetterStands (v : Watch) (x : Letter) : Type 0 where
  pub below : x.number < 256
  pub look : get_or (letters_by v (threads_of v.table v.rows)) x.number 0 ≡ masks.look x.literals
  pub want : get_or (letters_by v (threads_of v.table v.rows)) (256 + x.number) 0 ≡ masks.want x.literals
  pub held : get_or (letters_by v (threads_of v.table v.rows)) (512 + x.number) 0 ≡ masks.held x.literals
  pub links : (j : ℕ) → j < 4 → get_or v.links (4 * x.number + j) 0 ≡ get_or (map slot_word (slots_of x)) j 0
  pub numbers : (j : ℕ) → j < 4 → get_or v.numbers (4 * x.number + j) 0 ≡ get_or (map slot_number (slots_of x)) j 0

module _ (xs : List Letter) (order : Consecutive 0 xs) (few : length xs ≤ 256) (x : Letter) (inside : x ∈ xs) where
  single : (h : Letter → ℕ) → get_or (sets (replicate 256 0) 0 (map h xs)) x.number 0 ≡ h x
  single h = at-number (λ n. get_or (sets (replicate 256 0) 0 (map h xs)) n 0) h 0 xs order (stored 256 (map h xs) (omega (arith, length-map xs h))) x inside

  slots : (f : Option Link → ℕ) (j : ℕ) → j < 4
      → get_or (sets (replicate 1024 0) 0 (each xs (λ y. map f (slots_of y)))) (4 * x.number + j) 0 ≡ get_or (map f (slots_of x)) j 0
  slots f =
      at_slots (λ y. map f (slots_of y)) (four-slots f) (λ n. get_or (sets (replicate 1024 0) 0 (each xs (λ y. map f (slots_of y)))) n 0) 0 0 xs refl order
      (stored 1024 (each xs (λ y. map f (slots_of y))) (omega (arith, slots-long (λ y. map f (slots_of y)) (four-slots f) xs))) x inside

pub all-letters : (gs : List Exp) → InOrder 0 gs → total size gs ≤ 256 → (r l m w : ℕ) (vs C W : List ℕ) (e : Exp) → e ∈ gs → (x : Letter) → x ∈ letters e
    → LetterStands (watch_by (with_monitors no_lists 0 0 0 gs) r l m w vs C W) x
all-letters gs o few r l m w vs C W e i x j =
    let c = all-consecutive 0 gs o in
    let n : length (each gs letters) ≤ 256 = omega (arith, all-letters-long gs) in
    let k : x ∈ each gs letters = ∈-each letters i j in
    let v = watch_by (with_monitors no_lists 0 0 0 gs) r l m w vs C W in
    let t = threads_of v.table v.rows in
    let low : x.number < 256 = omega (arith, numbers-below 0 gs o e i x j) in
    let looks = map (λ (y : Letter). masks.look y.literals) (each gs letters) in
    let wants = map (λ (y : Letter). masks.want y.literals) (each gs letters) in
    let helds = map (λ (y : Letter). masks.held y.literals) (each gs letters) in
    record {
      below = low;
      look = looked-at looks wants helds t (writers_of v.links 256) (threaded_of t 256) (unthreaded_of t 256) x.number low ∙ single (each gs letters) c n x k (λ y. masks.look y.literals);
      want = wanted looks wants helds t (writers_of v.links 256) (threaded_of t 256) (unthreaded_of t 256) x.number low ∙ single (each gs letters) c n x k (λ y. masks.want y.literals);
      held = held_at looks wants helds t (writers_of v.links 256) (threaded_of t 256) (unthreaded_of t 256) x.number low ∙ single (each gs letters) c n x k (λ y. masks.held y.literals);
      links = slots (each gs letters) c n x k slot_word;
      numbers = slots (each gs letters) c n x k slot_number;
    }

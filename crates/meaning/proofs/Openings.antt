-- What opening gives: an accepted text's monitors are numbered in reading order, keep all shape rules and are few enough, and so are its limits; its rules 9 and 12 are those of
-- words. Assumes nothing.
use mathlib.Core.Path.{◌≡◌, refl, sym, ap, ◌∙◌, subst}
use mathlib.Core.Logic.{◌↔◌, ⊎_elim}
use mathlib.Core.Bool.{Bool, true, false, cond}
use mathlib.Core.List.{List, [], ◌∷◌, ◌++◌, map}
use Prim.Native.Nat.{ℕ, suc, ◌+◌, ◌/◌, ◌%◌, ◌^◌, ◌≤◌, ◌<◌}
use native.Mathlib.Nat.{le_dest, mod-lt, lt_of_lt_of_le}
use native.Mathlib.Omega.{arith}
use lib.Dec.{T, ltb, eqb}
use lib.ListN.{length}
use lib.Pow.{pow_pos, pow_mono, field as slice, mod-mod-pow}
use borrow.Author.Tests.{ltb-true, ltb-false}
use Rattle.meaning.specs.Lists.{◌∈◌, all, total}
use Rattle.meaning.specs.Answers.{Answer, value, refused, letter_of}
use Rattle.refusals.specs.Numbers.{long_run}
use Rattle.meaning.specs.Expression.{Literal, wire, wire_store, wire_past, store, Letter, field, Exp, letter, seq, alt, star, pipe, letters, size, rows, renumbered, Ordered}
use Rattle.meaning.specs.Shape.{wire_holds, meets_wires, Unsatisfiable, Together, UnsatisfiableAt, AmbiguousAt}
use Rattle.meaning.specs.ShapeTests.{Sized, SizedLetters, AllRead, Shape, accepted, turned_away, shape, unsatisfiable, ambiguous}
use Rattle.meaning.specs.Reading.{read}
use Rattle.meaning.specs.Names.{Program}
use Rattle.meaning.specs.Opening
use Rattle.meaning.specs.Opening.{Opened, as_opened, too_long, misshapen, open_program, open_text}
use Rattle.meaning.specs.Table.{HoldsAll, laid_all, as_table}
use Rattle.meaning.proofs.ListLaws.{clash, cons-∈, no-∈, one-∈, map-∈, append-∈}
use Rattle.meaning.proofs.Numbering.{renumbered-size, renumbered-rows, renumbered-ordered}
use Rattle.meaning.proofs.Rows.{rows-no-more, program-held}
use Rattle.meaning.proofs.RowCount.{rows-below-1024, total-renumbered}
use Rattle.meaning.proofs.Monitor as one
use Rattle.meaning.proofs.Bounded.{Few, few_limits}
use Rattle.meaning.proofs.Accept.{accept}
use Rattle.meaning.proofs.Rules.{unsatisfiable-at, ambiguous-at}
use Rattle.meaning.proofs.Within.{Each, Within, LetterWithin, ExpWithin, read-within}

-- ---- accepted: nothing was wrong

-- what comes of counting letters, monitors counted from i, and n letters before them
pub data Counting (i n : ℕ) (ms : List Exp) (rest : Answer Opened) : Answer Opened → Type 0 where
  few : n + total size ms ≤ 256 → Counting i n ms rest rest
  many : (before after : List Exp) (m : Exp) → ms ≡ before ++ (m ∷ after) → n + total size before ≤ 256 → 256 < n + total size before + size m
      → Counting i n ms rest (refused long_run (letter_of (i + length before) 0))

pub counting : (i n : ℕ) (ms : List Exp) (rest : Answer Opened) → n ≤ 256 → Counting i n ms rest (too_long i n ms rest)
unfolding too_long
counting i n [] rest h = few (omega arith)
counting i n (m ∷ ms) rest h = by (ltb 256 (n + size m)) refl (λ g. counting (suc i) (n + size m) ms rest g)
  where
    later : (x : Answer Opened) → Counting (suc i) (n + size m) ms rest x → Counting i n (m ∷ ms) rest x
    later x (few g) = few (omega (arith, g))
    later x (many bs ds k e g l) =
        let q : i + length (m ∷ bs) ≡ suc i + length bs = omega arith in
        subst (λ (j : ℕ). Counting i n (m ∷ ms) rest (refused long_run (letter_of j 0))) q
        (many (m ∷ bs) ds k (ap (λ (xs : List Exp). m ∷ xs) e) (omega (arith, g)) (omega (arith, l)))

    by : (t : Bool) → ltb 256 (n + size m) ≡ t → (n + size m ≤ 256 → Counting (suc i) (n + size m) ms rest (too_long (suc i) (n + size m) ms rest))
        → Counting i n (m ∷ ms) rest (cond t (refused long_run (letter_of i 0)) (too_long (suc i) (n + size m) ms rest))
    by true e ih =
        let q : i + length {A = Exp} [] ≡ i = omega arith in
        subst (λ (j : ℕ). Counting i n (m ∷ ms) rest (refused long_run (letter_of j 0))) q
        (many [] ms m refl (omega (arith, h)) (omega (arith, ltb-true 256 (n + size m) e)))
    by false e ih = later _ (ih (ltb-false 256 (n + size m) e))

pub few_letters : (ms : List Exp) (r : Answer Opened) (o : Opened) → too_long 0 0 ms r ≡ value o → (total size ms ≤ 256) × (r ≡ value o)
few_letters ms r o e = by _ (counting 0 0 ms r (omega arith)) e
  where
    by : (x : Answer Opened) → Counting 0 0 ms r x → x ≡ value o → (total size ms ≤ 256) × (r ≡ value o)
    by x (few g) f = (omega (arith, g), f)
    by x (many before after m d h l) f = clash (cc)

well-shaped : (i : ℕ) (ms : List Exp) (r : Answer Opened) (o : Opened) → misshapen i ms r ≡ value o → ((m : Exp) → m ∈ ms → shape m ≡ accepted) × (r ≡ value o)
unfolding misshapen
well-shaped i [] r o e = ((λ m j. absurd (no-∈ j)), e)
well-shaped i (m ∷ ms) r o e = by (shape m) refl e (λ f. well-shaped (suc i) ms r o f)
  where
    by : (s : Shape) → shape m ≡ s → Opening.by_shape i s (misshapen (suc i) ms r) ≡ value o
        → (misshapen (suc i) ms r ≡ value o → ((x : Exp) → x ∈ ms → shape x ≡ accepted) × (r ≡ value o))
        → ((x : Exp) → x ∈ m ∷ ms → shape x ≡ accepted) × (r ≡ value o)
    by accepted q f ih =
        let k = ih f in
        ((λ x j. ⊎_elim (λ p. subst (λ y. shape y ≡ accepted) (sym p) q) (λ l. k.0 x l) (cons-∈ j)), k.1)
    by (turned_away rule l) q f ih = clash (cc)

-- an opened program: few letters, all rules kept, and it is what reading gave
pub record Accepted (text : List ℕ) (o : Opened) : Type 0 where
  pub program : Program
  pub reads : read text ≡ value program
  pub opens : as_opened program ≡ o
  pub few : total size program.monitors ≤ 256
  pub shaped : (m : Exp) → m ∈ o.monitors → shape m ≡ accepted

opened-program : (text : List ℕ) (p : Program) (o : Opened) → read text ≡ value p → open_program p ≡ value o → Accepted text o
unfolding open_program
opened-program text p o q e =
    let l = few_letters p.monitors (misshapen 0 (as_opened p).monitors (value (as_opened p))) o e in
    let s = well-shaped 0 (as_opened p).monitors (value (as_opened p)) o l.1 in
    let same : as_opened p ≡ o = cc s.1 in
    record {
      program = p;
      reads = q;
      opens = same;
      few = l.0;
      shaped = subst (λ z. (m : Exp) → m ∈ z.monitors → shape m ≡ accepted) same s.0;
    }

pub accepted-text : (text : List ℕ) (o : Opened) → open_text text ≡ value o → Accepted text o
unfolding open_text
accepted-text text o e = by (read text) refl e
  where
    by : (r : Answer Program) → read text ≡ r → Opening.and_open r ≡ value o → Accepted text o
    by (value p) q f = opened-program text p o q f
    by (refused number place) q f = clash (cc)

-- ---- the theorems

module _ (text : List ℕ) (o : Opened) (e : open_text text ≡ value o) where
  a : Accepted text o
  a = accepted-text text o e

  -- its monitors are those of the program, numbered
  numbered : o.monitors ≡ map (renumbered 0) a.program.monitors
  unfolding as_opened
  numbered = sym (ap (λ z. z.monitors) a.opens)

  -- its limits are those of the program, and few
  pub limits-few : Few o.limits
  unfolding as_opened
  limits-few = subst Few (ap (λ z. z.limits) a.opens) (few_limits text a.program a.reads)

  pub all_read : AllRead o.monitors
  all_read m i =
      let (d, j, p) = map-∈ (renumbered 0) a.program.monitors (subst (λ ms. m ∈ ms) numbered i) in
      (subst (Ordered 0) p (renumbered-ordered 0 d), a.shaped m i)

  pub all-accepted : (m : Exp) → m ∈ o.monitors → one.Accepted m
  all-accepted m i = let (d, s) = all_read m i in accept m d s

  row_count : total rows o.monitors ≡ o.row_count
  unfolding as_opened
  row_count =
      ap (total rows) numbered ∙ total-renumbered rows (renumbered-rows 0) a.program.monitors ∙ ap (λ z. z.row_count) a.opens

  -- Its rows, laid out, are as many as opening answers with, and as a table they hold its monitors.
  pub rows_right : (length (laid_all 0 o.monitors) ≡ o.row_count) × HoldsAll (as_table (laid_all 0 o.monitors)) 0 o.monitors
  rows_right = (rows-no-more 0 o.monitors ∙ row_count, program-held o.monitors (λ m i. (all_read m i).0))

  -- An accepted text has fewer than 1,024 rows.
  pub rows_fit : o.row_count < 1024
  rows_fit =
      let t : total size o.monitors ≡ total size a.program.monitors
      = ap (total size) numbered ∙ total-renumbered size (renumbered-size 0) a.program.monitors in
      omega (arith, row_count, rows-below-1024 o.monitors a.shaped (omega (arith, a.few)))

-- ---- rules 9 and 12 of a program that reading gives are those of words

pub each_in : {A : Type 0} (P : A → Type 0) (xs : List A) → Each P xs → (x : A) → x ∈ xs → P x
each_in P [] g x i = absurd (no-∈ i)
each_in P (y ∷ ys) (g, gs) x i = ⊎_elim (λ p. subst P (sym p) g) (λ j. each_in P ys gs x j) (cons-∈ i)

module _ (n k : ℕ) where
  renumbered-within : (i : ℕ) (e : Exp) → ExpWithin n k e → ExpWithin n k (renumbered i e)
  unfolding renumbered
  renumbered-within i (letter l) g = g
  renumbered-within i (seq e f) (g, h) = (renumbered-within i e g, renumbered-within (i + size e) f h)
  renumbered-within i (alt e f) (g, h) = (renumbered-within i e g, renumbered-within (i + size e) f h)
  renumbered-within i (star e) g = renumbered-within i e g
  renumbered-within i (pipe e f) (g, h) = (renumbered-within i e g, renumbered-within (i + size e) f h)

  letters_within : (e : Exp) → ExpWithin n k e → (l : Letter) → l ∈ letters e → LetterWithin n k l.literals l.writes
  unfolding letters
  letters_within (letter x) g l i = subst (λ y. LetterWithin n k y.literals y.writes) (sym (one-∈ i)) g
  letters_within (seq e f) (g, h) l i = ⊎_elim (λ j. letters_within e g l j) (λ j. letters_within f h l j) (append-∈ (letters e) i)
  letters_within (alt e f) (g, h) l i = ⊎_elim (λ j. letters_within e g l j) (λ j. letters_within f h l j) (append-∈ (letters e) i)
  letters_within (star e) g l i = letters_within e g l i
  letters_within (pipe e f) (g, h) l i = ⊎_elim (λ j. letters_within e g l j) (λ j. letters_within f h l j) (append-∈ (letters e) i)

  sized-if : n ≤ 64 → (x : Literal) → Within n k x → Sized x
  sized-if b (wire lo w v) (g, h) = (g, omega arith)
  sized-if b (wire_store lo w s) g = tt
  sized-if b (wire_past lo w) g = omega arith
  sized-if b (store s v) g = tt

  -- a word's wires are all that a literal within them sees
  field_cut : (lo width w : ℕ) → lo + width ≤ n → field lo width (w % 2 ^ n) ≡ field lo width w
  field_cut lo width w h =
      let (d, e) = le_dest h in
      let f : n ≡ (d + width) + lo = omega (arith, e) in
      rw f (ap (λ (x : ℕ). x % 2 ^ width) (slice w (d + width) lo) ∙ mod-mod-pow (w / 2 ^ lo) d width)

  cut : (w : ℕ) (x : Literal) → Within n k x → wire_holds (w % 2 ^ n) x ≡ wire_holds w x
  cut w (wire lo width v) (g, h) = ap (λ (z : ℕ). eqb z v) (field_cut lo width w h)
  cut w (wire_store lo width s) g = refl
  cut w (wire_past lo width) g = refl
  cut w (store s v) g = refl

  cut_all : (w : ℕ) (ls : List Literal) → Each (Within n k) ls → all (wire_holds (w % 2 ^ n)) ls ≡ all (wire_holds w) ls
  cut_all w [] g = refl
  cut_all w (x ∷ ls) (g, gs) = rw (cut w x g, cut_all w ls gs)

  module _ (bits : n ≤ 64) (x : Letter) (inside : Each (Within n k) x.literals) where
    meets-cut : (w : ℕ) → T (meets_wires x w) → T (meets_wires x (w % 2 ^ n))
    unfolding meets_wires
    meets-cut w t = subst T (sym (cut_all w x.literals inside)) t

    below : (w : ℕ) → w < 2 ^ n → w < 2 ^ 64
    below w h = lt_of_lt_of_le h (pow_mono {j = 64} bits)

    -- "no word": it is enough to ask the words that the watch takes
    pub no_word : Unsatisfiable x ↔ ((w : ℕ) → w < 2 ^ n → T (meets_wires x w) → ⊥)
    no_word = (λ u w h t. u w (below w h) t, λ u w h t. u (w % 2 ^ n) (mod-lt w (pow_pos n)) (meets-cut w t))

module _ (text : List ℕ) (p : Program) (e : read text ≡ value p) (m : Exp) (i : m ∈ map (renumbered 0) p.monitors) where
  n : ℕ
  n = p.wires

  k : ℕ
  k = length p.initial

  -- the program lies within its wires and stores
  pub letter-within : (l : Letter) → l ∈ letters m → LetterWithin p.wires (length p.initial) l.literals l.writes
  letter-within l j =
      let (d, r, q) = map-∈ (renumbered 0) p.monitors i in
      letters_within p.wires (length p.initial) m
      (subst (ExpWithin p.wires (length p.initial)) q (renumbered-within p.wires (length p.initial) 0 d (each_in (ExpWithin p.wires (length p.initial)) p.monitors (read-within text p e).monitors d r))) l j

  within : (l : Letter) → l ∈ letters m → Each (Within n k) l.literals
  unfolding n k
  within l j = (letter-within l j).literals

  pub letters-sized : SizedLetters m
  unfolding n k
  letters-sized l j x r = sized-if n k (read-within text p e).wires x (each_in (Within n k) l.literals (within l j) x r)

  -- a letter of a monitor is at fault for 9 exactly where no word of the text's wires meets its wire literals
  pub rule-9 : (a : ℕ) → a ∈ unsatisfiable m ↔ UnsatisfiableAt m a
  rule-9 a = unsatisfiable-at m letters-sized a

  pub rule-9-words : (l : Letter) → l ∈ letters m → Unsatisfiable l ↔ ((w : ℕ) → w < 2 ^ p.wires → T (meets_wires l w) → ⊥)
  unfolding n k
  rule-9-words l j = no_word n k (read-within text p e).wires l (within l j)

  -- and for 12 exactly where one word meets its wire literals and those of another letter side by side with it
  pub rule-12 : (a : ℕ) → a ∈ ambiguous m ↔ AmbiguousAt m a
  rule-12 a = ambiguous-at m letters-sized a

  pub rule-12-words : (x y : Letter) → x ∈ letters m → y ∈ letters m
      → Together x y ↔ ((w : ℕ) × (w < 2 ^ p.wires) × T (meets_wires x w) × T (meets_wires y w))
  unfolding n k
  rule-12-words x y a b =
      let bits = (read-within text p e).wires in (
        λ (w, h, s, t). (w % 2 ^ n, mod-lt w (pow_pos n), meets-cut n k bits x (within x a) w s, meets-cut n k bits y (within y b) w t),
        λ (w, h, s, t). (w, below n k bits x (within x a) w h, s, t),
      )

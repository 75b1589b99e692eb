-- In the tables of an accepted text's watch each letter has the row of the thread that it goes on in; in those of any watch no letter behind the last that is counted has
-- one, nor has one before the first. Assumes nothing.
use mathlib.Core.Path.{◌≡◌, refl, sym, ap, ap₂, ◌∙◌}
use mathlib.Core.Bool.{Bool, true, false, cond}
use mathlib.Core.List.{List, [], ◌∷◌, ◌++◌}
use Prim.Native.Nat.{ℕ, zero, suc, ◌+◌, ◌*◌, ◌/◌, ◌%◌, ◌<◌, ◌≤◌, min}
use native.Mathlib.Omega.{arith}
use native.Mathlib.Nat.{mod-eq_of_lt}
use borrow.Author.Tests.{eqb-true, eqb-false}
use lib.Dec.{eqb, ltb}
use lib.ListN.{length, length-append, get_or, set, length-set, replicate, length-replicate}
use lib.Seq.{sets, get_or-set_same, get_or-set_other}
use Rattle.meaning.specs.Lists.{total}
use Rattle.meaning.specs.Answers.{value}
use Rattle.meaning.specs.Expression.{Exp, letter, seq, alt, star, pipe, size, rows, Ordered}
use Rattle.meaning.specs.Opening.{Opened}
use Rattle.meaning.specs.Table.{Table, laid, laid_all, no_row}
use Rattle.meaning.proofs.Walk.{a-row}
use Rattle.meaning.proofs.Rows.{Stands, laid-length}
use Rattle.meaning.proofs.Within.{Each}
use Rattle.words.specs.Words.{quad, part0, part1, part2, part3}
use Rattle.words.proofs.Quads.{quad-2, quad-3}
use Rattle.rules.specs.Watches.{watch_of}
use Rattle.rules.specs.declared.Watch.{Watch}
use Rattle.rules.proofs.Overlay.{sets_behind}
use Rattle.monitor.specs.Letters.{thread_row_of, threaded, unthreaded}
use Rattle.monitor.specs.Threads.{thread_rows, thread_rows_all, going_on, operand_number, up_of, row_number, row_numbers, thread_of, threads_from}
use Rattle.monitor.specs.Calls.{writers_of, threaded_of, unthreaded_of, given_of}
use Rattle.monitor.proofs.Stored.{stands_at, stands_self, front, rear, each_append, each_at, stored-from, stored_at}
use Rattle.monitor.proofs.Marked.{before-first, first-low}
use Rattle.monitor.proofs.Numbered.{program_of, InOrder}
use Rattle.monitor.proofs.RowWords.{word_of, kind-is, left_is, up_is}
use Rattle.monitor.proofs.Shut.{threads-long, two-laid}
use Rattle.monitor.proofs.ThreadSteps.{seq-left, seq-right, alt-either, star-body, pipe-left, pipe-right, row_below, row-above, no-letter, thread-stored}
use Rattle.monitor.proofs.Writers.{up-to-below, beyond, threads_in, before_threads, before-long, counts-are}
use Rattle.monitor.proofs.Program.{Counted, table_of, in_order, program-rows, program-letters, words_right, rows-counted}

-- ---- each row's number

module _ (t : List ℕ) where
  abbrev number_of : ℕ → ℕ
  number_of r = row_number t (row_numbers t r) r

  numbers-long : (n : ℕ) → length (row_numbers t n) ≡ 1024
  unfolding row_numbers
  numbers-long zero = length-replicate {A = ℕ} 1024 0
  numbers-long (suc n) = length-set (row_numbers t n) n (number_of n) ∙ numbers-long n

  -- once it is stored it stays
  numbers-hold : (n r : ℕ) → n ≤ 1024 → r < n → get_or (row_numbers t n) r 0 ≡ number_of r
  unfolding row_numbers
  numbers-hold zero r h l = absurd (omega (arith, l))
  numbers-hold (suc n) r h l = by (eqb r n) refl (numbers-hold n r (omega (arith, h)))
    where
      by : (b : Bool) → eqb r n ≡ b → (r < n → get_or (row_numbers t n) r 0 ≡ number_of r) → get_or (set (row_numbers t n) n (number_of n)) r 0 ≡ number_of r
      by true e more =
          let q = eqb-true r n e in
          ap (λ (i : ℕ). get_or (set (row_numbers t n) n (number_of n)) i 0) q
          ∙ get_or-set_same (row_numbers t n) n (number_of n) 0 (omega (arith, numbers-long n, h)) ∙ ap number_of (sym q)
      by false e more = let q = eqb-false r n e in get_or-set_other (row_numbers t n) n r (number_of n) 0 q ∙ more (omega (arith, q, l))

  module _ (r u : ℕ) (h : r ≤ 1024) (a : u ≡ up_of t r) where
    number-below : u < r → number_of r ≡ operand_number (get_or t u 0) (number_of u) r
    number-below l = sym (row_below t (row_numbers t r) r u a l) ∙ ap (λ (m : ℕ). operand_number (get_or t u 0) m r) (numbers-hold r u h l)

    number-own : r ≤ u → number_of r ≡ 0
    number-own l = sym (row-above t (row_numbers t r) r u a l)

-- ---- a thread's row T with c, whether a letter goes on there, in one number

abbrev coded : ℕ → Bool → ℕ
coded T c = 2 * T + cond c 1 0

going-coded : (T : ℕ) (c : Bool) → going_on (coded T c) ≡ coded T true
going-coded T true = omega arith
going-coded T false = omega arith

thread-coded : (T : ℕ) (c : Bool) → cond c T 0 ≡ thread_of (coded T c)
thread-coded T true = let e : (2 * T + 1) % 2 ≡ 1 = omega arith in let f : T ≡ (2 * T + 1) / 2 = omega arith in rw e f
thread-coded T false = let e : (2 * T + 0) % 2 ≡ 0 = omega arith in rw e refl

-- ---- one a letter

-- of two operands, which may differ in T and c
abbrev of_both : (r T T' : ℕ) (c c' : Bool) (e f : Exp) → List ℕ
of_both r T T' c c' e f = thread_rows (suc r) T c e ++ thread_rows (suc r + rows e) T' c' f

pub all-threads-long : (r : ℕ) (ms : List Exp) → length (thread_rows_all r ms) ≡ total size ms
unfolding thread_rows_all
all-threads-long r [] = refl
all-threads-long r (m ∷ ms) =
    length-append (thread_rows r 0 false m) (thread_rows_all (r + rows m) ms) ∙ ap₂ ◌+◌ (threads-long r 0 false m) (all-threads-long (r + rows m) ms)

-- all below the number of rows
module _ (n : ℕ) where
  abbrev Low : List ℕ → Type 0
  Low xs = Each (λ p. p < n) xs

  two-low : (r T T' : ℕ) (c c' : Bool) (e f : Exp) → Low (thread_rows (suc r) T c e) → Low (thread_rows (suc r + rows e) T' c' f) → Low (of_both r T T' c c' e f)
  two-low r T T' c c' e f = each_append (λ p. p < n) (thread_rows (suc r) T c e) (thread_rows (suc r + rows e) T' c' f)

  threads-low : (r T : ℕ) (c : Bool) (e : Exp) → T < n → r + rows e ≤ n → Low (thread_rows r T c e)
  unfolding thread_rows rows
  threads-low r T true (letter l) t h = (t, tt)
  threads-low r T false (letter l) t h = (omega (arith, t), tt)
  threads-low r T c (seq e f) t h = two-low r T T true c e f (threads-low (suc r) T true e t (omega arith)) (threads-low (suc r + rows e) T c f t (omega arith))
  threads-low r T c (alt e f) t h = two-low r T T c c e f (threads-low (suc r) T c e t (omega arith)) (threads-low (suc r + rows e) T c f t (omega arith))
  threads-low r T c (star e) t h = threads-low (suc r) T true e t (omega arith)
  threads-low r T c (pipe e f) t h =
      two-low r T (suc r + rows e) c false e f (threads-low (suc r) T c e t (omega arith))
      (threads-low (suc r + rows e) (suc r + rows e) false f (omega (arith, a-row f)) (omega arith))

  all-threads-low : (r : ℕ) (ms : List Exp) → r + total rows ms ≤ n → Low (thread_rows_all r ms)
  unfolding thread_rows_all
  all-threads-low r [] h = tt
  all-threads-low r (m ∷ ms) h =
      each_append (λ p. p < n) (thread_rows r 0 false m) (thread_rows_all (r + rows m) ms) (threads-low r 0 false m (omega (arith, a-row m)) (omega arith))
      (all-threads-low (r + rows m) ms (omega arith))

-- ---- what the loop stores for an expression whose rows stand in the table

module _ (t : List ℕ) (R : Table) (n : ℕ) (few : n ≤ 1024) (words : (r : ℕ) → r < n → get_or t r 0 ≡ word_of (R r)) where
  -- the number of an operand's row, r', where the operator stands at row r
  under : (r r' : ℕ) (e : Exp) → r < r' → r' < n → Stands R r' (laid r' r e) → number_of t r' ≡ operand_number (get_or t r 0) (number_of t r) r'
  under r r' e l h s = number-below t r' r (omega (arith, h, few)) (sym (up_is R t n few words r' r e h (omega (arith, l, h)) s)) l

  -- an operator, by its kind's number k, stores nothing
  operator-row : (r k left right up : ℕ) → r < n → word_of (R r) ≡ quad k left right up → 0 < k → k < 65536 → threads_from t (suc r) ≡ threads_from t r
  unfolding threads_from
  operator-row r k left right up h w z l =
      sym (no-letter (threads_from t r) (get_or t r 0) (number_of t r) k (sym (kind-is k left right up (words r h ∙ w) l)) (λ (e : k ≡ 0). omega (arith, e, z)))

  -- two operands' letters, one's behind the other's
  two-stored : (r k T T' : ℕ) (c c' : Bool) (e f : Exp) → threads_from t (suc r) ≡ threads_from t r
      → threads_from t (suc r + rows e) ≡ sets (threads_from t (suc r)) k (thread_rows (suc r) T c e)
      → threads_from t (suc r + rows e + rows f) ≡ sets (threads_from t (suc r + rows e)) (k + size e) (thread_rows (suc r + rows e) T' c' f)
      → threads_from t (r + (1 + rows e + rows f)) ≡ sets (threads_from t r) k (of_both r T T' c c' e f)
  two-stored r k T T' c c' e f a p q =
      let i : r + (1 + rows e + rows f) ≡ suc r + rows e + rows f = omega arith in
      let xs = thread_rows (suc r) T c e in
      let ys = thread_rows (suc r + rows e) T' c' f in
      ap (threads_from t) i ∙ q ∙ ap (λ (A : List ℕ). sets A (k + size e) ys) (p ∙ ap (λ (A : List ℕ). sets A k xs) a)
      ∙ sets_behind (threads_from t r) k (k + size e) xs ys (xs ++ ys) (omega (arith, threads-long (suc r) T c e)) refl

  -- an operator with two operands: what is known of each where its rows stand and its own row's number is known
  both_stored : (j r up k T T₁ T₂ : ℕ) (c c₁ c₂ : Bool) (e f : Exp) → 0 < j → j < 65536 → r + (1 + rows e + rows f) ≤ n → word_of (R r) ≡ quad j (suc r) (suc r + rows e) up
      → Stands R (suc r) (laid (suc r) r e ++ laid (suc r + rows e) r f) → number_of t r ≡ coded T c
      → (j ≡ part0 (get_or t r 0) → suc r ≡ part1 (get_or t r 0) → operand_number (get_or t r 0) (coded T c) (suc r) ≡ coded T₁ c₁)
      → (j ≡ part0 (get_or t r 0) → suc r ≡ part1 (get_or t r 0) → (suc r ≡ suc r + rows e → ⊥) → operand_number (get_or t r 0) (coded T c) (suc r + rows e) ≡ coded T₂ c₂)
      → (Stands R (suc r) (laid (suc r) r e) → number_of t (suc r) ≡ coded T₁ c₁
      → threads_from t (suc r + rows e) ≡ sets (threads_from t (suc r)) k (thread_rows (suc r) T₁ c₁ e))
      → (Stands R (suc r + rows e) (laid (suc r + rows e) r f) → number_of t (suc r + rows e) ≡ coded T₂ c₂
      → threads_from t (suc r + rows e + rows f) ≡ sets (threads_from t (suc r + rows e)) (k + size e) (thread_rows (suc r + rows e) T₂ c₂ f))
      → threads_from t (r + (1 + rows e + rows f)) ≡ sets (threads_from t r) k (of_both r T₁ T₂ c₁ c₂ e f)
  both_stored j r up k T T₁ T₂ c c₁ c₂ e f z l h w s q left right more more' =
      let d : r < n = omega (arith, h) in
      let x = a-row e in
      let y = a-row f in
      let a = two-laid R r e f s in
      let u = sym (kind-is j (suc r) (suc r + rows e) up (words r d ∙ w) l) in
      let v = sym (left_is j (suc r) (suc r + rows e) up (words r d ∙ w) (omega (arith, h, few))) in
      let p = ap (λ (i : ℕ). operand_number (get_or t r 0) i (suc r)) q in
      let p' = ap (λ (i : ℕ). operand_number (get_or t r 0) i (suc r + rows e)) q in
      two-stored r k T₁ T₂ c₁ c₂ e f (operator-row r j (suc r) (suc r + rows e) up d w z l)
      (more a.0 (under r (suc r) e (omega arith) (omega (arith, h, x)) a.0 ∙ p ∙ left u v))
      (more' a.1 (under r (suc r + rows e) f (omega arith) (omega (arith, h, y)) a.1 ∙ p' ∙ right u v (λ (i : suc r ≡ suc r + rows e). omega (arith, i, x))))

  letter-stored : (r k T : ℕ) (c : Bool) (up : ℕ) → r + 1 ≤ n → k + 1 ≤ 256 → word_of (R r) ≡ quad 0 k 0 up → number_of t r ≡ coded T c
      → threads_from t (r + 1) ≡ set (threads_from t r) k (cond c T 0)
  unfolding threads_from
  letter-stored r k T c up h m w q =
      let i : r + 1 ≡ suc r = omega arith in
      ap (threads_from t) i
      ∙ sym (thread-stored (threads_from t r) (get_or t r 0) (number_of t r) 0 (sym (kind-is 0 k 0 up (words r (omega (arith, h)) ∙ w) (omega arith))) refl k
      (sym (left_is 0 k 0 up (words r (omega (arith, h)) ∙ w) (omega (arith, m)))) (omega (arith, m)) (cond c T 0) (thread-coded T c ∙ ap thread_of (sym q)))

  stored-for : (r up k T : ℕ) (c : Bool) (e : Exp) → r + rows e ≤ n → k + size e ≤ 256 → Ordered k e → Stands R r (laid r up e) → number_of t r ≡ coded T c
      → threads_from t (r + rows e) ≡ sets (threads_from t r) k (thread_rows r T c e)
  unfolding laid rows size thread_rows
  stored-for r up k T c (letter x) h m o s q =
      letter-stored r k T c up h m (ap word_of s.0 ∙ ap (λ (l : ℕ). quad 0 l 0 up) (let z : 0 + x.number ≡ k = omega (arith, o) in z)) q
  stored-for r up k T c (seq e f) h m o s q =
      both_stored 1 r up k T T T c true c e f (omega arith) (omega arith) h (ap word_of s.0) s.1 q
      (λ u v. sym (seq-left (get_or t r 0) (coded T c) (suc r) 1 (suc r) u v refl refl) ∙ going-coded T c)
      (λ u v z. sym (seq-right (get_or t r 0) (coded T c) (suc r + rows e) 1 (suc r) u v refl z))
      (λ a p. stored-for (suc r) r k T true e (omega (arith, h)) (omega (arith, m)) o.0 a p)
      (λ a p. stored-for (suc r + rows e) r (k + size e) T c f (omega (arith, h)) (omega (arith, m)) o.1 a p)
  stored-for r up k T c (alt e f) h m o s q =
      both_stored 2 r up k T T T c c c e f (omega arith) (omega arith) h (ap word_of s.0) s.1 q
      (λ u v. sym (alt-either (get_or t r 0) (coded T c) (suc r) 2 (suc r) u v (λ z. omega (arith, z)) refl))
      (λ u v z. sym (alt-either (get_or t r 0) (coded T c) (suc r + rows e) 2 (suc r) u v (λ z. omega (arith, z)) refl))
      (λ a p. stored-for (suc r) r k T c e (omega (arith, h)) (omega (arith, m)) o.0 a p)
      (λ a p. stored-for (suc r + rows e) r (k + size e) T c f (omega (arith, h)) (omega (arith, m)) o.1 a p)
  stored-for r up k T c (star e) h m o s q =
      let d : r < n = omega (arith, h) in
      let w = ap word_of s.0 in
      let u = sym (kind-is 3 (suc r) 0 up (words r d ∙ w) (omega arith)) in
      let v = sym (left_is 3 (suc r) 0 up (words r d ∙ w) (omega (arith, h, few))) in
      let i : r + (1 + rows e) ≡ suc r + rows e = omega arith in
      ap (threads_from t) i
      ∙ stored-for (suc r) r k T true e (omega (arith, h)) m o s.1
      (under r (suc r) e (omega arith) (omega (arith, h, a-row e)) s.1
      ∙ sym (star-body (get_or t r 0) (number_of t r) (suc r) 3 (suc r) u v (λ z. omega (arith, z)) (λ z. omega (arith, z)) refl) ∙ ap going_on q ∙ going-coded T c)
      ∙ ap (λ (A : List ℕ). sets A k (thread_rows (suc r) T true e)) (operator-row r 3 (suc r) 0 up d w (omega arith) (omega arith))
  stored-for r up k T c (pipe e f) h m o s q =
      both_stored 4 r up k T T (suc r + rows e) c c false e f (omega arith) (omega arith) h (ap word_of s.0) s.1 q
      (λ u v. sym (pipe-left (get_or t r 0) (coded T c) (suc r) 4 (suc r) u v (λ z. omega (arith, z)) (λ z. omega (arith, z)) (λ z. omega (arith, z)) refl refl))
      (λ u v z. sym (pipe-right (get_or t r 0) (coded T c) (suc r + rows e) 4 (suc r) u v (λ z. omega (arith, z)) (λ z. omega (arith, z)) (λ z. omega (arith, z)) refl z)
      ∙ (let i : 2 * (suc r + rows e) ≡ coded (suc r + rows e) false = omega arith in i))
      (λ a p. stored-for (suc r) r k T c e (omega (arith, h)) (omega (arith, m)) o.0 a p)
      (λ a p. stored-for (suc r + rows e) r (k + size e) (suc r + rows e) false f (omega (arith, h)) (omega (arith, m)) o.1 a p)

  -- for all monitors
  stored-for-all : (r k : ℕ) (ms : List Exp) → r + total rows ms ≤ n → k + total size ms ≤ 256 → InOrder k ms → Stands R r (laid_all r ms)
      → threads_from t (r + total rows ms) ≡ sets (threads_from t r) k (thread_rows_all r ms)
  unfolding laid_all thread_rows_all
  stored-for-all r k [] h m o s = let i : r + 0 ≡ r = omega arith in ap (threads_from t) i
  stored-for-all r k (e ∷ es) h m o s =
      let a = front R r (laid r r e) (laid_all (r + rows e) es) s in
      let d : r < n = omega (arith, h, a-row e) in
      let i : r + (rows e + total rows es) ≡ r + rows e + total rows es = omega arith in
      ap (threads_from t) i
      ∙ stored-for-all (r + rows e) (k + size e) es (omega (arith, h)) (omega (arith, m)) o.1
      (rear R r (r + rows e) (laid r r e) (laid_all (r + rows e) es) (omega (arith, laid-length r r e)) s)
      ∙ ap (λ (A : List ℕ). sets A (k + size e) (thread_rows_all (r + rows e) es))
      (stored-for r r k 0 false e (omega (arith, h)) (omega (arith, m)) o.0 a (number-own t r r (omega (arith, d, few)) (sym (up_is R t n few words r r e d d a)) (omega arith)))
      ∙ sets_behind (threads_from t r) k (k + size e) (thread_rows r 0 false e) (thread_rows_all (r + rows e) es) _ (omega (arith, threads-long r 0 false e)) refl

-- ---- in a watch's tables

threads-many : (t : List ℕ) (n : ℕ) → length (threads_from t n) ≡ 256
unfolding threads_from
threads-many t zero = length-replicate {A = ℕ} 256 0
threads-many t (suc n) = by (eqb (part0 (get_or t n 0)) 0) (ltb (part1 (get_or t n 0)) 256) ∙ threads-many t n
  where
    by : (a b : Bool) → length (cond a (cond b (set (threads_from t n) (part1 (get_or t n 0)) (thread_of (number_of t n))) (threads_from t n)) (threads_from t n)) ≡ length (threads_from t n)
    by true true = length-set (threads_from t n) (part1 (get_or t n 0)) (thread_of (number_of t n))
    by true false = refl
    by false b = refl

quad-low : (a b c d : ℕ) → part0 (quad a b c d) ≡ part0 a
quad-low a b c d = omega arith

module _ (v : Watch) (σ w : List ℕ) where
  thread-word : (i : ℕ) → i < 256 → thread_row_of (given_of v σ w) i ≡ part0 (get_or (threads_in v) i 0)
  thread-word zero h = ap part0 (counts-are v σ w) ∙ quad-low (get_or (threads_in v) 0 0) (writers_of v.links 256) (threaded_of (threads_in v) 256) (unthreaded_of (threads_in v) 256)
  thread-word (suc i) h =
      let l = threads-many v.table (min v.rows 1024) in
      ap part0
      (get_or-set_other (sets (before_threads v) 768 (threads_in v)) 768 (768 + suc i) (quad (get_or (threads_in v) 0 0) (writers_of v.links 256) (threaded_of (threads_in v) 256) (unthreaded_of (threads_in v) 256)) 0
      (λ e. omega (arith, e))
      ∙ stands_at (λ j. get_or (sets (before_threads v) 768 (threads_in v)) j 0) 0 768 (threads_in v) (suc i) (omega (arith, l, h))
      (stored-from (before_threads v) 768 (threads_in v) (omega (arith, l, before-long v))))

  -- Behind the last letter that goes on in a thread none does, and so many letters there are at most.
  pub threaded-enough : ((l : ℕ) → threaded (given_of v σ w) ≤ l → l < 256 → thread_row_of (given_of v σ w) l ≡ 0) × (threaded (given_of v σ w) ≤ 256)
  threaded-enough =
      let few = up-to-below (λ i. eqb (get_or (threads_in v) i 0) 0) 256 in
      let e = ap part2 (counts-are v σ w) ∙ quad-2 (get_or (threads_in v) 0 0) (writers_of v.links 256) (threaded_of (threads_in v) 256) (unthreaded_of (threads_in v) 256) (omega (arith, few)) in (
        λ l h k. thread-word l k ∙ ap part0 (eqb-true (get_or (threads_in v) l 0) 0 (beyond (λ i. eqb (get_or (threads_in v) i 0) 0) 256 l (omega (arith, e, h)) k)),
        omega (arith, e, few),
      )

-- nor has a letter before the first that is counted
module _ (v : Watch) (σ w : List ℕ) where
  pub unthreaded-before : (l : ℕ) → l < unthreaded (given_of v σ w) → thread_row_of (given_of v σ w) l ≡ 0
  unthreaded-before l h =
      let few = first-low (threads_in v) 256 0 in
      let e = ap part3 (counts-are v σ w) ∙ quad-3 (get_or (threads_in v) 0 0) (writers_of v.links 256) (threaded_of (threads_in v) 256) (unthreaded_of (threads_in v) 256) (omega (arith, few)) in
      thread-word v σ w l (omega (arith, h, e, few)) ∙ ap part0 (before-first (threads_in v) 256 0 l (omega arith) (omega (arith, h, e)))

module _ (o : Opened) (c : Counted o) where
  threads-stored : threads_in (watch_of (value o)) ≡ sets (replicate 256 0) 0 (thread_rows_all 0 (program_of o))
  unfolding threads_from
  threads-stored =
      let r = program-rows o c in
      let i : min (watch_of (value o)).rows 1024 ≡ 0 + total rows (program_of o) = omega (arith, rows-counted o c, r, c.few_rows) in
      ap (threads_from (watch_of (value o)).table) i
      ∙ stored-for-all (watch_of (value o)).table (table_of o) o.row_count (omega (arith, c.few_rows)) (words_right o c) 0 0 (program_of o) (omega (arith, r))
      (omega (arith, program-letters o c, c.few_letters)) (in_order o c) (stands_self no_row (laid_all 0 (program_of o)))

  -- Each letter of an accepted text has the row of the thread that it goes on in.
  pub thread-rows-right : (σ w : List ℕ) (i : ℕ) → i < o.letter_count → thread_row_of (given_of (watch_of (value o)) σ w) i ≡ get_or (thread_rows_all 0 (program_of o)) i 0
  thread-rows-right σ w i h =
      let xs = thread_rows_all 0 (program_of o) in
      let n : length xs ≡ o.letter_count = all-threads-long 0 (program_of o) ∙ program-letters o c in
      let low = each_at (λ p. p < 1024) 0 xs i (omega (arith, n, h)) (all-threads-low 1024 0 (program_of o) (omega (arith, program-rows o c, c.few_rows))) in
      thread-word (watch_of (value o)) σ w i (omega (arith, h, c.few_letters))
      ∙ ap part0 (ap (λ (t : List ℕ). get_or t i 0) threads-stored ∙ stored_at 256 xs i (omega (arith, n, c.few_letters)) (omega (arith, n, h)))
      ∙ mod-eq_of_lt (omega (arith, low))

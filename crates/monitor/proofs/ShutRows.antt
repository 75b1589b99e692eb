-- The rows shut at a tick's start, in the watch of an accepted text: they are rows of threads, and those of the threads that are busy. Assumes nothing.
use mathlib.Core.Path.{◌≡◌, refl, sym, ap, ◌∙◌, subst}
use mathlib.Core.Bool.{Bool, true, false, not, cond}
use mathlib.Core.List.{List, [], ◌∷◌}
use mathlib.Core.Logic.{◌⊎◌, inl, inr, ⊎_elim}
use Prim.Native.Nat.{ℕ, zero, suc, ◌+◌, ◌-◌, ◌<◌, ◌≤◌, min}
use native.Mathlib.Omega.{arith}
use lib.Dec.{T, T_not, eqb, leb, ltb}
use borrow.Author.Tests.{eq-eqb, ne_eqb, eqb-true, eqb-false, leb-true, leb-false, ltb-true, ltb-false}
use lib.ListN.{length, get_or, set}
use lib.Seq.{get_or-set_same}
use Rattle.meaning.specs.Lists.{◌∈◌, total, member}
use Rattle.meaning.specs.Answers.{value}
use Rattle.meaning.specs.Expression.{Letter, Exp, letters, own, size, rows, renumbered, Ordered}
use Rattle.meaning.specs.Numbered.{numbered_from}
use Rattle.meaning.specs.Fit.{among}
use Rattle.meaning.specs.Positions.{has, busy, Positions, at_start, on}
use Rattle.meaning.specs.Table.{Table, laid, laid_all, no_row}
use Rattle.meaning.specs.Opening.{Opened}
use Rattle.meaning.proofs.ListLaws.{here, there, cons-∈, no-∈, ∈-map, by-test, same_truth, ∈-member, member-∈}
use Rattle.meaning.proofs.OneWay.{Closed}
use Rattle.meaning.proofs.Threads.{among-at}
use Rattle.meaning.proofs.Walk.{ThreadRow, ThreadsShut, Shuts}
use Rattle.meaning.proofs.Numbering.{between, renumbered-size, renumbered-rows, renumbered-ordered, numbered}
use Rattle.meaning.proofs.Shifted.{shift_all, shift_positions, closed-renumbered}
use Rattle.meaning.proofs.Rows.{Stands, laid-length}
use Rattle.rules.specs.Watches.{watch_of}
use Rattle.rules.proofs.Placing.{letters-long}
use Rattle.monitor.specs.Letters.{Given, thread_row_of, threaded, unthreaded}
use Rattle.monitor.specs.Threads.{thread_rows, thread_rows_all}
use Rattle.monitor.specs.Ticks.{empty_memory, if_marked, each_marked, shut_for, shut_busy}
use Rattle.monitor.specs.Calls.{given_of}
use Rattle.monitor.proofs.Padded.{zeros-at}
use Rattle.monitor.proofs.Stored.{stands_self, front, rear}
use Rattle.monitor.proofs.Memory.{after-set, Begun, shut_in, empty-begun, shut_one}
use Rattle.monitor.proofs.Going.{marked_from, MarksAre}
use Rattle.monitor.proofs.Moves.{ordered-counted, in_shift, MarksAll}
use Rattle.monitor.proofs.Monitors.{active, AllShut, counted_has}
use Rattle.monitor.proofs.Numbered.{program_of, InOrder, numbered-in-order}
use Rattle.monitor.proofs.Shut.{goes, threads-long, Inner, wider, own_row, inner-row, shuts}
use Rattle.monitor.proofs.ThreadRows.{all-threads-long, thread-rows-right, threaded-enough, unthreaded-before}
use Rattle.monitor.proofs.Program.{Counted, table_of, program-rows, program-letters}

-- ---- marked letters, one after the other

shut-yes : (M : List ℕ) (r : ℕ) → (get_or M r 0 ≡ 0 → ⊥) → T (shut_in M r)
shut-yes M r h = subst (λ b. T (not b)) (sym (ne_eqb (get_or M r 0) 0 h)) tt

shut-not : (M : List ℕ) (r : ℕ) → T (shut_in M r) → get_or M r 0 ≡ 0 → ⊥
shut-not M r t z = T_not (eqb (get_or M r 0) 0) t (subst T (sym (eq-eqb (get_or M r 0) 0 z)) tt)

module _ (g : Given) (K : List ℕ) where
  -- letter i is marked, and has the row r
  abbrev Marks : (i r : ℕ) → Type 0
  Marks i r = (get_or K i 0 ≡ 0 → ⊥) × (thread_row_of g i ≡ r) × (r ≡ 0 → ⊥)

  one-stays : (l : ℕ) (M : List ℕ) (r : ℕ) → Begun M → T (shut_in M r) → T (shut_in (if_marked K (shut_for g) l M) r)
  one-stays l M r b t = by (eqb (get_or K l 0) 0) (eqb (thread_row_of g l) 0) (leb 1024 (thread_row_of g l)) refl
    where
      by : (x y z : Bool) → leb 1024 (thread_row_of g l) ≡ z → T (shut_in (cond x M (cond y M (cond z M (set M (thread_row_of g l) 1)))) r)
      by true y z e = t
      by false true z e = t
      by false false true e = t
      by false false false e =
          let low = leb-false 1024 (thread_row_of g l) e in
          let long = b.long in
          shut-yes (set M (thread_row_of g l) 1) r (λ q. ⊎_elim (λ w. omega (arith, q, w.1)) (λ w. shut-not M r t (sym w ∙ q)) (after-set M (thread_row_of g l) r 1 (omega (arith, low, long))))

  one-comes : (l : ℕ) (M : List ℕ) (r : ℕ) → Begun M → Marks l r → r < 1024 → T (shut_in (if_marked K (shut_for g) l M) r)
  one-comes l M r b (k, p, z) h =
      let long = b.long in
      rw (ne_eqb (get_or K l 0) 0 k, p, ne_eqb r 0 z, low)
      (shut-yes (set M r 1) r (λ q. ⊎_elim (λ w. omega (arith, q, w.1)) (λ w. same w q) (after-set M r r 1 (omega (arith, h, long)))))
    where
      low : leb 1024 r ≡ false
      low = by (leb 1024 r) refl
        where
          by : (c : Bool) → leb 1024 r ≡ c → c ≡ false
          by true e = absurd (let x = leb-true 1024 r e in omega (arith, x, h))
          by false e = refl

      same : get_or (set M r 1) r 0 ≡ get_or M r 0 → get_or (set M r 1) r 0 ≡ 0 → ⊥
      same w q = let x = get_or-set_same M r 1 0 (let long = b.long in omega (arith, h, long)) in omega (arith, x, q)

  one_from : (l : ℕ) (M : List ℕ) (r : ℕ) → Begun M → T (shut_in (if_marked K (shut_for g) l M) r) → T (shut_in M r) ⊎ Marks l r
  one_from l M r b t = by (eqb (get_or K l 0) 0) refl (eqb (thread_row_of g l) 0) refl (leb 1024 (thread_row_of g l)) refl t
    where
      by : (x : Bool) → eqb (get_or K l 0) 0 ≡ x → (y : Bool) → eqb (thread_row_of g l) 0 ≡ y → (z : Bool) → leb 1024 (thread_row_of g l) ≡ z
          → T (shut_in (cond x M (cond y M (cond z M (set M (thread_row_of g l) 1)))) r) → T (shut_in M r) ⊎ Marks l r
      by true p y q z e t = inl t
      by false p true q z e t = inl t
      by false p false q true e t = inl t
      by false p false q false e t =
          let low = leb-false 1024 (thread_row_of g l) e in
          let long = b.long in
          ⊎_elim
          (λ w. inr (eqb-false (get_or K l 0) 0 p, sym w.0, λ v. eqb-false (thread_row_of g l) 0 q (sym w.0 ∙ v)))
          (λ w. inl (shut-yes M r (λ v. shut-not (set M (thread_row_of g l) 1) r t (w ∙ v))))
          (after-set M (thread_row_of g l) r 1 (omega (arith, low, long)))

  all_stay : (n l : ℕ) (M : List ℕ) (r : ℕ) → Begun M → T (shut_in M r) → T (shut_in (each_marked K (shut_for g) n l M) r)
  unfolding each_marked
  all_stay zero l M r b t = t
  all_stay (suc n) l M r b t = all_stay n (suc l) (if_marked K (shut_for g) l M) r (shut_one g K l M b) (one-stays l M r b t)

  all_come : (n l : ℕ) (M : List ℕ) (r i : ℕ) → Begun M → l ≤ i → i < l + n → Marks i r → r < 1024 → T (shut_in (each_marked K (shut_for g) n l M) r)
  unfolding each_marked
  all_come zero l M r i b x y m h = absurd (omega (arith, x, y))
  all_come (suc n) l M r i b x y m h = by (eqb i l) refl (λ z. all_come n (suc l) (if_marked K (shut_for g) l M) r i (shut_one g K l M b) z (omega (arith, y)) m h)
    where
      by : (c : Bool) → eqb i l ≡ c → (suc l ≤ i → T (shut_in (each_marked K (shut_for g) n (suc l) (if_marked K (shut_for g) l M)) r)) → T (shut_in (each_marked K (shut_for g) n (suc l) (if_marked K (shut_for g) l M)) r)
      by true e more = all_stay n (suc l) (if_marked K (shut_for g) l M) r (shut_one g K l M b) (one-comes l M r b (subst (λ (z : ℕ). Marks z r) (eqb-true i l e) m) h)
      by false e more = more (let q = eqb-false i l e in omega (arith, x, q))

  all_from : (n l : ℕ) (M : List ℕ) (r : ℕ) → Begun M → T (shut_in (each_marked K (shut_for g) n l M) r) → T (shut_in M r) ⊎ ((i : ℕ) × (l ≤ i) × (i < l + n) × Marks i r)
  unfolding each_marked
  all_from zero l M r b t = inl t
  all_from (suc n) l M r b t = ⊎_elim
      (λ h. ⊎_elim inl (λ m. inr (l, omega arith, omega arith, m)) (one_from l M r b h))
      (λ (i, x, y, m). inr (i, omega (arith, x), omega (arith, y), m))
      (all_from n (suc l) (if_marked K (shut_for g) l M) r (shut_one g K l M b) t)

-- ---- the marked letters of a monitor

pub in-marked : (K : List ℕ) (n l i : ℕ) → l ≤ i → i < l + n → (get_or K i 0 ≡ 0 → ⊥) → i ∈ marked_from K n l
unfolding marked_from
in-marked K zero l i x y k = absurd (omega (arith, x, y))
in-marked K (suc n) l i x y k = by (eqb (get_or K l 0) 0) refl (eqb i l) refl (λ z. in-marked K n (suc l) i z (omega (arith, y)) k)
  where
    by : (b : Bool) → eqb (get_or K l 0) 0 ≡ b → (c : Bool) → eqb i l ≡ c → (suc l ≤ i → i ∈ marked_from K n (suc l)) → i ∈ cond b (marked_from K n (suc l)) (l ∷ marked_from K n (suc l))
    by true e true q more = absurd (k (ap (λ (z : ℕ). get_or K z 0) (eqb-true i l q) ∙ eqb-true (get_or K l 0) 0 e))
    by true e false q more = more (let w = eqb-false i l q in omega (arith, x, w))
    by false e true q more = here (eqb-true i l q)
    by false e false q more = there (more (let w = eqb-false i l q in omega (arith, x, w)))

pub marked-in : (K : List ℕ) (n l i : ℕ) → i ∈ marked_from K n l → (l ≤ i) × (i < l + n) × (get_or K i 0 ≡ 0 → ⊥)
unfolding marked_from
marked-in K zero l i j = absurd (no-∈ j)
marked-in K (suc n) l i j = by (eqb (get_or K l 0) 0) refl j (λ h. let (x, y, z) = marked-in K n (suc l) i h in (omega (arith, x), omega (arith, y), z))
  where
    by : (b : Bool) → eqb (get_or K l 0) 0 ≡ b → i ∈ cond b (marked_from K n (suc l)) (l ∷ marked_from K n (suc l)) → (i ∈ marked_from K n (suc l) → (l ≤ i) × (i < l + suc n) × (get_or K i 0 ≡ 0 → ⊥))
        → (l ≤ i) × (i < l + suc n) × (get_or K i 0 ≡ 0 → ⊥)
    by true e h more = more h
    by false e h more = ⊎_elim
        (λ p. (omega (arith, p), omega (arith, p), λ z. eqb-false (get_or K l 0) 0 e (ap (λ (w : ℕ). get_or K w 0) (sym p) ∙ z)))
        more
        (cons-∈ h)

-- they are its active ones
pub marks-active : (K : List ℕ) (i n l : ℕ) (z : Positions) → MarksAre K i n l z → marked_from K n l ≡ active z
marks-active K i n l at_start (a, b) = b
marks-active K i n l (on ns) (a, b) = b

-- letter n is marked
abbrev pub marked : (marks : List ℕ) → ℕ → Bool
marked K n = not (eqb (get_or K n 0) 0)

-- where those marked, numbered from l on, are the positions ns
pub same_met : (K : List ℕ) (l : ℕ) (m : Exp) → Ordered 0 m → (ns : List ℕ) → marked_from K (size m) l ≡ shift_all l ns → (x : Letter) → x ∈ letters m
    → marked K (l + x.number) ≡ member x.number ns
same_met K l m o ns e x i =
    let (_, b) = between 0 m o x i in
    same_truth (marked K (l + x.number)) (member x.number ns)
    (λ h. ∈-member x.number ns
    (in_shift l x.number ns (subst (λ zs. l + x.number ∈ zs) e (in-marked K (size m) l (l + x.number) (omega arith) (omega (arith, b)) (shut-not K (l + x.number) h)))))
    (λ h. shut-yes K (l + x.number) (marked-in K (size m) l (l + x.number) (subst (λ zs. l + x.number ∈ zs) (sym e) (∈-map (λ k. l + k) (member-∈ x.number ns h)))).2)

-- ---- the rows of all monitors; tr has each letter's

stands_from : (f : ℕ → ℕ) (k : ℕ) (xs : List ℕ) → ((i : ℕ) → i < length xs → f (k + i) ≡ get_or xs i 0) → Stands f k xs
stands_from f k [] h = tt
stands_from f k (x ∷ xs) h = (
  (let e : k ≡ k + 0 = omega arith in ap f e ∙ h 0 (omega arith)),
  stands_from f (suc k) xs (λ i l. let e : suc k + i ≡ k + suc i = omega arith in ap f e ∙ h (suc i) (omega (arith, l))),
)

-- a number in a monitor's range is one of its letters
in-range : (k : ℕ) (m : Exp) → Ordered k m → (i : ℕ) → k ≤ i → i < k + size m → T (has i m)
in-range k m o i x y =
    let d = letters-long m in
    let (l, j, p) = counted_has k (letters m) (ordered-counted k m o) i x (omega (arith, y, d)) in
    among-at (letters m) i l j p

module _ (R : Table) (tr : ℕ → ℕ) where
  -- the letters of a monitor have no row, or that of a thread inside it
  one-inner : (r k : ℕ) (m : Exp) → Ordered k m → Stands R r (laid r r m) → Stands tr k (thread_rows r 0 false m) → (i : ℕ) → T (has i m) → Inner R r (rows m) (tr i)
  one-inner r k m o u s i h = by-test (among (own m) i)
      (λ e. inl (own_row R tr r 0 false k m (numbered k m o) o s i e ∙ none (goes false i m)))
      (inner-row R tr r r 0 false k m (numbered k m o) o u s i h)
    where
      none : (b : Bool) → ◌≡◌ {A = ℕ} (cond b 0 0) 0
      none true = refl
      none false = refl

  all-inner : (r k : ℕ) (ms : List Exp) → InOrder k ms → Stands R r (laid_all r ms) → Stands tr k (thread_rows_all r ms) → (i : ℕ) → k ≤ i → i < k + total size ms → Inner R r (total rows ms) (tr i)
  unfolding laid_all thread_rows_all
  all-inner r k [] o u s i x y = absurd (omega (arith, x, y))
  all-inner r k (m ∷ ms) o u s i x y =
      by (ltb i (k + size m)) refl
      (λ e. wider R r (rows m) r (rows m + total rows ms) (tr i) (omega arith) (omega arith)
      (one-inner r k m o.0 (front R r (laid r r m) (laid_all (r + rows m) ms) u) (front tr k (thread_rows r 0 false m) (thread_rows_all (r + rows m) ms) s) i (in-range k m o.0 i x e)))
      (λ e. wider R (r + rows m) (total rows ms) r (rows m + total rows ms) (tr i) (omega arith) (omega arith)
      (all-inner (r + rows m) (k + size m) ms o.1
      (rear R r (r + rows m) (laid r r m) (laid_all (r + rows m) ms) (let d = laid-length r r m in omega (arith, d)) u)
      (rear tr k (k + size m) (thread_rows r 0 false m) (thread_rows_all (r + rows m) ms) (let d = threads-long r 0 false m in omega (arith, d)) s) i e (omega (arith, y))))
    where
      by : {P : Type 0} (b : Bool) → ltb i (k + size m) ≡ b → (i < k + size m → P) → (k + size m ≤ i → P) → P
      by true e f g = f (ltb-true i (k + size m) e)
      by false e f g = g (ltb-false i (k + size m) e)

  -- ---- S tells the rows that are shut: those of marked letters, of N in all

  module _ (S : ℕ → Bool) (K : List ℕ) (N : ℕ) (top : ℕ) (high : top ≤ 1024)
      (from : (v : ℕ) → T (S v) → (i : ℕ) × (i < N) × (get_or K i 0 ≡ 0 → ⊥) × (tr i ≡ v) × (v ≡ 0 → ⊥))
      (of : (i v : ℕ) → i < N → (get_or K i 0 ≡ 0 → ⊥) → tr i ≡ v → (v ≡ 0 → ⊥) → v < 1024 → T (S v)) where
    -- a letter that has a row of a monitor is one of the monitor
    placed : (r l : ℕ) (m : Exp) (rest : List Exp) (n v : ℕ) → InOrder (l + size m) rest → Stands R (r + rows m) (laid_all (r + rows m) rest)
        → Stands tr (l + size m) (thread_rows_all (r + rows m) rest) → ((j : ℕ) → j < l → tr j ≤ r) → tr n ≡ v → r < v → v < r + rows m → n < l + size m + total size rest
        → (l ≤ n) × (n < l + size m)
    placed r l m rest n v o u s low d p q y = (first (ltb n l) refl, second (ltb n (l + size m)) refl)
      where
        first : (b : Bool) → ltb n l ≡ b → l ≤ n
        first true e = let x = low n (ltb-true n l e) in absurd (omega (arith, x, d, p))
        first false e = ltb-false n l e

        second : (b : Bool) → ltb n (l + size m) ≡ b → n < l + size m
        second true e = ltb-true n (l + size m) e
        second false e =
            let x = ltb-false n (l + size m) e in
            absurd (⊎_elim (λ z. omega (arith, z, d, p)) (λ (z, w, c). omega (arith, z, d, q)) (all-inner (r + rows m) (l + size m) rest o u s n x y))

    below : (r : ℕ) (m : Exp) (rest : List Exp) (n v : ℕ) → tr n ≡ v → (v ≡ 0 → ⊥) → r + (rows m + total rows rest) ≤ top → Inner R r (rows m) (tr n) → v < 1024
    below r m rest n v d z t (inl x) = absurd (z (sym d ∙ x))
    below r m rest n v d z t (inr (x, y, c)) = omega (arith, y, d, t, high)

    lower : (r l : ℕ) (m m' : Exp) → rows m' ≡ rows m → size m' ≡ size m → Ordered l m' → Stands R r (laid r r m') → Stands tr l (thread_rows r 0 false m') → ((j : ℕ) → j < l → tr j ≤ r)
        → (j : ℕ) → j < l + size m → tr j ≤ r + rows m
    lower r l m m' a b o u s low j y = by (ltb j l) refl
      where
        by : (c : Bool) → ltb j l ≡ c → tr j ≤ r + rows m
        by true e = let x = low j (ltb-true j l e) in omega (arith, x)
        by false e = ⊎_elim (λ z. omega (arith, z)) (λ (z, w, c). omega (arith, w, a)) (one-inner r l m' o u s j (in-range l m' o j (ltb-false j l e) (omega (arith, y, b))))

    all-shut : (i r l : ℕ) (ms : List Exp) (xs : List Positions) → ((m : Exp) → m ∈ ms → Ordered 0 m × Closed m) → InOrder l (numbered_from l ms)
        → Stands R r (laid_all r (numbered_from l ms)) → Stands tr l (thread_rows_all r (numbered_from l ms)) → ((j : ℕ) → j < l → tr j ≤ r)
        → l + total size (numbered_from l ms) ≡ N → r + total rows (numbered_from l ms) ≤ top → MarksAll K i l ms xs → AllShut S R r l ms xs
    unfolding numbered_from laid_all thread_rows_all MarksAll AllShut
    all-shut i r l [] xs c o u s low e t h = tt
    all-shut i r l (m ∷ ms) [] c o u s low e t h = absurd h
    all-shut i r l (m ∷ ms) (x ∷ xs) c o u s low e t h =
        let m' = renumbered l m in
        let rest = numbered_from (l + size m) ms in
        let a = renumbered-rows l m in
        let b = renumbered-size l m in
        let u₁ : Stands R r (laid r r m') = front R r (laid r r m') (laid_all (r + rows m') rest) u in
        let s₁ : Stands tr l (thread_rows r 0 false m') = front tr l (thread_rows r 0 false m') (thread_rows_all (r + rows m') rest) s in
        let u₂ : Stands R (r + rows m') (laid_all (r + rows m') rest) = rear R r (r + rows m') (laid r r m') (laid_all (r + rows m') rest) (let d = laid-length r r m' in omega (arith, d)) u in
        let s₂ : Stands tr (l + size m') (thread_rows_all (r + rows m') rest) = rear tr l (l + size m') (thread_rows r 0 false m') (thread_rows_all (r + rows m') rest) (let d = threads-long r 0 false m' in omega (arith, d)) s in
        let ord = renumbered-ordered l m in
        let clo = closed-renumbered l m (c m (here refl)).0 (c m (here refl)).1 in
        let ns = marked_from K (size m) l in (
          subst (λ (z : List ℕ). Shuts S R (busy z) r m') (marks-active K i (size m) l (shift_positions l x) h.0)
              (shuts R tr S ns r r 0 false l m' (numbered l m' ord) clo ord u₁ s₁ (omega arith)
              (λ v p q w.
              let (n, y, k, d, z) = from v w in
              let (f, j) = placed r l m' rest n v o.1 u₂ s₂ low d p q (omega (arith, y, e)) in
              (n, in-marked K (size m) l n f (omega (arith, j, b)) k, d, in-range l m' ord n f j))
              (λ n v j z d.
              let (f, y, k) = marked-in K (size m) l n j in
              let g = one-inner r l m' ord u₁ s₁ n (in-range l m' ord n f (omega (arith, y, b))) in
              of n v (omega (arith, y, b, e)) k d z (below r m' rest n v d z t g))),
          all-shut (suc i) (r + rows m) (l + size m) ms xs (λ n j. c n (there j))
              (subst (λ (z : ℕ). InOrder (l + z) rest) b o.1)
              (subst (λ (z : ℕ). Stands R (r + z) (laid_all (r + z) rest)) a u₂)
              (subst (λ (z : ℕ). Stands tr (l + z) (thread_rows_all (r + rows m) rest)) b (subst (λ (z : ℕ). Stands tr (l + size m') (thread_rows_all (r + z) rest)) a s₂))
              (λ j y. lower r l m m' a b ord u₁ s₁ low j y)
              (omega (arith, e, b)) (omega (arith, t, a)) h.1,
        )

-- ---- in a watch

module _ (o : Opened) (c : Counted o) (σ w : List ℕ) (K : List ℕ) where
  abbrev g : Given
  g = given_of (watch_of (value o)) σ w

  abbrev begin : List ℕ
  begin = shut_busy g K o.letter_count empty_memory

  shut-to : (v : ℕ) → T (shut_in begin v) → (i : ℕ) × (i < o.letter_count) × (get_or K i 0 ≡ 0 → ⊥) × (thread_row_of g i ≡ v) × (v ≡ 0 → ⊥)
  shut-to v t = ⊎_elim
      (λ h. absurd (shut-not empty_memory v h (zeros-at 1280 v)))
      (λ (i, x, y, m). (i, omega (arith, y), m.0, m.1, m.2))
      (all_from g K _ (unthreaded g) empty_memory v empty-begun t)

  shut-of : (i v : ℕ) → i < o.letter_count → (get_or K i 0 ≡ 0 → ⊥) → thread_row_of g i ≡ v → (v ≡ 0 → ⊥) → v < 1024 → T (shut_in begin v)
  shut-of i v h k p z l = all_come g K _ (unthreaded g) empty_memory v i empty-begun (first (ltb i (unthreaded g)) refl) (by (ltb i (threaded g)) refl) (k, p, z) l
    where
      first : (b : Bool) → ltb i (unthreaded g) ≡ b → unthreaded g ≤ i
      first true e = absurd (z (sym p ∙ unthreaded-before (watch_of (value o)) σ w i (ltb-true i (unthreaded g) e)))
      first false e = ltb-false i (unthreaded g) e

      by : (b : Bool) → ltb i (threaded g) ≡ b → i < unthreaded g + (min (threaded g) o.letter_count - unthreaded g)
      by true e = let x = ltb-true i (threaded g) e in omega (arith, x, h)
      by false e =
          let x = ltb-false i (threaded g) e in
          let few = c.few_letters in
          absurd (z (sym p ∙ (threaded-enough (watch_of (value o)) σ w).0 i x (omega (arith, h, few))))

  told : Stands (thread_row_of g) 0 (thread_rows_all 0 (program_of o))
  told = stands_from (thread_row_of g) 0 (thread_rows_all 0 (program_of o)) (λ i h.
      let e : 0 + i ≡ i = omega arith in
      let d = all-threads-long 0 (program_of o) in
      let n = program-letters o c in
      ap (thread_row_of g) e ∙ thread-rows-right o c σ w i (omega (arith, h, d, n)))

  laid-all : Stands (table_of o) 0 (laid_all 0 (program_of o))
  laid-all = stands_self no_row (laid_all 0 (program_of o))

  -- Only rows of threads are shut.
  pub threads-shut : ThreadsShut (shut_in begin) (table_of o)
  threads-shut v t =
      let (i, h, k, p, z) = shut-to v t in
      let n = program-letters o c in
      ⊎_elim (λ q. absurd (z (sym p ∙ q))) (λ (x, y, q). subst (ThreadRow (table_of o)) p q)
      (all-inner (table_of o) (thread_row_of g) 0 0 (program_of o) (numbered-in-order 0 o.monitors) laid-all told i (omega arith) (omega (arith, h, n)))

  -- And these are the rows of the threads that are busy.
  pub busy-shut : ((m : Exp) → m ∈ o.monitors → Ordered 0 m × Closed m) → (xs : List Positions) → MarksAll K 0 0 o.monitors xs → AllShut (shut_in begin) (table_of o) 0 0 o.monitors xs
  busy-shut a xs h =
      all-shut (table_of o) (thread_row_of g) (shut_in begin) K o.letter_count o.row_count (let f = c.few_rows in omega (arith, f)) shut-to shut-of 0 0 0 o.monitors xs a
      (numbered-in-order 0 o.monitors) laid-all told (λ j y. absurd (omega (arith, y))) (let d = program-letters o c in omega (arith, d)) (let d = program-rows o c in omega (arith, d)) h

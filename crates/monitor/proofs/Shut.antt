-- The rows that are shut at a tick's start are those of the threads that are busy (F17): over the rows of a monitor, of which each letter has the row of the thread that it goes on
-- in. Assumes nothing.
use mathlib.Core.Path.{◌≡◌, refl, sym, ap, ap₂, ◌∙◌, subst}
use mathlib.Core.Bool.{Bool, true, false, not, cond}
use mathlib.Core.List.{List, [], ◌∷◌, ◌++◌}
use mathlib.Core.Logic.{◌⊎◌, inl, inr, ⊎_elim}
use Prim.Native.Nat.{ℕ, suc, ◌+◌, ◌<◌, ◌≤◌}
use native.Mathlib.Omega.{arith}
use lib.Dec.{T, T_not, not_T, eqb, eqb→eq}
use lib.ListN.{length, length-append}
use Rattle.meaning.specs.Lists.{◌∈◌}
use Rattle.meaning.specs.Expression.{Letter, Exp, letter, seq, alt, star, pipe, letters, own, size, rows, Ordered}
use Rattle.meaning.specs.Shape.{last, follow}
use Rattle.meaning.specs.Fit.{among}
use Rattle.meaning.specs.Positions.{has, under_way, busy}
use Rattle.meaning.specs.Table.{Table, is_pipe, row, laid}
use Rattle.meaning.proofs.ListLaws.{T_and, and_T, or-T, any-from, any-to, is_true, by-test, by_cond, same_truth}
use Rattle.meaning.proofs.OneWay.{Numbered, Closed}
use Rattle.meaning.proofs.Threads.{among-append, among-left, among-right, rest_has, own-here, own-there, one-own, Ends, seq-ends, alt-ends, star-ends, pipe-ends, seq-not-last, alt-not-last}
use Rattle.meaning.proofs.Walk.{a-row, ThreadRow, Shuts}
use Rattle.meaning.proofs.Rows.{Stands, laid-length}
use Rattle.monitor.specs.Threads.{thread_rows}
use Rattle.monitor.proofs.Stored.{front, rear}
use Rattle.monitor.proofs.RowWords.{laid-up}

-- ---- whether a letter goes on in what it stands in

-- letter n, an own one of e, goes on, where c tells whether a last one of e does
unfoldable pub goes : (c : Bool) → ℕ → Exp → Bool
goes c n (letter l) = c
goes c n (seq e f) = cond (has n e) (goes true n e) (goes c n f)
goes c n (alt e f) = cond (has n e) (goes c n e) (goes c n f)
goes c n (star e) = goes true n e
goes c n (pipe e f) = goes c n e

goes-true : (n : ℕ) (e : Exp) → T (goes true n e)
unfolding goes
goes-true n (letter l) = tt
goes-true n (seq e f) = by_cond (λ b. T b) (has n e) _ _ (λ h. goes-true n e) (λ h. goes-true n f)
goes-true n (alt e f) = by_cond (λ b. T b) (has n e) _ _ (λ h. goes-true n e) (λ h. goes-true n f)
goes-true n (star e) = goes-true n e
goes-true n (pipe e f) = goes-true n e

-- one that is not a last letter does
not-last-goes : (n : ℕ) (e : Exp) → T (among (own e) n) → Numbered e → T (not (last n e)) → T (goes false n e)
unfolding goes own last
not-last-goes n (letter l) o a z = absurd (T_not (eqb n l.number) z (one-own l n o))
not-last-goes n (seq e f) o a z = by_cond (λ b. T b) (has n e) _ _ (λ h. goes-true n e) (λ h. not-last-goes n f (own-there e f n h o) a.2 (seq-not-last n e f z).0)
not-last-goes n (alt e f) o a z =
    let (v, w) = alt-not-last n e f z in
    by_cond (λ b. T b) (has n e) _ _ (λ h. not-last-goes n e (own-here e f n a.0 h o) a.1 v) (λ h. not-last-goes n f (own-there e f n h o) a.2 w)
not-last-goes n (star e) o a z = goes-true n e
not-last-goes n (pipe e f) o a z = not-last-goes n e o a.1 z

-- one that is, and that nothing follows, does not
ends-not-goes : (n : ℕ) (e : Exp) → T (among (own e) n) → Numbered e → Ends n e → T (not (goes false n e))
unfolding goes own
ends-not-goes n (letter l) o a z = tt
ends-not-goes n (seq e f) o a z =
    let (v, w) = seq-ends n e f a.0 z in
    by_cond (λ b. T (not b)) (has n e) _ _ (λ h. absurd (T_not (has n e) v h)) (λ h. ends-not-goes n f (own-there e f n h o) a.2 w)
ends-not-goes n (alt e f) o a z =
    let (v, w) = alt-ends n e f a.0 z in
    by_cond (λ b. T (not b)) (has n e) _ _ (λ h. ends-not-goes n e (own-here e f n a.0 h o) a.1 (v h)) (λ h. ends-not-goes n f (own-there e f n h o) a.2 (w h))
ends-not-goes n (star e) o a z = absurd (star-ends n e z)
ends-not-goes n (pipe e f) o a z = ends-not-goes n e o a.1 (pipe-ends n e f z)

-- ---- the rows of threads

pub threads-long : (r t : ℕ) (c : Bool) (e : Exp) → length (thread_rows r t c e) ≡ size e
unfolding thread_rows size
threads-long r t c (letter l) = refl
threads-long r t c (seq e f) = length-append (thread_rows (suc r) t true e) (thread_rows (suc r + rows e) t c f) ∙ ap₂ ◌+◌ (threads-long (suc r) t true e) (threads-long (suc r + rows e) t c f)
threads-long r t c (alt e f) = length-append (thread_rows (suc r) t c e) (thread_rows (suc r + rows e) t c f) ∙ ap₂ ◌+◌ (threads-long (suc r) t c e) (threads-long (suc r + rows e) t c f)
threads-long r t c (star e) = threads-long (suc r) t true e
threads-long r t c (pipe e f) = length-append (thread_rows (suc r) t c e) (thread_rows (suc r + rows e) (suc r + rows e) false f) ∙ ap₂ ◌+◌ (threads-long (suc r) t c e) (threads-long (suc r + rows e) (suc r + rows e) false f)

-- v is 0, or the row of a thread among n rows behind row r
abbrev pub Inner : Table → (r n v : ℕ) → Type 0
Inner R r n v = (v ≡ 0) ⊎ ((r < v) × (v < r + n) × ThreadRow R v)

pub wider : (R : Table) (r n q m v : ℕ) → q ≤ r → r + n ≤ q + m → Inner R r n v → Inner R q m v
wider R r n q m v a b (inl z) = inl z
wider R r n q m v a b (inr (x, y, t)) = inr (omega (arith, a, x), omega (arith, b, y), t)

-- no own letter of two parts, and so of neither
no-left : (e f : Exp) (n : ℕ) → T (not (among (own e ++ own f) n)) → T (not (among (own e) n))
no-left e f n i = not_T (among (own e) n) (λ y. T_not (among (own e ++ own f) n) i (among-left (own e) (own f) n y))

no-right : (e f : Exp) (n : ℕ) → T (not (among (own e ++ own f) n)) → T (not (among (own f) n))
no-right e f n i = not_T (among (own f) n) (λ y. T_not (among (own e ++ own f) n) i (among-right (own e) (own f) n y))

module _ (R : Table) where
  abbrev pub Laid : (r up : ℕ) → Exp → Type 0
  Laid r up e = Stands R r (laid r up e)

  -- the rows of two operands
  pub two-laid : (r : ℕ) (e f : Exp) → Stands R (suc r) (laid (suc r) r e ++ laid (suc r + rows e) r f) → Laid (suc r) r e × Laid (suc r + rows e) r f
  two-laid r e f s = (
    front R (suc r) (laid (suc r) r e) (laid (suc r + rows e) r f) s,
    rear R (suc r) (suc r + rows e) (laid (suc r) r e) (laid (suc r + rows e) r f) (omega (arith, laid-length (suc r) r e)) s,
  )

-- tr has, for each letter, the row of the thread that it goes on in; the letters of e are numbered from k on
module _ (R : Table) (tr : ℕ → ℕ) where
  abbrev pub Told : (r t : ℕ) → (c : Bool) → (k : ℕ) → Exp → Type 0
  Told r t c k e = Stands tr k (thread_rows r t c e)

  -- of two operands of row r, what stands for each
  two-parts : (r t u : ℕ) (c d : Bool) (k : ℕ) (e f : Exp) → Stands tr k (thread_rows (suc r) t c e ++ thread_rows (suc r + rows e) u d f)
      → Told (suc r) t c k e × Told (suc r + rows e) u d (k + size e) f
  two-parts r t u c d k e f s = (
    front tr k (thread_rows (suc r) t c e) (thread_rows (suc r + rows e) u d f) s,
    rear tr k (k + size e) (thread_rows (suc r) t c e) (thread_rows (suc r + rows e) u d f) (ap (λ (z : ℕ). k + z) (sym (threads-long (suc r) t c e))) s,
  )

  -- an own letter of e has t, if it goes on
  pub own_row : (r t : ℕ) (c : Bool) (k : ℕ) (e : Exp) → Numbered e → Ordered k e → Told r t c k e → (n : ℕ) → T (among (own e) n) → tr n ≡ cond (goes c n e) t 0
  unfolding goes own thread_rows
  own_row r t c k (letter l) a o s n i = let p : n ≡ k = eqb→eq n l.number (one-own l n i) ∙ o in ap tr p ∙ s.0
  own_row r t c k (seq e f) a o s n i =
      let (x, y) = two-parts r t t true c k e f s in
      by_cond (λ b. tr n ≡ cond b t 0) (has n e) _ _
      (λ h. own_row (suc r) t true k e a.1 o.0 x n (own-here e f n a.0 h i)) (λ h. own_row (suc r + rows e) t c (k + size e) f a.2 o.1 y n (own-there e f n h i))
  own_row r t c k (alt e f) a o s n i =
      let (x, y) = two-parts r t t c c k e f s in
      by_cond (λ b. tr n ≡ cond b t 0) (has n e) _ _
      (λ h. own_row (suc r) t c k e a.1 o.0 x n (own-here e f n a.0 h i)) (λ h. own_row (suc r + rows e) t c (k + size e) f a.2 o.1 y n (own-there e f n h i))
  own_row r t c k (star e) a o s n i = own_row (suc r) t true k e a o s n i
  own_row r t c k (pipe e f) a o s n i = own_row (suc r) t c k e a.1 o.0 (two-parts r t (suc r + rows e) c false k e f s).0 n i

  -- the right operand of the `@` in row r
  thread-row : (r up : ℕ) (e f : Exp) → R r ≡ row is_pipe (suc r) (suc r + rows e) up → (R (suc r + rows e)).up ≡ r → ThreadRow R (suc r + rows e)
  thread-row r up e f p q = (
    λ z. let x : suc r + rows e ≡ r = sym z ∙ q in omega (arith, x),
    ap (λ i. (R i).kind) q ∙ ap (λ x. x.kind) p,
    λ z. let x : suc r + rows e ≡ suc r = z ∙ ap (λ i. (R i).left) q ∙ ap (λ x. x.left) p in let y = a-row e in omega (arith, x, y),
  )

  -- a letter of the thread f itself, or of one inside it
  in-thread : (r up : ℕ) (e f : Exp) → R r ≡ row is_pipe (suc r) (suc r + rows e) up → (R (suc r + rows e)).up ≡ r → (n : ℕ)
      → (T (among (own f) n) → tr n ≡ cond (goes false n f) (suc r + rows e) 0) → (T (not (among (own f) n)) → Inner R (suc r + rows e) (rows f) (tr n))
      → Inner R r (1 + rows e + rows f) (tr n)
  in-thread r up e f p q n g h = by-test (among (own f) n)
      (λ z. at (goes false n f) (g z))
      (λ z. wider R (suc r + rows e) (rows f) r (1 + rows e + rows f) (tr n) (omega arith) (omega arith) (h z))
    where
      at : (b : Bool) → tr n ≡ cond b (suc r + rows e) 0 → Inner R r (1 + rows e + rows f) (tr n)
      at true x = inr (omega (arith, x), (let y = a-row f in omega (arith, x, y)), subst (ThreadRow R) (sym x) (thread-row r up e f p q))
      at false x = inl x

  -- a letter of one of two operands
  two-inner : (r : ℕ) (e f : Exp) (n : ℕ) → T (among (letters e ++ letters f) n) → (T (has n e) → Inner R (suc r) (rows e) (tr n)) → (T (has n f) → Inner R (suc r + rows e) (rows f) (tr n))
      → Inner R r (1 + rows e + rows f) (tr n)
  two-inner r e f n h x y = by-test (has n e)
      (λ b. wider R (suc r) (rows e) r (1 + rows e + rows f) (tr n) (omega arith) (omega arith) (x b))
      (λ b. wider R (suc r + rows e) (rows f) r (1 + rows e + rows f) (tr n) (omega arith) (omega arith) (y (rest_has (letters e) (letters f) n h b)))

  -- a letter of a thread inside e has the row of such a thread, or none
  pub inner-row : (r up t : ℕ) (c : Bool) (k : ℕ) (e : Exp) → Numbered e → Ordered k e → Laid R r up e → Told r t c k e → (n : ℕ) → T (has n e) → T (not (among (own e) n)) → Inner R r (rows e) (tr n)
  unfolding own letters rows thread_rows laid
  inner-row r up t c k (letter l) a o u s n h i = absurd (T_not (among (l ∷ []) n) i h)
  inner-row r up t c k (seq e f) a o u s n h i =
      let (x, y) = two-parts r t t true c k e f s in
      let (v, w) = two-laid R r e f u.1 in
      two-inner r e f n h
      (λ b. inner-row (suc r) r t true k e a.1 o.0 v x n b (no-left e f n i)) (λ b. inner-row (suc r + rows e) r t c (k + size e) f a.2 o.1 w y n b (no-right e f n i))
  inner-row r up t c k (alt e f) a o u s n h i =
      let (x, y) = two-parts r t t c c k e f s in
      let (v, w) = two-laid R r e f u.1 in
      two-inner r e f n h
      (λ b. inner-row (suc r) r t c k e a.1 o.0 v x n b (no-left e f n i)) (λ b. inner-row (suc r + rows e) r t c (k + size e) f a.2 o.1 w y n b (no-right e f n i))
  inner-row r up t c k (star e) a o u s n h i =
      wider R (suc r) (rows e) r (1 + rows e) (tr n) (omega arith) (omega arith) (inner-row (suc r) r t true k e a o u.1 s n h i)
  inner-row r up t c k (pipe e f) a o u s n h i =
      let (x, y) = two-parts r t (suc r + rows e) c false k e f s in
      let (v, w) = two-laid R r e f u.1 in
      by-test (has n e)
      (λ b. wider R (suc r) (rows e) r (1 + rows e + rows f) (tr n) (omega arith) (omega arith) (inner-row (suc r) r t c k e a.1 o.0 v x n b i))
      (λ b. in-thread r up e f u.0 (laid-up R (suc r + rows e) r f w) n
      (own_row (suc r + rows e) (suc r + rows e) false (k + size e) f a.2 o.1 y n)
      (inner-row (suc r + rows e) r (suc r + rows e) false (k + size e) f a.2 o.1 w y n (rest_has (letters e) (letters f) n h b)))

  -- any letter of e has no row, t, or one behind r
  abbrev Spans : (r t n v : ℕ) → Type 0
  Spans r t n v = (v ≡ 0) ⊎ (v ≡ t) ⊎ ((r < v) × (v < r + n))

  spans : (r up t : ℕ) (c : Bool) (k : ℕ) (e : Exp) → Numbered e → Ordered k e → Laid R r up e → Told r t c k e → (n : ℕ) → T (has n e) → Spans r t (rows e) (tr n)
  spans r up t c k e a o u s n h = by-test (among (own e) n)
      (λ z. at (goes c n e) (own_row r t c k e a o s n z))
      (λ z. ⊎_elim inl (λ (x, y, w). inr (inr (x, y))) (inner-row r up t c k e a o u s n h z))
    where
      at : (b : Bool) → tr n ≡ cond b t 0 → Spans r t (rows e) (tr n)
      at true x = inr (inl x)
      at false x = inl x

  -- so a row that is none of these is not its
  elsewhere : (r t n v w : ℕ) → Spans r t n w → w ≡ v → 0 < v → (v ≡ t → ⊥) → (r < v → v < r + n → ⊥) → ⊥
  elsewhere r t n v w (inl x) p z a b = omega (arith, x, p, z)
  elsewhere r t n v w (inr (inl x)) p z a b = a (sym p ∙ x)
  elsewhere r t n v w (inr (inr (x, y))) p z a b = b (omega (arith, x, p)) (omega (arith, y, p))

  -- ---- S tells the rows that are shut, ns the letters that are active

  module _ (S : ℕ → Bool) (ns : List ℕ) where
    -- row v is that of an active letter of ls
    abbrev pub Has : List Letter → ℕ → Type 0
    Has ls v = (n : ℕ) × (n ∈ ns) × (tr n ≡ v) × T (among ls n)

    -- a row behind r that is shut is that of an active letter of e
    abbrev ShutFrom : (r : ℕ) → Exp → Type 0
    ShutFrom r e = (v : ℕ) → r < v → v < r + rows e → T (S v) → Has (letters e) v

    -- and the row that an active letter has is shut
    abbrev ShutBy : Type 0
    ShutBy = (n v : ℕ) → n ∈ ns → (v ≡ 0 → ⊥) → tr n ≡ v → T (S v)

    -- of two parts, the letter is not in the other one
    in_left : (ls ms : List Letter) (v : ℕ) → ((n : ℕ) → T (among ms n) → tr n ≡ v → ⊥) → Has (ls ++ ms) v → Has ls v
    in_left ls ms v out (n, i, p, h) = (n, i, p, ⊎_elim (λ x. x) (λ x. absurd (out n x p)) (or-T (among ls n) (among ms n) (subst T (among-append ls ms n) h)))

    in_right : (ls ms : List Letter) (v : ℕ) → ((n : ℕ) → T (among ls n) → tr n ≡ v → ⊥) → Has (ls ++ ms) v → Has ms v
    in_right ls ms v out (n, i, p, h) = (n, i, p, ⊎_elim (λ x. absurd (out n x p)) (λ x. x) (or-T (among ls n) (among ms n) (subst T (among-append ls ms n) h)))

    -- the thread f in row q is shut exactly if it is busy
    thread-shut : (q up k : ℕ) (f : Exp) → Numbered f → ((n : ℕ) (x : Letter) → T (last n f) → x ∈ follow n f → ⊥) → Ordered k f → Laid R q up f → Told q q false k f → 0 < q
        → (T (S q) → Has (letters f) q) → ShutBy → S q ≡ busy ns f
    thread-shut q up k f a z o u s pos g d = same_truth (S q) (busy ns f)
        (λ w. let (n, i, p, h) = g w in any-from (λ m. under_way m f) i (under n p h))
        (λ w. let (n, i, v) = any-to (λ m. under_way m f) ns w in
        let (x, y) = and_T (among (own f) n) (not (last n f)) v in
        d n q i (λ e. omega (arith, e, pos)) (own_row q q false k f a o s n x ∙ ap (λ b. cond b q 0) (is_true (goes false n f) (not-last-goes n f x a y))))
      where
        at : (n : ℕ) (b : Bool) → goes false n f ≡ b → tr n ≡ cond b q 0 → tr n ≡ q → T (goes false n f)
        at n true e x p = subst T (sym e) tt
        at n false e x p = absurd (omega (arith, x, p, pos))

        under : (n : ℕ) → tr n ≡ q → T (has n f) → T (under_way n f)
        under n p h = by-test (among (own f) n)
            (λ x. T_and (among (own f) n) (not (last n f)) x (not_T (last n f) (λ l. T_not (goes false n f) (ends-not-goes n f x a (l, λ y. z n y l))
            (at n (goes false n f) refl (own_row q q false k f a o s n x) p))))
            (λ x. absurd (⊎_elim (λ y. omega (arith, y, p, pos)) (λ (y, m, w). omega (arith, y, p)) (inner-row q up q false k f a o u s n h x)))

    -- a row of two operands that is shut: one behind the left operand's first row is that of a letter of the left one, one from the right operand's on that of a letter of the right one
    two-shut : (r t t' : ℕ) (c c' : Bool) (k : ℕ) (e f : Exp) → Numbered e → Numbered f → Ordered k e → Ordered (k + size e) f → Laid R (suc r) r e → Laid R (suc r + rows e) r f
        → Told (suc r) t c k e → Told (suc r + rows e) t' c' (k + size e) f → t ≤ r → ((v : ℕ) → suc r < v → v < suc r + rows e → v ≡ t' → ⊥)
        → ((v : ℕ) → r < v → v < r + (1 + rows e + rows f) → T (S v) → Has (letters e ++ letters f) v)
        → ShutFrom (suc r) e × ((v : ℕ) → suc r + rows e ≤ v → v < suc r + rows e + rows f → T (S v) → Has (letters f) v)
    two-shut r t t' c c' k e f a a' o o' u u' s s' b far g = (
      λ v p q j. in_left (letters e) (letters f) v
          (λ n h m. elsewhere _ t' (rows f) v (tr n) (spans (suc r + rows e) r t' c' (k + size e) f a' o' u' s' n h) m (omega (arith, p)) (far v p q) (λ l _. omega (arith, l, q)))
          (g v (omega (arith, p)) (omega (arith, q)) j),
      λ v p q j. in_right (letters e) (letters f) v
          (λ n h m. elsewhere _ t (rows e) v (tr n) (spans (suc r) r t c k e a o u s n h) m (omega (arith, p)) (λ l. omega (arith, l, p, b)) (λ _ l. omega (arith, l, p)))
          (g v (omega (arith, p)) (omega (arith, q)) j),
    )

    pub shuts : (r up t : ℕ) (c : Bool) (k : ℕ) (e : Exp) → Numbered e → Closed e → Ordered k e → Laid R r up e → Told r t c k e → t ≤ r → ShutFrom r e → ShutBy → Shuts S R (busy ns) r e
    unfolding letters rows thread_rows laid
    shuts r up t c k (letter l) a z o u s b g d = tt
    shuts r up t c k (seq e f) a z o u s b g d =
        let (x, y) = two-parts r t t true c k e f s in
        let (v, w) = two-laid R r e f u.1 in
        let (h, i) = two-shut r t t true c k e f a.1 a.2 o.0 o.1 v w x y b (λ v p q l. omega (arith, l, p, b)) g in
        rw u.0 (
          shuts (suc r) r t true k e a.1 z.0 o.0 v x (omega (arith, b)) h d,
          shuts (suc r + rows e) r t c (k + size e) f a.2 z.1 o.1 w y (omega (arith, b)) (λ v p. i v (omega (arith, p))) d,
        )
    shuts r up t c k (alt e f) a z o u s b g d =
        let (x, y) = two-parts r t t c c k e f s in
        let (v, w) = two-laid R r e f u.1 in
        let (h, i) = two-shut r t t c c k e f a.1 a.2 o.0 o.1 v w x y b (λ v p q l. omega (arith, l, p, b)) g in
        rw u.0 (
          shuts (suc r) r t c k e a.1 z.0 o.0 v x (omega (arith, b)) h d,
          shuts (suc r + rows e) r t c (k + size e) f a.2 z.1 o.1 w y (omega (arith, b)) (λ v p. i v (omega (arith, p))) d,
        )
    shuts r up t c k (star e) a z o u s b g d =
        rw u.0 (shuts (suc r) r t true k e a z o u.1 s (omega (arith, b)) (λ i p q j. g i (omega (arith, p)) (omega (arith, q)) j) d)
    shuts r up t c k (pipe e f) a z o u s b g d =
        let (x, y) = two-parts r t (suc r + rows e) c false k e f s in
        let (v, w) = two-laid R r e f u.1 in
        let (h, i) = two-shut r t (suc r + rows e) c false k e f a.1 a.2 o.0 o.1 v w x y b (λ v p q l. omega (arith, l, q)) g in
        rw u.0 (
          thread-shut (suc r + rows e) r (k + size e) f a.2 z.0 o.1 w y (omega arith) (i (suc r + rows e) (omega arith) (omega (arith, a-row f))) d,
          shuts (suc r) r t c k e a.1 z.1 o.0 v x (omega (arith, b)) h d,
          shuts (suc r + rows e) r (suc r + rows e) false (k + size e) f a.2 z.2 o.1 w y (omega arith) (λ v p. i v (omega (arith, p))) d,
        )

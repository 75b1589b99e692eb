-- On the watch of an accepted text, after any calls, the walk of a tick visits at most three times as many rows as the tick touches (meaning's Touched). Assumes nothing.
use mathlib.Core.Path.{◌≡◌, refl, ap, ◌∙◌, subst, fun_ext}
use mathlib.Core.Bool.{Bool, true, false, cond}
use mathlib.Core.List.{List, [], ◌∷◌}
use Prim.Native.Nat.{ℕ, suc, ◌+◌, ◌*◌, ◌<◌, ◌≤◌}
use native.Mathlib.Omega.{arith}
use lib.Dec.{eqb}
use lib.ListN.{length, get_or}
use Rattle.meaning.specs.Lists.{◌∈◌, total, member}
use Rattle.meaning.specs.Answers.{value}
use Rattle.meaning.specs.Expression.{Exp, letter, seq, alt, star, pipe, size, rows, renumbered, Ordered}
use Rattle.meaning.specs.Numbered.{numbered_from}
use Rattle.meaning.specs.Fit.{Tick}
use Rattle.meaning.specs.Touched.{touched}
use Rattle.meaning.specs.Positions.{Positions, at_start, on}
use Rattle.meaning.specs.Calls.{Call, standing}
use Rattle.meaning.specs.Opening.{Opened, open_text}
use Rattle.meaning.specs.Table.{Row, Table, Holds, laid, laid_all, no_row}
use Rattle.meaning.proofs.ListLaws.{here, there}
use Rattle.meaning.proofs.Walk.{a-row}
use Rattle.meaning.proofs.Rows.{Stands, laid-length}
use Rattle.meaning.proofs.Monitor.{Accepted, same-member}
use Rattle.meaning.proofs.Sets.{Alike}
use Rattle.meaning.proofs.Occupied.{Single, Steady, steady-after}
use Rattle.meaning.proofs.Watch.{Tracked}
use Rattle.meaning.proofs.Numbering.{renumbered-size, renumbered-rows, renumbered-ordered}
use Rattle.meaning.proofs.Shifted.{shift_positions, shift_all, renumbered-shifted, renumbered-solid}
use Rattle.meaning.proofs.Counting.{asked_count, own_place, sums_after}
use Rattle.meaning.proofs.CountingLaws.{sums_none, asked-shifted}
use Rattle.meaning.proofs.TouchedCount.{count_at, counts_at, touched-tracked}
use Rattle.meaning.proofs.Spent.{spent_after, spent-most, spent-same, spent-after-shifted}
use Rattle.meaning.proofs.Accept.{accept-all}
use Rattle.meaning.proofs.Openings.{all_read, all-accepted}
use Rattle.words.specs.Words.{part0}
use Rattle.rules.specs.Watches.{watch_of}
use Rattle.rules.specs.declared.Watch.{Watch}
use Rattle.counts.specs.Counts.{nullable_in, costs_down}
use Rattle.monitor.specs.Letters.{Given}
use Rattle.monitor.specs.Ticks.{Layout, within, monitor_goes, shut_busy, empty_memory}
use Rattle.monitor.specs.Visits.{monitors_visits, visits_within}
use Rattle.monitor.specs.Calls.{given_of, layout_of, visits_on, watch_after_all}
use Rattle.monitor.proofs.Memory.{begun}
use Rattle.monitor.proofs.Going.{marked_from, MarksAre}
use Rattle.monitor.proofs.Moves.{MarksAll}
use Rattle.monitor.proofs.Stored.{stands_self, front, rear}
use Rattle.monitor.proofs.ShutRows.{marked, same_met}
use Rattle.monitor.proofs.Numbered.{program_of}
use Rattle.monitor.proofs.RowWords.{word_of, kind-is, left_is, up_is}
use Rattle.monitor.proofs.LetterRows.{HeldAll}
use Rattle.monitor.proofs.Program.{Counted, LaidFrom, text-counted, table_of, program-held, program-laid, words_right, monitors-counted, within_same}
use Rattle.monitor.proofs.CountRows.{costs-for, operands}
use Rattle.monitor.proofs.VisitedRows.{Sane, begun-sane, RowIs, Built, asked-some, monitor-few}
use Rattle.monitor.proofs.Calls.{marks-right, watch-held}

-- ---- one monitor: what its marks may spend is what its positions touch

module _ (K : List ℕ) (i l : ℕ) (m : Exp) (o : Ordered 0 m) (ac : Accepted m) where
  -- its marked letters are the positions ns, the same set as ks, which has one letter a thread at most
  spent-few : (ns ks : List ℕ) → marked_from K (size m) l ≡ shift_all l ns → ((n : ℕ) → member n ks ≡ member n ns) → Single m ks
      → spent_after (marked K) (renumbered l m) ≤ 3 * sums_after (λ n. member n ns) m
  spent-few ns ks e same s =
      let p = ap (spent_after (marked K)) (renumbered-shifted l l 0 m (omega arith) o) ∙ spent-after-shifted l (marked K) m
      ∙ spent-same (λ n. marked K (l + n)) (λ n. member n ns) m (own_place m) 0 (same_met K l m o ns e) in
      let q = subst (λ (act : ℕ → Bool). spent_after act m ≤ 3 * sums_after act m) (fun_ext same) (spent-most m ac.solid.1 ac.numbered ks s) in
      omega (arith, p, q)

  -- at its start it is asked, otherwise it spends
  monitor-spent : (x y : Positions) → Alike x y → Steady m y → MarksAre K i (size m) l (shift_positions l x)
      → cond (eqb (get_or K (256 + i) 0) 0) 0 (1 + asked_count (renumbered l m)) + spent_after (marked K) (renumbered l m) ≤ 3 * count_at m x
  monitor-spent at_start y h s (a, b) =
      rw a
      (let p = ap asked_count (renumbered-shifted l l 0 m (omega arith) o) ∙ asked-shifted l m in
      let q = spent-few [] [] b (λ n. refl) (record { line = omega arith; each = λ f j. omega arith }) in
      let z = sums_none m (own_place m) false in
      let w = asked-some m in
      omega (arith, p, q, z, w))
  monitor-spent (on ns) at_start h s (a, b) = absurd h
  monitor-spent (on ns) (on ks) h s (a, b) = rw a (let q = spent-few ns ks b (same-member ks ns h.1 h.0) s.1 in omega (arith, q))

-- ---- the rows of monitors stand in the table as they are laid

module _ (g : Given) (R : Table) (n : ℕ) (few : n ≤ 1024) (words : (r : ℕ) → r < n → get_or g.table r 0 ≡ word_of (R r)) (L : List ℕ) where
  -- by its cost, a row is nullable
  abbrev nul : ℕ → Bool
  nul r = nullable_in (get_or (costs_down g.table n n) r 0)

  -- the table holds e from row r on, and L tells its letters' rows
  abbrev Held : (r : ℕ) → Exp → Type 0
  Held r e = Holds R (λ i. get_or L i 0) r e

  -- the row of e, of kind k
  row_is : (k r up : ℕ) (e : Exp) → r + rows e ≤ n → up < n → Stands R r (laid r up e) → part0 (get_or g.table r 0) ≡ k → RowIs g nul L k r up e
  row_is k r up e h u s a =
      let z = a-row e in
      record {
        below = omega (arith, h, z, few);
        kind = a;
        above = up_is R g.table n few words r up e (omega (arith, h, z)) u s;
        null = (costs-for g.table R n few words r up e h s).1;
      }

  -- its rows are those of e
  built : (r up : ℕ) (e : Exp) → r + rows e ≤ n → up < n → Stands R r (laid r up e) → Held r e → Built g nul L r up e
  unfolding laid rows
  built r up (letter l) h u s d =
      (row_is 0 r up (letter l) h u s (kind-is 0 (0 + l.number) 0 up (words r (omega (arith, h)) ∙ ap word_of s.0) (omega arith)), d.1)
  built r up (seq e f) h u s d =
      let q = operands g.table R n few words 1 r up e f (omega arith) (omega arith) h (ap word_of s.0) s.1 in (
        row_is 1 r up (seq e f) h u s q.kind,
        (q.left, q.right),
        built (suc r) r e (omega (arith, h)) (omega (arith, h)) q.e-laid (subst (λ (y : Row). Held y.left e) s.0 d.4),
        built (suc r + rows e) r f (omega (arith, h)) (omega (arith, h)) q.f-laid (subst (λ (y : Row). Held y.right f) s.0 d.5),
      )
  built r up (alt e f) h u s d =
      let q = operands g.table R n few words 2 r up e f (omega arith) (omega arith) h (ap word_of s.0) s.1 in (
        row_is 2 r up (alt e f) h u s q.kind,
        (q.left, q.right),
        built (suc r) r e (omega (arith, h)) (omega (arith, h)) q.e-laid (subst (λ (y : Row). Held y.left e) s.0 d.3),
        built (suc r + rows e) r f (omega (arith, h)) (omega (arith, h)) q.f-laid (subst (λ (y : Row). Held y.right f) s.0 d.4),
      )
  built r up (star e) h u s d =
      let w = ap word_of s.0 in
      let i : r < n = omega (arith, h) in (
        row_is 3 r up (star e) h u s (kind-is 3 (suc r) 0 up (words r i ∙ w) (omega arith)),
        left_is 3 (suc r) 0 up (words r i ∙ w) (omega (arith, h, few)),
        built (suc r) r e (omega (arith, h)) i s.1 (subst (λ (y : Row). Held y.left e) s.0 d.2),
      )
  built r up (pipe e f) h u s d =
      let q = operands g.table R n few words 4 r up e f (omega arith) (omega arith) h (ap word_of s.0) s.1 in (
        row_is 4 r up (pipe e f) h u s q.kind,
        (q.left, q.right),
        built (suc r) r e (omega (arith, h)) (omega (arith, h)) q.e-laid (subst (λ (y : Row). Held y.left e) s.0 d.4),
        built (suc r + rows e) r f (omega (arith, h)) (omega (arith, h)) q.f-laid (subst (λ (y : Row). Held y.right f) s.0 d.5),
      )

  -- ---- all monitors, from number i, row r and letter l on

  module _ (v : Watch) (same : v.places ≡ L) (K : List ℕ) (ts : List Tick) where
    monitors-few : (i r l : ℕ) (ms : List Exp) (xs : List Positions) → ((m : Exp) → m ∈ ms → Ordered 0 m × Accepted m) → r + total rows ms ≤ n
        → Stands R r (laid_all r (numbered_from l ms)) → HeldAll R (λ i. get_or L i 0) r (numbered_from l ms) → LaidFrom v i r l (numbered_from l ms) → MarksAll K i l ms xs → Tracked ms ts xs
        → (M : List ℕ) → Sane g nul M → monitors_visits g (layout_of v) K (length ms) i M ≤ 3 * counts_at ms xs
    unfolding numbered_from MarksAll counts_at monitors_visits laid_all renumbered
    monitors-few i r l [] xs o h s d a k t M p = omega arith
    monitors-few i r l (m ∷ ms) [] o h s d a k t M p = absurd k
    monitors-few i r l (m ∷ ms) (x ∷ xs) o h s d a k t M p =
        let (w, ac) = o m (here refl) in
        let (y, u, al) = t.0 in
        let q = renumbered-rows l m in
        let z = renumbered-size l m in
        let i' : r < n = (let c = a-row m in omega (arith, h, c)) in
        let b = built r r (renumbered l m) (omega (arith, h, q)) i' (front R r (laid r r (renumbered l m)) (laid_all (r + rows (renumbered l m)) (numbered_from (l + size m) ms)) s) d.0 in
        let (c, e) = monitor-few g nul L r (renumbered l m) b (renumbered-solid l (star m) ac.solid) (layout_of v) same K i l (renumbered-ordered l m) a.0.own a.0.first a.0.end M p in
        let f = monitor-spent K i l m w ac x y al (steady-after m ac ts at_start y tt u) k.0 in
        let j = behind (monitor_goes g (layout_of v) K i M).yes (λ N n. monitors-few (suc i) (r + rows m) (l + size m) ms xs (λ y j. o y (there j)) (omega (arith, h))
        (subst (λ (x : ℕ). Stands R (r + x) (laid_all (r + x) (numbered_from (l + size m) ms))) q
        (rear R r (r + rows (renumbered l m)) (laid r r (renumbered l m)) (laid_all (r + rows (renumbered l m)) (numbered_from (l + size m) ms)) (omega (arith, laid-length r r (renumbered l m))) s))
        (subst (λ (x : ℕ). HeldAll R (λ i. get_or L i 0) (r + x) (numbered_from (l + size m) ms)) q d.2)
        (subst (λ (y : ℕ). LaidFrom v (suc i) (r + rows m) (l + y) (numbered_from (l + size m) ms)) z
        (subst (λ (x : ℕ). LaidFrom v (suc i) (r + x) (l + size (renumbered l m)) (numbered_from (l + size m) ms)) q a.1)) k.1 t.1 N n) e in
        omega (arith, c, f, j)
      where
        behind : (b : Bool) → ((N : List ℕ) → Sane g nul N → monitors_visits g (layout_of v) K (length ms) (suc i) N ≤ 3 * counts_at ms xs) → Sane g nul (monitor_goes g (layout_of v) K i M).memory
            → cond b (monitors_visits g (layout_of v) K (length ms) (suc i) (monitor_goes g (layout_of v) K i M).memory) 0 ≤ 3 * counts_at ms xs
        behind true h s = h (monitor_goes g (layout_of v) K i M).memory s
        behind false h s = omega arith

-- ---- the watch of an accepted text

module _ (text : List ℕ) (o : Opened) (e : open_text text ≡ value o) where
  c : Counted o
  c = text-counted text o e

  -- where the marks are the positions of a machine that tracks the ticks, with any store values and words
  visits-tracked : (K : List ℕ) (xs : List Positions) (ts : List Tick) → MarksAll K 0 0 o.monitors xs → Tracked o.monitors ts xs → (σ ws : List ℕ)
      → let v = watch_of (value o) in visits_within (given_of v σ ws) (within (layout_of v)) K ≤ 3 * touched o.monitors ts
  visits-tracked K xs ts h t σ ws =
      let v = watch_of (value o) in
      let g = given_of v σ ws in
      let M = shut_busy g K v.letters empty_memory in
      let p = monitors-few g (table_of o) o.row_count (let f = c.few_rows in omega (arith, f)) (words_right o c) v.places v refl K ts 0 0 0 o.monitors xs
      (λ m i. ((all_read text o e m i).0, all-accepted text o e m i)) (let r = c.rows_are in omega (arith, r)) (stands_self no_row (laid_all 0 (program_of o))) (program-held o c) (program-laid o c) h t
      M (begun-sane g _ M (begun g K v.letters)) in
      let q = ap (λ (y : Layout). visits_within g y K) (within_same o c) ∙ ap (λ (k : ℕ). monitors_visits g (layout_of v) K k 0 M) (monitors-counted o c) in
      let r = touched-tracked o.monitors (accept-all o.monitors (all_read text o e)) ts xs t in
      omega (arith, p, q, r)

  -- After any calls, the walk of a tick with any word visits at most three times as many rows as the tick touches.
  pub visits-few : (cs : List Call) (w : ℕ)
      → visits_on (watch_after_all (watch_of (value o)) cs) w ≤ 3 * touched o.monitors (standing o.limits o.monitors o.initial o.wires cs).inner.ticks
  visits-few cs w =
      let v = watch_of (value o) in
      let u = watch_after_all v cs in
      let (xs, k, t) = marks-right text o e cs in
      let p = ap (λ (z : Watch). visits_on z w) (watch-held text o e cs).tables in
      let q = visits-tracked u.marks xs _ k t u.values (w ∷ u.before ∷ []) in
      omega (arith, p, q)

-- The number that a take tells on the watch of an accepted text is the definition's (meaning's Touched), for every list of calls. Assumes nothing.
use mathlib.Core.Path.{◌≡◌, refl, sym, ap, ◌∙◌, subst}
use mathlib.Core.Bool.{false, cond}
use mathlib.Core.List.{List, [], ◌∷◌, map}
use mathlib.Core.Logic.{⊎_elim}
use Prim.Native.Nat.{ℕ, zero, suc, ◌+◌, ◌*◌, ◌<◌, ◌≤◌, min}
use native.Mathlib.Omega.{arith}
use lib.Dec.{T, eqb}
use lib.ListN.{length, take as up_to, get_or}
use Rattle.meaning.specs.Lists.{◌∈◌, total, member}
use Rattle.meaning.specs.Answers.{value}
use Rattle.meaning.specs.Expression.{Exp, size, rows, renumbered, Ordered}
use Rattle.meaning.specs.Numbered.{numbered_from}
use Rattle.meaning.specs.Fit.{Tick}
use Rattle.meaning.specs.Touched.{touched}
use Rattle.meaning.specs.Positions.{has, Positions, at_start, on}
use Rattle.meaning.specs.Calls.{Call, look, take, looked, reply_in, touched_by, ok, Tells, standing, AllRightly, AllAnswered}
use Rattle.meaning.specs.Opening.{Opened, open_text}
use Rattle.meaning.proofs.ListLaws.{here, there, no-∈, cons-∈}
use Rattle.meaning.proofs.Monitor.{Accepted}
use Rattle.meaning.proofs.Watch.{Tracked}
use Rattle.meaning.proofs.Shifted.{shift_positions, shift_all, renumbered-shifted}
use Rattle.meaning.proofs.Counting.{asked_count, own_place, sums_after}
use Rattle.meaning.proofs.CountingLaws.{sums_same, sums_none, asked-shifted, after-shifted}
use Rattle.meaning.proofs.TouchedCount.{count_at, counts_at, touched-tracked, touched-most, alone-most-from}
use Rattle.meaning.proofs.Accept.{accept-all}
use Rattle.meaning.proofs.Calls.{replies-rightly}
use Rattle.meaning.proofs.Openings.{all_read, all-accepted}
use Rattle.rules.specs.Watches.{watch_of}
use Rattle.rules.specs.declared.Watch.{Watch}
use Rattle.counts.specs.Counts.{costs_of, places_up, counts_of}
use Rattle.monitor.specs.Tally.{counts, touched_of}
use Rattle.monitor.specs.Calls.{reply_of, touched_on, answer_of, answers_of, replies_of, watch_after_call, watch_after_all}
use Rattle.monitor.proofs.Going.{marked_from, MarksAre}
use Rattle.monitor.proofs.Moves.{MarksAll}
use Rattle.monitor.proofs.ShutRows.{marked, same_met}
use Rattle.monitor.proofs.Numbered.{program_of}
use Rattle.monitor.proofs.Program.{Counted, text-counted, in_order, program-length, program-letters, monitors-counted, letters-counted, program-laid}
use Rattle.monitor.proofs.TouchedLetters.{start_counts, letters-touched, starts-touched}
use Rattle.monitor.proofs.CountRows.{counts-stored}
use Rattle.monitor.proofs.Calls.{calls-answered, marks-right, watch-held}

-- ---- one monitor

module _ (K : List ℕ) where
  -- the letters of a monitor that are marked, numbered from l on, are its positions ns
  module _ (l : ℕ) (m : Exp) (o : Ordered 0 m) (ns : List ℕ) (e : marked_from K (size m) l ≡ shift_all l ns) where
    sums-marked : sums_after (marked K) (renumbered l m) ≡ sums_after (λ n. member n ns) m
    sums-marked =
        ap (sums_after (marked K)) (renumbered-shifted l l 0 m (omega arith) o) ∙ after-shifted l (marked K) m
        ∙ sums_same (λ n. marked K (l + n)) (λ n. member n ns) m (own_place m) false (same_met K l m o ns e)

  -- what is counted for it is what its positions touch
  one-counted : (i l : ℕ) (m : Exp) (x : Positions) → Ordered 0 m → MarksAre K i (size m) l (shift_positions l x)
      → cond (eqb (get_or K (256 + i) 0) 0) 0 (asked_count (renumbered l m)) + sums_after (marked K) (renumbered l m) ≡ count_at m x
  one-counted i l m at_start o (a, b) =
      rw a
      (let p = ap asked_count (renumbered-shifted l l 0 m (omega arith) o) ∙ asked-shifted l m in
      let q = sums-marked l m o [] b ∙ sums_none m (own_place m) false in
      omega (arith, p, q))
  one-counted i l m (on ns) o (a, b) = rw a (let q = sums-marked l m o ns b in omega (arith, q))

  -- ---- all monitors

  pub all-counted : (i l : ℕ) (ms : List Exp) (xs : List Positions) → ((m : Exp) → m ∈ ms → Ordered 0 m) → MarksAll K i l ms xs
      → start_counts K i (numbered_from l ms) + total (λ m. sums_after (marked K) m) (numbered_from l ms) ≡ counts_at ms xs
  unfolding numbered_from MarksAll counts_at
  all-counted i l [] xs o h = refl
  all-counted i l (m ∷ ms) [] o h = absurd h
  all-counted i l (m ∷ ms) (x ∷ xs) o h =
      let p = one-counted i l m x (o m (here refl)) h.0 in
      let q = all-counted (suc i) (l + size m) ms xs (λ y j. o y (there j)) h.1 in
      omega (arith, p, q)

-- ---- a list of calls on any watch

-- the answer to a call is that of the watch that the calls before it left
answers_at : (v : Watch) (cs : List Call) (n : ℕ) → n < length cs → get_or (answers_of v cs) n (looked ok) ≡ answer_of (watch_after_all v (up_to n cs)) (get_or cs n (take 0))
unfolding answers_of watch_after_all
answers_at v [] n h = absurd (omega (arith, h))
answers_at v (c ∷ cs) zero h = refl
answers_at v (c ∷ cs) (suc n) h = answers_at (watch_after_call v c) cs n (omega (arith, h))

-- a call on a watch on which a tick touches n rows tells that
tells : (u : Watch) (n : ℕ) → touched_on u ≡ n → (c : Call) → Tells n c (answer_of u c)
tells u n p (look w) = tt
tells u n p (take w) = ap (touched_by (reply_of u w)) p

-- without the numbers they are the replies
pub replies-in : (v : Watch) (cs : List Call) → map reply_in (answers_of v cs) ≡ replies_of v cs
unfolding answers_of replies_of
replies-in v [] = refl
replies-in v (look w ∷ cs) = ap (λ rs. reply_of v w ∷ rs) (replies-in v cs)
replies-in v (take w ∷ cs) = ap (λ rs. reply_of v w ∷ rs) (replies-in (watch_after_call v (take w)) cs)

-- ---- the watch of an accepted text

-- of monitors numbered over all of them
each-bounded : (l : ℕ) (ms : List Exp) → ((m : Exp) → m ∈ ms → Ordered 0 m × Accepted m × (2 * rows m ≤ 65535)) → (m : Exp) → m ∈ numbered_from l ms
    → (n : ℕ) → T (has n m) → sums_after (λ k. eqb k n) m ≤ 65535
unfolding numbered_from
each-bounded l [] h m i n t = absurd (no-∈ i)
each-bounded l (k ∷ ms) h m i n t = ⊎_elim
    (λ p.
    let (o, a, b) = h k (here refl) in
    let q = alone-most-from l k o a n (subst (λ z. T (has n z)) p t) in
    subst (λ z. sums_after (λ j. eqb j n) z ≤ 65535) (sym p) (omega (arith, b, q)))
    (λ j. each-bounded (l + size k) ms (λ z u. h z (there u)) m j n t)
    (cons-∈ i)

rows_in_lem : (ms : List Exp) (m : Exp) → m ∈ ms → rows m ≤ total rows ms
rows_in_lem [] m i = absurd (no-∈ i)
rows_in_lem (k ∷ ms) m i = ⊎_elim (λ p. let q = ap rows p in omega (arith, q)) (λ j. let h = rows_in_lem ms m j in omega (arith, h)) (cons-∈ i)

module _ (text : List ℕ) (o : Opened) (e : open_text text ≡ value o) where
  c : Counted o
  c = text-counted text o e

  few_rows : 2 * total rows o.monitors ≤ 2048
  few_rows = let a = c.rows_are in let b = c.few_rows in omega (arith, a, b)

  ordered : (m : Exp) → m ∈ o.monitors → Ordered 0 m
  ordered m i = (all_read text o e m i).0

  -- where the marks are the positions of a machine that tracks the ticks
  counted-right : (K : List ℕ) (xs : List Positions) (ts : List Tick) → MarksAll K 0 0 o.monitors xs → Tracked o.monitors ts xs
      → let v = watch_of (value o) in min (touched_of (counts v.table (counts_of v) v.places) v.own K v.monitors v.letters) 65535 ≡ touched o.monitors ts
  unfolding touched_of
  counted-right K xs ts h t =
      let v = watch_of (value o) in
      let s = counts-stored o c (each-bounded 0 o.monitors (λ m i. (ordered m i, all-accepted text o e m i, (let a = rows_in_lem o.monitors m i in let b = few_rows in omega (arith, a, b))))) in
      let monitors : min v.monitors 32 ≡ length (program_of o) = let a = monitors-counted o c in let b = c.few_monitors in let d = program-length o c in omega (arith, a, b, d) in
      let few : min v.letters 256 ≡ total size (program_of o) = let a = letters-counted o c in let b = c.few_letters in let d = program-letters o c in omega (arith, a, b, d) in
      let cs = costs_of v.table v.rows in
      let ps = places_up v.table cs (min v.rows 1024) in
      let p = starts-touched v.table cs ps v.places K v 0 0 0 (program_of o) (program-laid o c) s in
      let q = letters-touched v.table cs ps v.places K (program_of o) s (in_order o c) (let b = c.few_letters in let d = program-letters o c in omega (arith, b, d)) in
      let r = all-counted K 0 0 o.monitors xs ordered h ∙ sym (touched-tracked o.monitors (accept-all o.monitors (all_read text o e)) ts xs t) in
      let b = touched-most o.monitors ts in
      rw (monitors, few, p, q) (let z = few_rows in omega (arith, r, b, z))

  -- After any calls, a tick touches on the watch as many rows as the definition says.
  pub touched-right : (cs : List Call) → touched_on (watch_after_all (watch_of (value o)) cs) ≡ touched o.monitors (standing o.limits o.monitors o.initial o.wires cs).inner.ticks
  unfolding touched_on
  touched-right cs =
      let v = watch_of (value o) in
      let (xs, k, t) = marks-right text o e cs in
      ap (λ (u : Watch). min (touched_of (counts u.table (counts_of u) u.places) u.own u.marks u.monitors u.letters) 65535) (watch-held text o e cs).tables
      ∙ counted-right (watch_after_all v cs).marks xs _ k t

  -- F26: "never above twice the rows"
  pub few-touched : (ts : List Tick) → touched o.monitors ts ≤ 2 * o.row_count
  few-touched ts = let a = c.rows_are in let b = touched-most o.monitors ts in omega (arith, a, b)

  -- Every call of a list is answered as W3 to W6 and W12 say.
  pub all-answered : (cs : List Call) → AllAnswered o.limits o.monitors o.initial o.wires cs (answers_of (watch_of (value o)) cs)
  all-answered cs =
      let v = watch_of (value o) in (
        subst (AllRightly o.limits o.monitors o.initial o.wires cs) (sym (replies-in v cs ∙ calls-answered text o e cs)) (replies-rightly o.limits o.monitors o.initial o.wires cs),
        λ n h. rw (answers_at v cs n h) (tells (watch_after_all v (up_to n cs)) _ (touched-right (up_to n cs)) (get_or cs n (take 0))),
      )

-- as many as there are calls
pub answers-long : (v : Watch) (cs : List Call) → length (answers_of v cs) ≡ length cs
unfolding answers_of
answers-long v [] = refl
answers-long v (c ∷ cs) = ap suc (answers-long (watch_after_call v c) cs)

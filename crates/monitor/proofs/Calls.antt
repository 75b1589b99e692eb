-- Every list of looks and takes on the watch of an accepted text gets the replies that the text's meaning fixes. Assumes nothing.
use mathlib.Core.Path.{◌≡◌, refl, sym, ap, ap₂, ◌∙◌, subst, subst₂}
use mathlib.Core.Bool.{Bool, true, false, cond}
use mathlib.Core.Option.{Option, none}
use mathlib.Core.Logic.{⊎_elim}
use mathlib.Core.List.{List, [], ◌∷◌, ◌++◌, map}
use Prim.Native.Nat.{ℕ, zero, suc, ◌+◌, ◌<◌, ◌≤◌, min}
use native.Mathlib.Omega.{arith}
use borrow.Author.Tests.{ne_eqb, lt-ltb, ltb-true}
use lib.Dec.{T}
use lib.ListN.{length, length-append, get_or, drop, replicate, length-replicate}
use lib.Seq.{sets-eq}
use Rattle.meaning.specs.Lists.{◌∈◌, carry, total}
use Rattle.meaning.specs.Answers.{value}
use Rattle.meaning.specs.Expression.{Letter, Exp, star, letters, own, size, rows, renumbered, Ordered}
use Rattle.meaning.specs.Numbered.{numbered_from}
use Rattle.meaning.specs.Shape.{threads}
use Rattle.meaning.specs.ShapeTests.{agree, AllSized}
use Rattle.meaning.specs.Fit.{Tick, meets, among, write, History, start, tick, Verdict, ok, bad, verdict}
use Rattle.meaning.specs.Limits.{limits_verdict, or_else, judged}
use Rattle.meaning.specs.Fit as fit
use Rattle.meaning.specs.Positions as machine
use Rattle.meaning.specs.Table.{Table}
use Rattle.meaning.specs.Totals.{totals}
use Rattle.meaning.specs.Calls.{Call, opening, state_from, replies, standing as stood}
use Rattle.meaning.specs.Opening.{Opened, open_text}
use Rattle.lexer.proofs.Bools.{left}
use Rattle.meaning.proofs.ListLaws.{here, there, no-∈, cons-∈, map-∈, ∈-map, clash}
use Rattle.meaning.proofs.Step.{Solid}
use Rattle.meaning.proofs.Within.{LetterWithin}
use Rattle.meaning.proofs.Walk.{a-row}
use Rattle.meaning.proofs.Shifted.{shift_letter, letters-renumbered}
use Rattle.meaning.proofs.OneWay.{Closed}
use Rattle.meaning.proofs.Watch.{AllAccepted, Tracked, Tracks, opened-tracks, same-verdict}
use Rattle.meaning.proofs.Watch as watch
use Rattle.meaning.proofs.Accept.{accept-all}
use Rattle.meaning.proofs.Limits.{AllKeep, limits-next, none-keep, ok-keeps}
use Rattle.meaning.proofs.Calls.{Alike, same-replies, same-states}
use Rattle.meaning.proofs.Numbering.{renumbered-size, renumbered-rows}
use Rattle.meaning.proofs.Openings.{all_read, all-accepted}
use Rattle.rules.specs.declared.Watch.{Watch}
use Rattle.rules.specs.Cells.{Link}
use Rattle.rules.specs.Laying.{slot_word, slot_number, slots_of}
use Rattle.rules.specs.Watches.{watch_of}
use Rattle.rules.proofs.Limited.{CountedFrom, limits-few, limits-proper, counted-right, windows-open}
use Rattle.windows.specs.Windows.{bit_of, met_mask, first_beyond}
use Rattle.monitor.specs.Letters.{Given, letter_met, write_letter}
use Rattle.monitor.specs.Ticks.{steps, empty_memory, shut_busy, count_met, step_within, stuck_at}
use Rattle.monitor.specs.Limited.{unlimited, verdict_by, walk_of}
use Rattle.monitor.specs.Calls.{Moving, given_of, layout_of, step_from, mask_from, judge, onward, state_of, with_state, totals_from, totals_in, totals_of, replies_of, watch_after_all, Held}
use Rattle.monitor.proofs.Padded.{padded}
use Rattle.monitor.proofs.Readable.{Readable, accepted-readable}
use Rattle.monitor.proofs.Writers.{writers-enough}
use Rattle.monitor.proofs.LetterTests.{LetterGiven, letter-met, letter-writes}
use Rattle.monitor.proofs.Coded.{Coded}
use Rattle.monitor.proofs.Memory.{Memory, rows_of, shut_in, begun, memory-begun, begun-unmarked}
use Rattle.monitor.proofs.MemoryLaws.{asks-right, leaves-right}
use Rattle.monitor.proofs.Monitors.{AllStanding, all_go}
use Rattle.monitor.proofs.ShutRows.{threads-shut, busy-shut}
use Rattle.monitor.proofs.Moves.{AllWriteAs, MarksAll}
use Rattle.monitor.proofs.Watching.{after-at, Steps, steps-both}
use Rattle.monitor.proofs.TickSteps.{marks-walked}
use Rattle.monitor.proofs.Replies.{replies-by, watches-by, Like, monitors_verdict, same-judgment, same_move, bits-move, moved_on}
use Rattle.monitor.proofs.Single.{one-marked}
use Rattle.monitor.proofs.LetterTotals.{flat, shown, total-letters, tick-counted, none-counted, ticks-few, totals-split}
use Rattle.monitor.proofs.LimitMasks.{Bits, mask-right}
use Rattle.monitor.proofs.LimitWindows.{Counting, has-limits, beyond-said, counting-on, counting-none}
use Rattle.monitor.proofs.Starts.{starts, start-bits}
use Rattle.monitor.proofs.Numbered.{program_of}
use Rattle.monitor.proofs.LetterRows.{HeldAll}
use Rattle.monitor.proofs.Program

-- a tick's word, the one before it and the store values
abbrev at : (word before : ℕ) → (stores : List ℕ) → Tick
at w b σ = record { word = w; before = b; stores = σ }

abbrev two : (word before : ℕ) → List ℕ
two w b = w ∷ b ∷ []

-- the letters' numbers in a watch test and write as the letters do
record LettersRight (o : Opened) : Type 0 where
  pub tests : (m : Exp) → m ∈ program_of o → (x : Letter) → x ∈ letters m → (σ : List ℕ) → length σ ≡ length o.initial → (w b : ℕ)
      → letter_met (given_of (watch_of (value o)) (padded σ) (two w b)) x.number ≡ meets x (at w b σ)
  pub writes : (m : Exp) → m ∈ program_of o → (x : Letter) → x ∈ letters m → (σ : List ℕ) → length σ ≡ length o.initial → (ρ : List ℕ) → length ρ ≡ length o.initial → (w b : ℕ)
      → write_letter (given_of (watch_of (value o)) (padded σ) (two w b)) x.number (padded ρ) ≡ padded (carry (write (at w b σ)) ρ x.writes)

-- ---- letters

slot_at : (f : Option Link → ℕ) → f none ≡ 0 → (xs : List (Option Link)) (j : ℕ) → get_or (map f xs) j 0 ≡ f (get_or xs j none)
slot_at f z [] j = sym z
slot_at f z (x ∷ xs) zero = refl
slot_at f z (x ∷ xs) (suc j) = slot_at f z xs j

letters-at : (l : ℕ) (m : Exp) → Ordered 0 m → letters (renumbered l m) ≡ map (shift_letter l) (letters m)
letters-at l m o = let z : l ≡ l + 0 = omega arith in ap (λ (k : ℕ). letters (renumbered k m)) z ∙ letters-renumbered l 0 m o

-- a letter numbered over all monitors is one of its monitor, but for its number
original : (l : ℕ) (ms : List Exp) → ((m : Exp) → m ∈ ms → Ordered 0 m) → (m : Exp) → m ∈ numbered_from l ms → (x : Letter) → x ∈ letters m
    → (k : Exp) × (y : Letter) × (k ∈ ms) × (y ∈ letters k) × (y.literals ≡ x.literals) × (y.writes ≡ x.writes)
unfolding numbered_from
original l [] o m i x j = absurd (no-∈ i)
original l (k ∷ ms) o m i x j = ⊎_elim
    (λ p.
    let (y, q, r) = map-∈ (shift_letter l) (letters k) (subst (λ (xs : List Letter). x ∈ xs) (ap letters p ∙ letters-at l k (o k (here refl))) j) in
    (k, y, here refl, q, ap (λ (z : Letter). z.literals) r, ap (λ (z : Letter). z.writes) r))
    (λ p. let (n, y, q, r, s, t) = original (l + size k) ms (λ z u. o z (there u)) m p x j in (n, y, there q, r, s, t))
    (cons-∈ i)

module _ (text : List ℕ) (o : Opened) (e : open_text text ≡ value o) (m : Exp) (i : m ∈ program_of o) (x : Letter) (j : x ∈ letters m) where
  readable : (σ : List ℕ) → length σ ≡ length o.initial → Readable x (length σ)
  readable σ long =
      let (k, y, p, q, r, s) = original 0 o.monitors (λ n u. (all_read text o e n u).0) m i x j in
      let a = accepted-readable text o e k p y q in
      subst (Readable x) (sym long)
      (record {
        wires = a.wires;
        few_wires = a.few_wires;
        few_stores = a.few_stores;
        within = subst₂ (LetterWithin a.wires (length o.initial)) r s a.within;
        sized = subst AllSized r a.sized;
        agreed = subst (λ ls. T (agree ls)) r a.agreed;
      })

  letter-given : (σ w : List ℕ) → LetterGiven (given_of (watch_of (value o)) σ w) x.number x
  letter-given σ w =
      let a = Program.letters-stand o (Program.text-counted text o e) m i x j in
      record {
        looks = a.look;
        wants = a.want;
        helds = a.held;
        links = λ k h. a.links k h ∙ slot_at slot_word refl (slots_of x) k;
        numbers = λ k h. a.numbers k h ∙ slot_at slot_number refl (slots_of x) k;
      }

letters-right : (text : List ℕ) (o : Opened) → open_text text ≡ value o → LettersRight o
letters-right text o e = record {
  tests = λ m i x j σ l w b. letter-met (given_of (watch_of (value o)) (padded σ) (two w b)) x.number x σ (letter-given text o e m i x j (padded σ) (two w b)) (readable text o e m i x j σ l) refl;
  writes = λ m i x j σ l ρ k w b.
      letter-writes (given_of (watch_of (value o)) (padded σ) (two w b)) x.number x σ (letter-given text o e m i x j (padded σ) (two w b)) (readable text o e m i x j σ l) (at w b σ) refl ρ (k ∙ sym l);
}

-- ---- where each monitor stands

laid-rows : (v : Watch) (k r l : ℕ) (ms : List Exp) → Program.LaidFrom v k r l ms → r + total rows ms ≡ v.rows
laid-rows v k r l [] d = let e = d.1 in omega (arith, e)
laid-rows v k r l (m ∷ ms) d = let e = laid-rows v (suc k) (r + rows m) (l + size m) ms d.1 in omega (arith, e)

module _ (v : Watch) (R : Table) (n : ℕ) (few : n ≤ 1024) (rows_are : v.rows ≡ n) (low : (i : ℕ) → i < v.letters → get_or v.places i 0 < n) where
  standing : (i r l : ℕ) (ms : List Exp) → HeldAll R (λ k. get_or v.places k 0) r (numbered_from l ms) → Program.LaidFrom v i r l (numbered_from l ms)
      → AllStanding R v.places (layout_of v) n i r l ms
  unfolding numbered_from AllStanding
  standing i r l [] h d = tt
  standing i r l (m ∷ ms) h d =
      let a = renumbered-rows l m in
      let b = renumbered-size l m in
      let u = laid-rows v i r l (renumbered l m ∷ numbered_from (l + size m) ms) d in
      let w = a-row m in
      let q = d.0 in (
        record {
          held = h.0;
          top = h.1;
          within = omega (arith, u, w, a, rows_are);
          letters_within = λ k x y. low k (let z = q.within in omega (arith, y, z, b));
          few = omega (arith, u, a, rows_are, few);
          row = q.own;
          first = q.first;
          end = let z = q.end in z ∙ ap (λ (x : ℕ). l + x) b;
        },
        standing (suc i) (r + rows m) (l + size m) ms
            (subst (λ (x : ℕ). HeldAll R (λ k. get_or v.places k 0) (r + x) (numbered_from (l + size m) ms)) a h.2)
            (subst (λ (y : ℕ). Program.LaidFrom v (suc i) (r + rows m) (l + y) (numbered_from (l + size m) ms)) b
            (subst (λ (x : ℕ). Program.LaidFrom v (suc i) (r + x) (l + size (renumbered l m)) (numbered_from (l + size m) ms)) a d.1)),
      )

-- the letters' writes, monitor by monitor
module _ (g : Given) (t : Tick) (Q : List ℕ) (pad : List ℕ → List ℕ) (stores : ℕ) where
  all-write : (l : ℕ) (ms : List Exp) → ((m : Exp) → m ∈ ms → Ordered 0 m)
      → ((m : Exp) → m ∈ numbered_from l ms → (x : Letter) → x ∈ letters m → (ρ : List ℕ) → length ρ ≡ stores → write_letter g x.number (pad ρ) ≡ pad (carry (write t) ρ x.writes))
      → AllWriteAs g t Q pad stores l ms
  unfolding numbered_from AllWriteAs
  all-write l [] o h = tt
  all-write l (m ∷ ms) o h = (
    λ x i ρ e. h (renumbered l m) (here refl) (shift_letter l x)
        (subst (λ (xs : List Letter). shift_letter l x ∈ xs) (sym (letters-at l m (o m (here refl)))) (∈-map (shift_letter l) i)) ρ e,
    all-write (l + size m) ms (λ y i. o y (there i)) (λ y i. h y (there i)),
  )

-- ---- the theorem

or_else_ok : (u v : Verdict) → or_else u v ≡ ok → (u ≡ ok) × (v ≡ ok)
or_else_ok ok v e = (refl, e)
or_else_ok (bad i) v e = clash (cc e)

all-go-on : (b : Bool) (i : ℕ) → cond b (bad i) ok ≡ ok → b ≡ false
all-go-on true i e = clash (cc e)
all-go-on false i e = refl

module _ (text : List ℕ) (o : Opened) (e : open_text text ≡ value o) where
  right : LettersRight o
  right = letters-right text o e

  v : Watch
  v = watch_of (value o)

  c : Program.Counted o
  c = Program.text-counted text o e

  in-room : total size o.monitors ≤ 256
  in-room = let a = c.few_letters in let b = c.letters_are in omega (arith, a, b)

  ordered : (m : Exp) → m ∈ o.monitors → Ordered 0 m
  ordered m i = (all_read text o e m i).0

  solid : (m : Exp) → m ∈ o.monitors → Ordered 0 m × Solid (star m)
  solid m i = (ordered m i, (all-accepted text o e m i).solid)

  closed : (m : Exp) → m ∈ o.monitors → Ordered 0 m × Closed m
  closed m i = (ordered m i, (all-accepted text o e m i).closed)

  stands : AllStanding (Program.table_of o) v.places (layout_of v) o.row_count 0 0 0 o.monitors
  unfolding v
  stands =
      standing v (Program.table_of o) o.row_count (let f = c.few_rows in omega (arith, f)) (Program.rows-counted o c)
      (λ i h. Program.places-low o c i (subst (λ (z : ℕ). i < z) (Program.letters-counted o c) h)) 0 0 0 o.monitors (Program.program-held o c) (Program.program-laid o c)

  module _ (σ : List ℕ) (long : length σ ≡ length o.initial) (w b : ℕ) where
    abbrev g : Given
    g = given_of v (padded σ) (two w b)

    coded : Coded (Program.table_of o) g (at w b σ) o.row_count
    unfolding v
    coded = Program.program-coded o c g (at w b σ) refl (λ m i x j. right.tests m i x j σ long w b)

    -- the memory at a tick's start, and the rows that are shut in it
    abbrev first : List ℕ → List ℕ
    first K = shut_busy g K o.letter_count empty_memory

    abbrev Good : (K : List ℕ) → List ℕ → Type 0
    Good K = Memory (shut_in (first K)) (rows_of (shut_in (first K)) steps (Program.table_of o) (at w b σ)) o.row_count

    step_from_both : (K : List ℕ) (xs : List machine.Positions) → MarksAll K 0 0 o.monitors xs
        → Steps o.monitors (at w b σ) σ padded (length o.initial) (machine.go_each 0 o.monitors xs (at w b σ)) (step_within g (layout_of v) K)
        × ((nss : List (List ℕ)) → machine.go_each 0 o.monitors xs (at w b σ) ≡ machine.fine nss → (k : ℕ) → get_or (step_within g (layout_of v) K).marks k 0 ≤ 1)
    unfolding v
    step_from_both K xs h =
        let start = begun g K o.letter_count in
        let same : v.letters ≡ o.letter_count = Program.letters-counted o c in
        steps-both (Good K) (λ M p. p.bits) g (at w b σ) (layout_of v) K
        (rw same (memory-begun steps (Program.table_of o) (at w b σ) o.row_count (first K) (let f = c.few_rows in omega (arith, f)) start))
        (rw same (begun-unmarked (first K) start)) o.monitors ordered
        (Program.monitors-counted o c) c.few_monitors (Program.letters-counted o c ∙ sym c.letters_are) in-room
        (writers-enough v (padded σ) (two w b) (total size o.monitors) in-room)
        xs σ padded (length o.initial) h long refl
        (all_go (Good K) g (at w b σ) (shut_in (first K)) (Program.table_of o) (threads-shut o c (padded σ) (two w b) K) o.row_count (layout_of v) K
        (λ r l e. asks-right (shut_in (first K)) (Program.table_of o) g (at w b σ) o.row_count coded steps steps r l e (omega arith))
        (λ r l e. leaves-right (shut_in (first K)) (Program.table_of o) g (at w b σ) o.row_count coded steps steps r l e (omega arith))
        0 0 0 o.monitors xs stands solid h (busy-shut o c (padded σ) (two w b) K closed xs h))
        (λ Q. all-write g (at w b σ) Q padded (length o.initial) 0 o.monitors ordered (λ m i x j ρ d. right.writes m i x j σ long ρ d w b))

  step_right : (s : Moving) (m : machine.Watch) → Like o.monitors padded (length o.initial) s m → (w : ℕ)
      → Steps o.monitors (machine.seen m w) m.stores padded (length o.initial) (machine.ticked o.monitors m w) (step_within (given_of v s.values (two w s.last)) (layout_of v) s.marks)
  step_right s m l w =
      subst₂ (λ (z : List ℕ) (b : ℕ). Steps o.monitors (machine.seen m w) m.stores padded (length o.initial) (machine.ticked o.monitors m w) (step_within (given_of v z (two w b)) (layout_of v) s.marks))
      (sym l.values) (sym l.last) (step_from_both m.stores l.long w m.last s.marks m.positions l.marks).0

  -- behind a good tick each mark is 0 or 1
  step_bits : (s : Moving) (m : machine.Watch) → Like o.monitors padded (length o.initial) s m → (w : ℕ)
      → (nss : List (List ℕ)) → machine.ticked o.monitors m w ≡ machine.fine nss → (k : ℕ) → get_or (step_within (given_of v s.values (two w s.last)) (layout_of v) s.marks).marks k 0 ≤ 1
  step_bits s m l w nss q k =
      subst₂ (λ (z : List ℕ) (b : ℕ). get_or (step_within (given_of v z (two w b)) (layout_of v) s.marks).marks k 0 ≤ 1)
      (sym l.values) (sym l.last) ((step_from_both m.stores l.long w m.last s.marks m.positions l.marks).1 nss q k)

  -- at its opening it is like the machine
  start-like : Like o.monitors padded (length o.initial) (state_of v).inner (machine.opened o.monitors o.initial)
  unfolding v watch_of
  start-like = record {
    marks = starts (length o.monitors) c.few_monitors o.monitors refl in-room;
    values = refl;
    last = refl;
    long = refl;
  }

  -- and each of its marks is 0 or 1
  first_bits : (k : ℕ) → get_or (state_of v).inner.marks k 0 ≤ 1
  unfolding v watch_of
  first_bits = start-bits (length o.monitors)

  few_letters : v.letters ≤ 256
  unfolding v
  few_letters = let a = c.few_letters in let b = Program.letters-counted o c in omega (arith, a, b)

  -- What moves follows the words of h: some machine is like it and tracks them; each letter is counted as often as it was met, as long as 32 bits can tell; the windows count the ticks that the limits do, and these fit every limit.
  record Follows (s : Moving) (h : History) : Type 0 where
    pub by : machine.Watch
    pub like : Like o.monitors padded (length o.initial) s by
    pub tracks : Tracks o.monitors h by
    pub counted : length h.ticks < 4294967296 → s.totals ≡ shown (flat o.monitors h.ticks)
    pub counting : Counting o.limits o.monitors s.windows h.ticks
    pub keeps : AllKeep o.limits o.monitors h.ticks

  accepted : AllAccepted o.monitors
  accepted = accept-all o.monitors (all_read text o e)

  all-letters : min v.letters 256 ≡ total size o.monitors
  unfolding v
  all-letters = let a = few_letters in let b = Program.letters-counted o c in let d = c.letters_are in omega (arith, a, b, d)

  -- the limits that count the letters of the watch
  counts-right : CountedFrom v.counted o.limits 0 o.monitors
  unfolding v watch_of
  counts-right = counted-right text o e

  module _ (s : Moving) (h : History) (f : Follows s h) (w : ℕ) where
    -- the monitors' part
    monitors-judge : monitors_verdict v s w ≡ verdict 0 o.monitors (h.ticks ++ tick h w ∷ [])
    unfolding v
    monitors-judge =
        same-judgment o.monitors padded (length o.initial) v (Program.monitors-counted o c) c.few_monitors few_letters step_right s f.by f.like w
        ∙ same-verdict o.monitors accepted h f.by f.tracks w

    -- where it is ok
    module _ (p : verdict 0 o.monitors (h.ticks ++ tick h w ∷ []) ≡ ok) where
      answered : machine.answer o.monitors f.by w ≡ ok
      answered = same-verdict o.monitors accepted h f.by f.tracks w ∙ p

      like-next : Like o.monitors padded (length o.initial) (onward v s w) (machine.moved o.monitors f.by w)
      unfolding v
      like-next = same_move o.monitors padded (length o.initial) v (Program.monitors-counted o c) c.few_monitors few_letters step_right s f.by f.like w answered

      tracks-next : Tracks o.monitors (fit.onward o.monitors h w) (machine.moved o.monitors f.by w)
      tracks-next = watch.same_move o.monitors accepted h f.by f.tracks w p

      -- the marks are the letters met
      met_next : (nss : List (List ℕ)) × MarksAll (step_from v s w).marks 0 0 o.monitors (machine.kept_each o.monitors nss) × Tracked o.monitors (h.ticks ++ tick h w ∷ []) (machine.kept_each o.monitors nss)
      unfolding fit.onward
      met_next =
          let (nss, k) = moved_on o.monitors f.by w answered in (
            nss,
            subst (λ xs. MarksAll (step_from v s w).marks 0 0 o.monitors xs) k like-next.marks,
            subst (λ xs. Tracked o.monitors (h.ticks ++ tick h w ∷ []) xs) k tracks-next.0,
          )

      -- and the mask says which limits count the tick
      bits : Bits o.limits o.monitors h.ticks (tick h w) (mask_from v s w)
      bits k few =
          let (nss, marks, tracked) = met_next in
          let g = given_of v s.values (two w s.last) in
          let M = (walk_of g (layout_of v) s.marks).memory in
          let stands = marks-walked g (layout_of v) s.marks (all-go-on _ _ (monitors-judge ∙ p)) in
          ap (bit_of k) (left (unlimited s.windows) 0 (met_mask M v.counted (min v.letters 256)) (ne_eqb _ 0 (has-limits o.limits o.monitors s.windows h.ticks f.counting k few)))
          ∙ ap (λ (n : ℕ). bit_of k (met_mask M v.counted n)) all-letters
          ∙ mask-right M v.counted (step_from v s w).marks (λ i l. ap (λ (K : List ℕ). get_or K i 0) stands ∙ after-at 256 M (omega arith) i l) o.limits h.ticks (tick h w) k few
          o.monitors nss in-room (λ m i. (ordered m i, all-accepted text o e m i)) marks tracked counts-right

    limits-judge : verdict 0 o.monitors (h.ticks ++ tick h w ∷ []) ≡ ok → verdict_by (32 + first_beyond s.windows (mask_from v s w)) ≡ limits_verdict 0 o.limits o.monitors (h.ticks ++ tick h w ∷ [])
    limits-judge p =
        beyond-said o.limits o.monitors s.windows h.ticks f.counting (tick h w) (mask_from v s w) (bits p)
        ∙ sym (limits-next o.monitors h.ticks (tick h w) 0 o.limits f.keeps)

    judges : judge v s w ≡ judged o.limits o.monitors h w
    judges = by (stuck_at i v.monitors) refl monitors-judge
      where
        i : ℕ
        i = (step_from v s w).monitor

        ts : List Tick
        ts = h.ticks ++ tick h w ∷ []

        by : (b : Bool) → stuck_at i v.monitors ≡ b → cond b (bad i) ok ≡ verdict 0 o.monitors ts
            → verdict_by (cond b i (32 + first_beyond s.windows (mask_from v s w))) ≡ or_else (verdict 0 o.monitors ts) (limits_verdict 0 o.limits o.monitors ts)
        by true q p =
            ap (λ (b : Bool). cond b (bad i) ok) (lt-ltb i 40 (let l = ltb-true i (min v.monitors 32) q in omega (arith, l)))
            ∙ ap (λ (u : Verdict). or_else u (limits_verdict 0 o.limits o.monitors ts)) p
        by false q p = limits-judge (sym p) ∙ ap (λ (u : Verdict). or_else u (limits_verdict 0 o.limits o.monitors ts)) p

    moves : judged o.limits o.monitors h w ≡ ok → Follows (onward v s w) (fit.onward o.monitors h w)
    unfolding fit.onward
    moves e' =
        let (p, q) = or_else_ok _ _ e' in
        let (nss, marks, tracked) = met_next p in
        record {
          by = machine.moved o.monitors f.by w;
          like = like-next p;
          tracks = tracks-next p;
          counted = λ few.
              let d = length-append h.ticks (tick h w ∷ []) in
              ap₂ (count_met (step_from v s w).marks) all-letters (f.counted (omega (arith, few, d)))
              ∙ tick-counted (step_from v s w).marks h.ticks (tick h w) (omega (arith, few, d)) o.monitors nss in-room (λ m i. (ordered m i, all-accepted text o e m i)) marks tracked;
          counting = counting-on o.limits o.monitors s.windows h.ticks f.counting (tick h w) (mask_from v s w) (bits p);
          keeps = ok-keeps 0 o.limits o.monitors (h.ticks ++ tick h w ∷ []) q;
        }

  next_bits : (s : Moving) (h : History) (f : Follows s h) (w : ℕ) → judged o.limits o.monitors h w ≡ ok → (k : ℕ) → get_or (onward v s w).marks k 0 ≤ 1
  unfolding v
  next_bits s h f w p =
      bits-move o.monitors padded (length o.initial) v (Program.monitors-counted o c) c.few_monitors few_letters step_right s f.by w (step_bits s f.by f.like w) (answered s h f w (or_else_ok _ _ p).0)

  -- no tick yet
  counting-first : Counting o.limits o.monitors v.windows []
  unfolding v watch_of
  counting-first = rw (windows-open text o e) (counting-none o.limits o.monitors (limits-few text o e) (limits-proper text o e))

  begins : Follows (state_of v).inner (start o.initial)
  unfolding v watch_of
  begins = record {
    by = machine.opened o.monitors o.initial;
    like = start-like;
    tracks = opened-tracks o.monitors o.initial;
    counted = λ few. none-counted o.monitors;
    counting = counting-first;
    keeps = none-keep o.limits o.monitors;
  }

  pub calls-answered : (cs : List Call) → replies_of (watch_of (value o)) cs ≡ replies o.limits o.monitors o.initial o.wires cs
  unfolding v watch_of
  calls-answered cs =
      replies-by v (state_of v) cs
      ∙ same-replies (judge v) (onward v) (judged o.limits o.monitors) (fit.onward o.monitors) Follows judges moves o.wires cs (state_of v) (opening (start o.initial))
      (begins, refl, refl)

  follows : (cs : List Call) → Alike Follows (state_from (judge v) (onward v) v.wires (state_of v) cs) (stood o.limits o.monitors o.initial o.wires cs)
  unfolding v watch_of
  follows cs =
      same-states (judge v) (onward v) (judged o.limits o.monitors) (fit.onward o.monitors) Follows judges moves o.wires cs (state_of v) (opening (start o.initial))
      (begins, refl, refl)

  -- after any list of calls the marks are positions that track the words
  pub marks-right : (cs : List Call) → (xs : List machine.Positions) × MarksAll (watch_after_all (watch_of (value o)) cs).marks 0 0 o.monitors xs
      × Tracked o.monitors (stood o.limits o.monitors o.initial o.wires cs).inner.ticks xs
  unfolding v
  marks-right cs = let f = (follows cs).0 in (f.by.positions, rw (watches-by v (state_of v) cs) f.like.marks, f.tracks.0)

  -- there are as many store values as at first
  pub stores-long : (cs : List Call) → length (stood o.limits o.monitors o.initial o.wires cs).inner.stores ≡ length o.initial
  stores-long cs = let f = (follows cs).0 in ap length f.tracks.2 ∙ f.like.long

  -- and each mark is 0 or 1
  follow_bits : (cs : List Call) → (k : ℕ) → get_or (state_from (judge v) (onward v) v.wires (state_of v) cs).inner.marks k 0 ≤ 1
  unfolding v watch_of
  follow_bits cs =
      (same-states (judge v) (onward v) (judged o.limits o.monitors) (fit.onward o.monitors) (λ s h. Follows s h × ((k : ℕ) → get_or s.marks k 0 ≤ 1)) (λ s h f. judges s h f.0)
      (λ s h f w p. (moves s h f.0 w p, next_bits s h f.0 w p)) o.wires cs (state_of v) (opening (start o.initial)) ((begins, first_bits), refl, refl)).0.1

  pub marks-bits : (cs : List Call) → (k : ℕ) → get_or (watch_after_all (watch_of (value o)) cs).marks k 0 ≤ 1
  unfolding v
  marks-bits cs = rw (watches-by v (state_of v) cs) (follow_bits cs)

  -- After any list of calls the watch has the tick count, the stop, the word before, the store values and the letters' totals that the meaning fixes, zeros behind these; all else
  -- but the marks and the windows of limits is as it was opened.
  pub watch-held : (cs : List Call) → Held o.monitors (watch_of (value o)) (watch_after_all (watch_of (value o)) cs) (stood o.limits o.monitors o.initial o.wires cs)
  unfolding v watch_of
  watch-held cs =
      let (f, n, b) = follows cs in
      let w = watches-by v (state_of v) cs in
      record {
        tables = w ∙ ap (with_state v) (sym (ap state_of w));
        ticks = ap (λ (u : Watch). u.ticks) w ∙ n;
        stopped = ap (λ (u : Watch). u.stopped) w ∙ b;
        before = ap (λ (u : Watch). u.before) w ∙ f.like.last ∙ sym f.tracks.1;
        values = ap (λ (u : Watch). u.values) w ∙ f.like.values ∙ ap padded (sym f.tracks.2);
        totals = ap (λ (u : Watch). u.totals) w ∙ f.counted (let t = ticks-few o.limits o.monitors o.initial o.wires cs in omega (arith, t));
      }

  -- W13: monitor by monitor, they are how often each letter was met.
  pub totals-right : (cs : List Call) → totals_of (watch_after_all (watch_of (value o)) cs) ≡ totals o.monitors (stood o.limits o.monitors o.initial o.wires cs).inner.ticks
  unfolding v
  totals-right cs =
      let h = watch-held cs in
      let ts = (stood o.limits o.monitors o.initial o.wires cs).inner.ticks in
      let m : min v.monitors 32 ≡ v.monitors = (let a = Program.monitors-counted o c in let b = c.few_monitors in omega (arith, a, b)) in
      let l : min v.letters 256 ≡ v.letters = omega (arith, few_letters) in
      let few = total-letters o.monitors ts in
      let z = length-replicate {A = ℕ} 256 0 in
      ap (λ (u : Watch). totals_in u.firsts (watch_after_all v cs).totals u.monitors u.letters) h.tables
      ∙ ap (λ (N : List ℕ). totals_in v.firsts N v.monitors v.letters) (h.totals ∙ sets-eq (flat o.monitors ts) (replicate 256 0) 0 (let r = in-room in omega (arith, few, z, r)))
      ∙ ap₂ (λ (j k : ℕ). totals_from v.firsts (flat o.monitors ts ++ drop (0 + length (flat o.monitors ts)) (replicate 256 0)) j k j 0) m l
      ∙ ap (λ (j : ℕ). totals_from v.firsts (flat o.monitors ts ++ drop (0 + length (flat o.monitors ts)) (replicate 256 0)) v.monitors v.letters j 0) (Program.monitors-counted o c)
      ∙ totals-split (Program.table_of o) v.places (layout_of v) o.row_count ts 0 0 0 o.monitors stands [] (drop (0 + length (flat o.monitors ts)) (replicate 256 0)) refl

  -- F17 in the watch: after any list of calls each thread has at most one letter of its own marked.
  pub one-active : (cs : List Call) (m : Exp) → m ∈ numbered_from 0 o.monitors → (f : Exp) → f ∈ threads m → (a b : ℕ) → T (among (own f) a) → T (among (own f) b)
      → (get_or (watch_after_all (watch_of (value o)) cs).marks a 0 ≡ 0 → ⊥) → (get_or (watch_after_all (watch_of (value o)) cs).marks b 0 ≡ 0 → ⊥) → a ≡ b
  one-active cs =
      let (xs, k, t) = marks-right cs in
      one-marked _ _ 0 0 o.monitors xs (λ m i. (ordered m i, all-accepted text o e m i)) k t

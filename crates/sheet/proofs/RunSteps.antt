-- A run over records, by the code's loop and branches. Assumes nothing.
use mathlib.Core.Path.{◌≡◌, refl, sym, ◌∙◌, ap, ap₂, subst}
use mathlib.Core.Bool.{Bool, true, false}
use mathlib.Core.List.{List, [], ◌∷◌, ◌++◌, append_assoc}
use Prim.Native.Nat.{ℕ, zero, suc, ◌+◌, ◌-◌, ◌*◌, ◌<◌, ◌≤◌, min}
use native.Mathlib.Omega.{arith}
use borrow.Author.Tests.{eq-eqb, ne_eqb}
use lib.ListN.{length, take, drop, length-drop}
use lib.Seq.{drop-drop}
use Rattle.trace.specs.Answer.{Answer, value, refused}
use Rattle.trace.specs.Record.{Item, word, end, read_record}
use Rattle.trace.proofs.Lists.{part-rest}
use Rattle.trace.proofs.Traces.{word-length}
use Rattle.meaning.specs.Calls as calls
use Rattle.meaning.specs.Sheet.{refusal_line}
use Rattle.rules.specs.declared.Watch.{Watch}
use Rattle.monitor.specs.Calls.{state_of, with_state, tables_of, LaidOut, refused_by, reply_of, watch_after}
use Rattle.windows.specs.Windows.{counted_in}
use Rattle.monitor.specs.Letters.{given}
use Rattle.monitor.specs.Ticks.{layout_in, count_met}
use Rattle.monitor.specs.Limited.{is_bad, Stepped, stepped, tick_of}
use Rattle.monitor.proofs.TickSteps.{tick_from, laid-step, tick-kept, ticked_to, take-refused, take-bad, take-ok, few-ticks, one-tick}
use Rattle.sheet.specs.Lines.{Run, run, Ran, ran, printing, on_reply, on_read, ok_line, bad_line, foot_of, run_on, run_over}
use Rattle.sheet.specs.Items.{IsOver, IsRefused}
use Rattle.sheet.specs.Moved.{moved, moving_of}
use Rattle.sheet.specs.Pages.{Printed}
use Rattle.sheet.specs.Runs.{RanOver}
use Rattle.sheet.specs.declared.page.Page.{Page}
use Rattle.sheet.specs.declared.ticking.Moving.{Moving}
use Rattle.sheet.proofs.PageSteps.{nothing, both, printed_as}

-- ---- a record and the run behind it

on-read-same : (r : Answer Item) (s : Run) (rest : List ℕ) (f g : Run → List ℕ → Ran)
    → ((u : Run) (w n : ℕ) → r ≡ value (word w n) → f u (drop n rest) ≡ g u (drop n rest)) → on_read r s rest f ≡ on_read r s rest g
on-read-same (value (word w n)) s rest f g h = by (reply_of s.watch w)
  where
    by : (a : calls.Reply) → on_reply a s rest w n f ≡ on_reply a s rest w n g
    by calls.ok = ap (printing (ok_line s.watch.ticks w)) (h (run (watch_after s.watch w) w) w n refl)
    by (calls.bad m) = refl
    by (calls.refused k p) = refl
on-read-same (value end) s rest f g h = refl
on-read-same (refused k p) s rest f g h = refl

-- as many records as there are bytes are enough
run-same : (j k : ℕ) (s : Run) (rest : List ℕ) → length rest ≤ j → length rest ≤ k → run_on j s rest ≡ run_on k s rest
unfolding run_on read_record
run-same zero zero s rest h l = refl
run-same zero (suc k) s [] h l = refl
run-same zero (suc k) s (x ∷ rest) h l = absurd (omega arith)
run-same (suc j) zero s [] h l = refl
run-same (suc j) zero s (x ∷ rest) h l = absurd (omega arith)
run-same (suc j) (suc k) s rest h l =
    on-read-same (read_record rest s.before) s rest (run_on j) (run_on k)
    (λ u w n e. let p = word-length rest s.before w n e in
    run-same j k u (drop n rest) (rw length-drop (omega arith)) (rw length-drop (omega arith)))

pub run_step : (s : Run) (rest : List ℕ) → run_over s rest ≡ on_read (read_record rest s.before) s rest run_over
unfolding run_on read_record
run_step s [] = refl
run_step s (x ∷ rest) =
    on-read-same (read_record (x ∷ rest) s.before) s (x ∷ rest) (run_on (length rest)) run_over
    (λ u w n e. let p = word-length (x ∷ rest) s.before w n e in
    run-same (length rest) (length (drop n (x ∷ rest))) u (drop n (x ∷ rest)) (rw length-drop (omega arith)) (omega arith))

-- ---- what was read

read-over : (r : Answer Item) (s : Run) (rest : List ℕ) (f : Run → List ℕ → Ran) → IsOver r → on_read r s rest f ≡ ran [] s rest false
read-over (value (word w n)) s rest f e = absurd e
read-over (value end) s rest f e = refl
read-over (refused k p) s rest f e = rw (eq-eqb k 13 e)

read-refused : (r : Answer Item) (s : Run) (rest : List ℕ) (f : Run → List ℕ → Ran) (number : ℕ) → IsRefused r number → on_read r s rest f ≡ ran (refusal_line number (s.watch.ticks ∷ [])) s rest true
read-refused (value i) s rest f number e = absurd e
read-refused (refused k p) s rest f number (e, z) = rw (ne_eqb k 13 z) (ap (λ (n : ℕ). ran (refusal_line n (s.watch.ticks ∷ [])) s rest true) e)

printing-twice : (p q : List ℕ) (x : Ran) → printing p (printing q x) ≡ printing (p ++ q) x
printing-twice p q x = ap (λ (l : List ℕ). ran l x.after x.left x.ended) (sym (append_assoc p q x.printed))

-- ---- the loop

-- What was printed so far, and what is to come: no line is longer than 64 bytes, and each is a tick's.
pub record Going (v₀ : Watch) (b₀ : ℕ) (records : List ℕ) (p₀ p : Page) (v : Watch) (last used : ℕ) : Type 0 where
  pub done : List ℕ
  pub whole : run_over (run v₀ b₀) records ≡ printing done (run_over (run v last) (drop used records))
  pub put : Printed p₀ p done
  pub within : used ≤ length records
  pub slow : p.at ≤ p₀.at + 64 * v.ticks
  pub few : p.at ≤ 64000128
  pub early : p₀.at ≤ 128

going-none : (v : Watch) (b : ℕ) (records : List ℕ) (p : Page) → p.at ≤ 128 → Going v b records p p v b 0
going-none v b records p h =
    record { done = []; whole = refl; put = nothing p; within = omega arith; slow = omega arith; few = omega arith; early = h }

-- by what moves
pub going-first : (v : Watch) (b : ℕ) (records : List ℕ) (p : Page) (m : Moving) → m ≡ moving_of v → p.at ≤ 128 → Going v b records p p (moved v m v.stopped) b 0
going-first v b records p m e h = subst (λ (x : Moving). Going v b records p p (moved v x v.stopped) b 0) (sym e) (going-none v b records p h)

module _ {v₀ : Watch} {b₀ : ℕ} {records : List ℕ} {p₀ p : Page} {v : Watch} {last used : ℕ} (m : Going v₀ b₀ records p₀ p v last used) where
  abbrev rest : List ℕ
  rest = drop used records

  -- what the code answers with, where the watch is u
  abbrev Left : Page → Watch → Bool → Type 0
  Left p' u b = RanOver (run_over (run v₀ b₀) records) records p₀ p' (record { watch = u; before = last; used = used; at = p'.at; ended = b })

  going-left : (line : List ℕ) (u : Watch) (b : Bool) {p' : Page} → run_over (run v last) rest ≡ ran line (run u last) rest b → Printed p p' line → p'.at ≤ p.at + 196736 → Left p' u b
  going-left line u b {p'} e f bound =
      let w : run_over (run v₀ b₀) records ≡ ran (m.done ++ line) (run u last) rest b = m.whole ∙ ap (printing m.done) e in
      record {
        after = sym (ap (λ (x : Ran). x.after) w);
        left = sym (ap (λ (x : Ran). x.left) w);
        ended = sym (ap (λ (x : Ran). x.ended) w);
        printed = printed_as (sym (ap (λ (x : Ran). x.printed) w)) (both m.put f);
        place = refl;
        within = m.within;
        short = omega (arith, m.few, bound);
      }

  -- the watch is as it was
  going-still : (line : List ℕ) (u : Watch) (b : Bool) {p' : Page} → run_over (run v last) rest ≡ ran line (run v last) rest b → u ≡ v → Printed p p' line → p'.at ≤ p.at + 196736 → Left p' u b
  going-still line u b e q = going-left line u b (e ∙ ap (λ (x : Watch). ran line (run x last) rest b) (sym q))

  -- the reader answered for the part of the records from `used` on
  part : read_record (take (length records - used) (drop used records)) last ≡ read_record rest last
  part = ap (λ (l : List ℕ). read_record l last) (part-rest used records)

  -- nothing is left, or a record is cut short
  pub going-over : IsOver (read_record (take (length records - used) (drop used records)) last) → (u : Watch) → u ≡ v → Left p u false
  going-over h u q =
      going-still [] u false (run_step (run v last) rest ∙ read-over (read_record rest last) (run v last) rest run_over (subst IsOver part h)) q (nothing p) (omega arith)

  -- an idle byte
  pub going-idle : (k j : ℕ) → k ≡ j → IsRefused (read_record (take (length records - used) (drop used records)) last) j → (u : Watch) → u ≡ v → {p' : Page}
      → Printed p p' (refusal_line k (v.ticks ∷ [])) → p'.at ≤ p.at + 64 → Left p' u true
  going-idle k j e h u q f l =
      going-still (refusal_line k (v.ticks ∷ [])) u true
      (run_step (run v last) rest ∙ read-refused (read_record rest last) (run v last) rest run_over j (subst (λ (x : Answer Item). IsRefused x j) part h)
      ∙ ap (λ (n : ℕ). ran (refusal_line n (v.ticks ∷ [])) (run v last) rest true) (sym e)) q f (omega (arith, l))

  module _ (w n : ℕ) (is : read_record (take (length records - used) (drop used records)) last ≡ value (word w n)) where
    read : read_record rest last ≡ value (word w n)
    read = sym part ∙ is

    pub going_long : (0 < n) × (used + n ≤ length records)
    going_long = let p = word-length rest last w n read in (p.0, omega (arith, p.1, length-drop used records, m.within))

    replied-with : (a : calls.Reply) → reply_of v w ≡ a → run_over (run v last) rest ≡ on_reply a (run v last) rest w n run_over
    replied-with a r =
        run_step (run v last) rest ∙ ap (λ (a : Answer Item). on_read a (run v last) rest run_over) read
        ∙ ap (λ (a : calls.Reply). on_reply a (run v last) rest w n run_over) r

    module _ (k : ℕ) (d : k ≡ refused_by v.stopped v.ticks v.wires w) where
      pub going-refused : (k ≡ 0 → ⊥) → (u : Watch) → u ≡ v → {p' : Page} → Printed p p' (refusal_line k (v.ticks ∷ [])) → p'.at ≤ p.at + 64 → Left p' u true
      going-refused h u q f l =
          let c = take-refused v w k d h in
          going-still (refusal_line k (v.ticks ∷ [])) u true
          (replied-with (calls.refused k 0) (sym c.0)
          ∙ ap (λ (u : Watch). ran (refusal_line k (v.ticks ∷ [])) (run u last) rest true) (sym c.1)) q f (omega (arith, l))

      pub going-few : k ≡ 0 → v.ticks < 1000000
      going-few q = few-ticks v w k d q

      module _ (q : k ≡ 0) (t : List (List ℕ)) (lent : t ≡ tables_of v) (F : List ℕ) (laid : LaidOut v F) (i : ℕ) (K σ W : List ℕ)
          (ticked : stepped i K σ W ≡ tick_of (given t v.values (w ∷ v.before ∷ [])) (layout_in F) v.marks (counted_in F) v.windows) (b : Bool) (f : b ≡ is_bad i) where
        s : stepped i K σ W ≡ tick_from v (state_of v).inner w
        s = laid-step v t F lent laid (state_of v).inner w (stepped i K σ W) ticked

        -- the watch that a bad tick stops
        abbrev halted : (marks values windows : List ℕ) → Watch
        halted M ρ U = with_state v (record { inner = record { marks = M; values = ρ; last = v.before; totals = v.totals; windows = U }; oks = v.ticks; stopped = true })

        -- the line of a bad tick, and the foot behind it
        pub going-bad : b ≡ true → (u : Watch) → u ≡ halted K σ W → {p' p'' : Page} → Printed p p' (bad_line v.ticks w i) → p'.at ≤ p.at + 64 → Printed p' p'' (foot_of u) → p''.at ≤ p'.at + 196672
            → Left p'' u true
        going-bad y u z g short e bound =
            let t = z ∙ ap (λ (x : Stepped). halted x.marks x.values x.windows) (tick-kept v (state_of v).inner w i K σ W s b f y) in
            let c = take-bad v w k d q i K σ W s b f u y t in
            let line = bad_line v.ticks w i in
            going-left (line ++ foot_of v) u true
            (replied-with (calls.bad i) (sym c.0)
            ∙ ap (λ (x : Watch). ran (line ++ foot_of v) (run x last) rest true) (sym c.1)) (both g (printed_as (ap foot_of z) e)) (omega (arith, bound, short))

        abbrev next : List ℕ → Watch
        next N = ticked_to v K σ N W w (v.ticks + 1)

        pub going-ok : b ≡ false → (N : List ℕ) → N ≡ count_met K (min v.letters 256) v.totals → {p' : Page} → Printed p p' (ok_line v.ticks w) → p'.at ≤ p.at + 64
            → Going v₀ b₀ records p₀ p' (next N) w (used + n)
        going-ok y N counted g l =
            let c = take-ok v w k d q i K σ W s b f (next N) y N counted (one-tick v K σ N W w) in
            let t = few-ticks v w k d q in
            record {
              done = m.done ++ ok_line v.ticks w;
              whole =
                  m.whole ∙ ap (printing m.done) (replied-with calls.ok (sym c.0))
                  ∙ printing-twice m.done (ok_line v.ticks w) (run_over (run (watch_after v w) w) (drop n rest))
                  ∙ ap₂ (λ (u : Watch) (x : List ℕ). printing (m.done ++ ok_line v.ticks w) (run_over (run u w) x)) (sym c.1) (drop-drop n used records);
              put = both m.put g;
              within = going_long.1;
              slow = omega (arith, m.slow, l);
              few = omega (arith, m.slow, m.early, l, t);
              early = m.early;
            }

-- The lines that the watch of a text prints are its sheet: any text, any records. Assumes nothing.
use mathlib.Core.Path.{◌≡◌, refl, sym, ap, ◌∙◌, subst}
use mathlib.Core.Bool.{Bool, true, false, cond}
use mathlib.Core.List.{List, [], ◌∷◌, ◌++◌, append_assoc, append-nil}
use Prim.Native.Nat.{ℕ, zero, suc, ◌≤◌}
use native.Mathlib.Nat.{le_refl}
use native.Mathlib.Omega.{arith}
use lib.Dec.{eqb}
use lib.ListN.{length, drop, get_or, length-drop}
use borrow.Author.Tests.{eqb-true}
use Rattle.trace.specs.Answer as trace
use Rattle.trace.specs.Record.{Item, word, end, read_record}
use Rattle.trace.proofs.Exact.{end-exactly}
use Rattle.trace.proofs.Traces.{word-length}
use Rattle.trace.proofs.Clash.{clash}
use Rattle.meaning.specs.Answers.{Answer, value, refused}
use Rattle.meaning.specs.Opening.{Opened, counts, counts_of, open_text}
use Rattle.meaning.specs.Fit.{History, start, onward}
use Rattle.meaning.specs.Limits.{judged}
use Rattle.meaning.specs.Calls as calls
use Rattle.meaning.specs.Calls.{Call, take, Reply, ok, bad, State, opening, reply, after, replies_from, state_from}
use Rattle.meaning.specs.Totals.{totals}
use Rattle.meaning.specs.Sheet.{tick_lines, sheet, counts_line, refusal_line, clean_line, foot}
use Rattle.rules.specs.declared.Watch.{Watch}
use Rattle.rules.specs.Watches.{watch_of}
use Rattle.monitor.specs.Calls.{reply_of, watch_after, replies_of, watch_after_all, totals_of}
use Rattle.monitor.proofs.Calls.{calls-answered, totals-right}
use Rattle.sheet.specs.Lines.{ok_line, bad_line, foot_of, run, ran, run_on, on_read, on_reply, closed, sheet_of}

-- an ok take counts
ok-ticks : (v : Watch) (w : ℕ) → reply_of v w ≡ ok → (watch_after v w).ticks ≡ suc v.ticks
unfolding watch_after
ok-ticks v w e = rw e

module _ (o : Opened) where
  -- from here on every list of calls gets the meaning's replies, and leaves the letters counted as often as they were met
  abbrev Agree : Watch → State History → Type 0
  Agree v s = (cs : List Call)
      → (replies_of v cs ≡ replies_from (judged o.limits o.monitors) (onward o.monitors) o.wires s cs)
      × (totals_of (watch_after_all v cs) ≡ totals o.monitors (state_from (judged o.limits o.monitors) (onward o.monitors) o.wires s cs).inner.ticks)

  abbrev replied : State History → ℕ → Reply
  replied s w = reply (judged o.limits o.monitors) o.wires s w

  agree-reply : (v : Watch) (s : State History) → Agree v s → (w : ℕ) (r : Reply) → reply_of v w ≡ r → replied s w ≡ r
  unfolding replies_of replies_from
  agree-reply v s a w r e = sym (ap (λ (rs : List Reply). get_or rs 0 ok) (a (take w ∷ [])).0) ∙ e

  agree_after : (v : Watch) (s : State History) → Agree v s → (w : ℕ) (r : Reply) → replied s w ≡ r → Agree (watch_after v w) (after (onward o.monitors) s w r)
  unfolding replies_of replies_from watch_after_all state_from
  agree_after v s a w r e =
      subst (λ (x : Reply). Agree (watch_after v w) (after (onward o.monitors) s w x)) e (λ cs. (ap (λ (rs : List Reply). drop 1 rs) (a (take w ∷ cs)).0, (a (take w ∷ cs)).1))

  agree-foot : (v : Watch) (s : State History) → Agree v s → foot_of v ≡ foot (totals o.monitors s.inner.ticks)
  unfolding watch_after_all state_from
  agree-foot v s a = ap foot (a []).1

  -- a run of k records, and then the last line, prints the meaning's lines
  abbrev Prints : ℕ → Type 0
  Prints k = (v : Watch) (s : State History) (before : ℕ) (rest : List ℕ) → length rest ≤ k → Agree v s
      → closed (run_on k (run v before) rest) ≡ tick_lines k o s v.ticks rest before

  module _ (k : ℕ) (next : Prints k) (v : Watch) (s : State History) (before : ℕ) (rest : List ℕ) (short : length rest ≤ suc k) (a : Agree v s) where
    on-reply : (w n : ℕ) → read_record rest before ≡ trace.value (word w n) → (r : Reply) → reply_of v w ≡ r
        → closed (on_reply r (run v before) rest w n (run_on k)) ≡ tick_lines (suc k) o s v.ticks rest before
    unfolding tick_lines
    on-reply w n e ok f =
        let p = word-length rest before w n e in
        let g = agree-reply v s a w ok f in
        rw (e, g)
        (append_assoc (ok_line v.ticks w) _ _
        ∙ ap (λ (l : List ℕ). ok_line v.ticks w ++ l)
        (next (watch_after v w) (after (onward o.monitors) s w ok) w (drop n rest) (rw length-drop (omega (arith, p.0, p.1, short))) (agree_after v s a w ok g)
        ∙ ap (λ (t : ℕ). tick_lines k o (after (onward o.monitors) s w ok) t (drop n rest) w) (ok-ticks v w f)))
    on-reply w n e (bad m) f = rw (e, agree-reply v s a w (bad m) f) (append-nil (bad_line v.ticks w m ++ foot_of v) ∙ ap (λ (l : List ℕ). bad_line v.ticks w m ++ l) (agree-foot v s a))
    on-reply w n e (calls.refused m p) f = rw (e, agree-reply v s a w (calls.refused m p) f) (append-nil (refusal_line m (v.ticks ∷ [])))

    on_read_lem : (r : trace.Answer Item) → read_record rest before ≡ r → closed (on_read r (run v before) rest (run_on k)) ≡ tick_lines (suc k) o s v.ticks rest before
    unfolding tick_lines
    on_read_lem (trace.value (word w n)) e = on-reply w n e (reply_of v w) refl
    on_read_lem (trace.value end) e = rw (e, (end-exactly rest before).0 e) (ap (λ (l : List ℕ). clean_line v.ticks ++ l) (agree-foot v s a))
    on_read_lem (trace.refused number place) e = by rest e (eqb number 13) refl
      where
        by : (bs : List ℕ) → read_record bs before ≡ trace.refused number place → (b : Bool) → eqb number 13 ≡ b
            → closed (cond b (ran [] (run v before) bs false) (ran (refusal_line number (v.ticks ∷ [])) (run v before) bs true)) ≡ tick_lines (suc k) o s v.ticks bs before
        by [] f b g = clash (cc (sym f ∙ (end-exactly [] before).1 refl))
        by (m ∷ bs) f true g = rw f (ap (λ (n : ℕ). refusal_line n (v.ticks ∷ [])) (sym (eqb-true number 13 g)))
        by (m ∷ bs) f false g = rw f (append-nil (refusal_line number (v.ticks ∷ [])))

  prints : (k : ℕ) → Prints k
  unfolding run_on tick_lines
  prints zero v s before [] short a = ap (λ (l : List ℕ). clean_line v.ticks ++ l) (agree-foot v s a)
  prints zero v s before (b ∷ rest) short a = absurd (omega (arith, short))
  prints (suc k) v s before rest short a = on_read_lem k (prints k) v s before rest short a (read_record rest before) refl

pub sheet-printed : (text records : List ℕ) → sheet_of (open_text text) records ≡ sheet text records
unfolding sheet watch_of counts_of
sheet-printed text records = by (open_text text) refl
  where
    by : (a : Answer Opened) → open_text text ≡ a → sheet_of a records ≡ sheet text records
    by (value o) e = rw e (ap (λ (l : List ℕ). counts_line (counts o) ++ l)
        (prints o (length records) (watch_of (value o)) (opening (start o.initial)) 0 records (le_refl _) (λ cs. (calls-answered text o e cs, totals-right text o e cs))))
    by (refused number place) e = rw e refl

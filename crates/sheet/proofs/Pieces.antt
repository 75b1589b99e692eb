-- However a trace is cut into pieces, what is printed is the sheet of the whole. Assumes nothing.
use mathlib.Core.Path.{◌≡◌, refl, sym, ◌∙◌, ap, subst}
use mathlib.Core.Bool.{Bool, true, false, cond}
use mathlib.Core.List.{List, [], ◌∷◌, ◌++◌, append_assoc, append-nil}
use Prim.Native.Nat.{ℕ, zero, suc, ◌≤◌}
use native.Mathlib.Omega.{arith}
use native.Mathlib.Nat.{le_refl}
use lib.Dec.{eqb, ltb}
use lib.ListN.{length, drop, length-drop}
use lib.Seq.{drop-append-le}
use borrow.Author.Tests.{ltb-true, ltb-false, eqb-false}
use Rattle.trace.specs.Answer.{Answer, value, refused}
use Rattle.trace.specs.Record.{Item, word, end, count, read_record}
use Rattle.trace.proofs.Exact.{torn-exactly, read-no-further}
use Rattle.trace.proofs.Traces.{word-length}
use Rattle.trace.proofs.Clash.{clash}
use Rattle.refusals.specs.Numbers.{torn}
use Rattle.meaning.specs.Opening.{counts_of, open_text}
use Rattle.meaning.specs.Calls as calls
use Rattle.meaning.specs.Sheet.{first_line, refusal_line, sheet}
use Rattle.rules.specs.Watches.{watch_of}
use Rattle.monitor.specs.Calls.{reply_of, watch_after}
use Rattle.sheet.specs.Lines.{Run, run, Ran, ran, ok_line, on_reply, on_read, run_on, run_over, closed, is_refused}
use Rattle.sheet.specs.Pieces.{joined, run_each, printed_in_pieces}
use Rattle.sheet.proofs.RunSteps.{run_step}
use Rattle.sheet.proofs.Printed.{sheet-printed}

-- ---- bytes behind a record

-- what is read and is not torn is read with more bytes behind it too
stays : (map : ℕ) (given t : List ℕ) (before : ℕ) (r : Answer Item) → read_record (map ∷ given) before ≡ r → (r ≡ refused torn 0 → ⊥)
    → read_record ((map ∷ given) ++ t) before ≡ r
stays map given t before r e h = by (ltb (length given) (count 8 map)) refl
  where
    by : (b : Bool) → ltb (length given) (count 8 map) ≡ b → read_record ((map ∷ given) ++ t) before ≡ r
    by true f = absurd (h (sym e ∙ (torn-exactly map given before).1 (ltb-true _ _ f)))
    by false f = read-no-further before map given t (ltb-false _ _ f) ∙ e

-- ---- a run, and more bytes

-- what is printed in all where more bytes come behind those that a run was over
abbrev continued : Ran → List ℕ → List ℕ
continued x more = x.printed ++ cond x.ended [] (closed (run_over x.after (x.left ++ more)))

abbrev Splits : Run → List ℕ → List ℕ → Type 0
Splits s a b = closed (run_over s (a ++ b)) ≡ continued (run_over s a) b

-- it stands where nothing more can be read
abbrev Rests : Run → List ℕ → Type 0
Rests s rest = run_over s rest ≡ ran [] s rest false

-- not the number of a torn record
not-torn : (k p : ℕ) (r : Answer Item) → r ≡ refused k p → eqb k torn ≡ false → r ≡ refused torn 0 → ⊥
not-torn k p r d e f = let q : k ≡ torn = cc in eqb-false k torn e q

module _ (n : ℕ) (shorter : (s : Run) (a : List ℕ) → length a ≤ n → (b : List ℕ) → Splits s a b) (s : Run) (m : ℕ) (given : List ℕ) (few : length (m ∷ given) ≤ suc n)
    (b : List ℕ) where
  abbrev a : List ℕ
  a = m ∷ given

  -- a record with the word w, of k bytes
  on-reply : (w k : ℕ) → read_record a s.before ≡ value (word w k) → (r : calls.Reply)
      → closed (on_reply r s (a ++ b) w k run_over) ≡ continued (on_reply r s a w k run_over) b
  on-reply w k e calls.ok =
      let p = word-length a s.before w k e in
      let next = run (watch_after s.watch w) w in
      let line = ok_line s.watch.ticks w in
      append_assoc line _ _
      ∙ ap (λ (l : List ℕ). line ++ l)
      (ap (λ (l : List ℕ). closed (run_over next l)) (drop-append-le k a b p.1)
      ∙ shorter next (drop k a) (rw length-drop (omega (arith, p.0, p.1, few))) b)
      ∙ sym (append_assoc line _ _)
  on-reply w k e (calls.bad i) = refl
  on-reply w k e (calls.refused i p) = refl

  on_read_lem : (r : Answer Item) → read_record a s.before ≡ r → Splits s a b
  on_read_lem (value (word w k)) e =
      ap closed (run_step s (a ++ b) ∙ ap (λ (x : Answer Item). on_read x s (a ++ b) run_over) (stays m given b s.before _ e (λ f. clash (cc))))
      ∙ on-reply w k e (reply_of s.watch w)
      ∙ sym (ap (λ (x : Ran). continued x b) (run_step s a ∙ ap (λ (x : Answer Item). on_read x s a run_over) e))
  on_read_lem (value end) e = sym (ap (λ (x : Ran). continued x b) (run_step s a ∙ ap (λ (x : Answer Item). on_read x s a run_over) e))
  on_read_lem (refused k p) e = by (eqb k torn) refl
    where
      by : (t : Bool) → eqb k torn ≡ t → Splits s a b
      by true f =
          sym (ap (λ (x : Ran). continued x b)
          (run_step s a ∙ ap (λ (x : Answer Item). on_read x s a run_over) e ∙ ap (λ (t : Bool). cond t (ran [] s a false) (ran (refusal_line k (s.watch.ticks ∷ [])) s a true)) f))
      by false f =
          ap closed
          (run_step s (a ++ b) ∙ ap (λ (x : Answer Item). on_read x s (a ++ b) run_over) (stays m given b s.before _ e (not-torn k p _ refl f))
          ∙ ap (λ (t : Bool). cond t (ran [] s (a ++ b) false) (ran (refusal_line k (s.watch.ticks ∷ [])) s (a ++ b) true)) f)
          ∙ sym (ap (λ (x : Ran). continued x b)
          (run_step s a ∙ ap (λ (x : Answer Item). on_read x s a run_over) e ∙ ap (λ (t : Bool). cond t (ran [] s a false) (ran (refusal_line k (s.watch.ticks ∷ [])) s a true)) f))

-- A run over some bytes and then over those that it left, with more behind them, prints what a run over all of them prints.
splits : (n : ℕ) (s : Run) (a : List ℕ) → length a ≤ n → (b : List ℕ) → Splits s a b
unfolding run_on
splits zero s [] h b = refl
splits zero s (m ∷ given) h b = absurd (omega (arith, h))
splits (suc n) s [] h b = refl
splits (suc n) s (m ∷ given) h b = on_read_lem n (splits n) s m given h b (read_record (m ∷ given) s.before) refl

-- ---- what is left

-- a run that was not ended stands where nothing more can be read
abbrev Stands : Ran → Type 0
Stands x = x.ended ≡ false → Rests x.after x.left

module _ (n : ℕ) (shorter : (s : Run) (a : List ℕ) → length a ≤ n → Stands (run_over s a)) (s : Run) (m : ℕ) (given : List ℕ) (few : length (m ∷ given) ≤ suc n) where
  abbrev c : List ℕ
  c = m ∷ given

  stands-reply : (w k : ℕ) → read_record c s.before ≡ value (word w k) → (r : calls.Reply) → Stands (on_reply r s c w k run_over)
  stands-reply w k e calls.ok =
      let p = word-length c s.before w k e in
      shorter (run (watch_after s.watch w) w) (drop k c) (rw length-drop (omega (arith, p.0, p.1, few)))
  stands-reply w k e (calls.bad i) = λ f. clash (cc)
  stands-reply w k e (calls.refused i p) = λ f. clash (cc)

  over : (r : Answer Item) → read_record c s.before ≡ r → run_over s c ≡ on_read r s c run_over
  over r e = run_step s c ∙ ap (λ (x : Answer Item). on_read x s c run_over) e

  stands_read : (r : Answer Item) → read_record c s.before ≡ r → Stands (run_over s c)
  stands_read (value (word w k)) e = subst Stands (sym (over _ e)) (stands-reply w k e (reply_of s.watch w))
  stands_read (value end) e = subst Stands (sym (over _ e)) (λ f. over _ e)
  stands_read (refused k p) e = by (eqb k torn) refl
    where
      by : (t : Bool) → eqb k torn ≡ t → Stands (run_over s c)
      by true f =
          let q = over _ e ∙ ap (λ (t : Bool). cond t (ran [] s c false) (ran (refusal_line k (s.watch.ticks ∷ [])) s c true)) f in
          subst Stands (sym q) (λ g. q)
      by false f =
          let q = over _ e ∙ ap (λ (t : Bool). cond t (ran [] s c false) (ran (refusal_line k (s.watch.ticks ∷ [])) s c true)) f in
          subst Stands (sym q) (λ g. clash (cc))

stands : (n : ℕ) (s : Run) (a : List ℕ) → length a ≤ n → Stands (run_over s a)
unfolding run_on
stands zero s [] h = λ e. refl
stands zero s (m ∷ given) h = absurd (omega (arith, h))
stands (suc n) s [] h = λ e. refl
stands (suc n) s (m ∷ given) h = stands_read n (stands n) s m given h (read_record (m ∷ given) s.before) refl

-- ---- all pieces

each-run : (ps : List (List ℕ)) (s : Run) (left : List ℕ) → Rests s left → run_each s left ps ≡ closed (run_over s (left ++ joined ps))
unfolding run_each
each-run [] s left h = sym (ap (λ (l : List ℕ). closed (run_over s l)) (append-nil left) ∙ ap closed h)
each-run (p ∷ ps) s left h =
    ap (λ (l : List ℕ). x.printed ++ l) (by x.ended refl (λ r. each-run ps x.after x.left r))
    ∙ sym (splits (length (left ++ p)) s (left ++ p) (le_refl _) (joined ps))
    ∙ ap (λ (l : List ℕ). closed (run_over s l)) (append_assoc left p (joined ps))
  where
    x : Ran
    x = run_over s (left ++ p)

    more : List ℕ
    more = closed (run_over x.after (x.left ++ joined ps))

    by : (t : Bool) → x.ended ≡ t → (Rests x.after x.left → run_each x.after x.left ps ≡ more) → cond t [] (run_each x.after x.left ps) ≡ cond t [] more
    by true e ih = refl
    by false e ih = ih (stands (length (left ++ p)) s (left ++ p) (le_refl _) e)

-- For every way of cutting a trace into pieces, `begin`, the runs and `finish` print the sheet.
pub pieces-printed : (text : List ℕ) (pieces : List (List ℕ)) → printed_in_pieces text pieces ≡ sheet text (joined pieces)
unfolding printed_in_pieces run_on
pieces-printed text ps =
    ap (λ (l : List ℕ). first_line (counts_of (open_text text)) ++ cond (is_refused (open_text text)) [] l) (each-run ps (run (watch_of (open_text text)) 0) [] refl)
    ∙ sheet-printed text (joined ps)

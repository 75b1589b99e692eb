-- The sheet put together from its lines. Assumes nothing.
use mathlib.Core.Path.{◌≡◌, refl, sym, ◌∙◌, ap, ap₂}
use mathlib.Core.Bool.{Bool, false, cond}
use mathlib.Core.List.{List, [], ◌++◌}
use Prim.Native.Nat.{ℕ, ◌+◌, ◌-◌, ◌*◌, ◌<◌, ◌≤◌, min}
use native.Mathlib.Omega.{arith}
use lib.ListN.{length, drop, length-drop}
use lib.Seq.{sets, sets-eq}
use Rattle.meaning.specs.Answers as meaning
use Rattle.meaning.specs.Opening.{Opened, Counts, counts_of, open_text}
use Rattle.meaning.specs.Sheet.{first_line, sheet, lent_sheet, lent_length}
use Rattle.trace.specs.Whole.{number_or_zero}
use Rattle.trace.proofs.Lending.{lend-short, lend-fits}
use Rattle.std.specs.Prelude.{Result, Ok, Err, is_err}
use Rattle.rules.specs.declared.Counts as rules
use Rattle.rules.specs.declared.Refused.{Refused}
use Rattle.rules.specs.declared.Refused.TheVariants.{AtByte, AtLetter}
use Rattle.rules.specs.declared.Watch.{Watch}
use Rattle.rules.specs.Watches.{watch_of, shown_outcome}
use Rattle.sheet.specs.Lines.{Run, run, Ran, run_over, closing, closed, is_refused}
use Rattle.sheet.specs.Pages.{Printed}
use Rattle.sheet.specs.Runs.{RanOver}
use Rattle.sheet.specs.declared.page.Page.{Page}
use Rattle.sheet.specs.declared.ticking.Ran.{Ran as CodeRan}
use Rattle.sheet.proofs.PageSteps.{both, printed_as}
use Rattle.sheet.proofs.Lengths as lengths
use Rattle.sheet.proofs.Printed.{sheet-printed}

-- ---- the first line

pub refused-is : (o : Result rules.Counts Refused) → is_err o ≡ is_refused (shown_outcome o)
refused-is (Ok n) = refl
refused-is (Err (AtByte n p)) = refl
refused-is (Err (AtLetter n m l)) = refl

counts-refused : (a : meaning.Answer Opened) → is_refused (counts_of a) ≡ is_refused a
unfolding counts_of
counts-refused (meaning.value o) = refl
counts-refused (meaning.refused n p) = refl

-- x is what opening was said to answer
module _ (a : meaning.Answer Opened) (x : meaning.Answer Counts) (d : x ≡ counts_of a) where
  pub first-told : (b : Bool) → b ≡ is_refused x → b ≡ is_refused a
  first-told b e = e ∙ ap is_refused d ∙ counts-refused a

  pub first-printed : (out new : List ℕ) → new ≡ sets out 0 (first_line x) → new ≡ sets out 0 (first_line (counts_of a))
  first-printed out new e = e ∙ ap (λ (y : meaning.Answer Counts). sets out 0 (first_line y)) d

  pub first-long : (r : ℕ) → r ≡ length (first_line x) → r ≡ length (first_line (counts_of a))
  first-long r e = e ∙ ap (λ (y : meaning.Answer Counts). length (first_line y)) d

-- ---- what stands behind the first line

-- behind a run that no line has ended
pub rest-closed : {records : List ℕ} {x : Ran} {r : CodeRan} {p q s : Page} → RanOver x records p q r → r.ended ≡ false → Printed q s (closing r.watch (length records - r.used)) → Printed p s (closed x)
rest-closed {records} {x} {r} m e f =
    printed_as
    (ap₂ (λ (u : Run) (n : ℕ). x.printed ++ closing u.watch n) m.after (sym (length-drop r.used records) ∙ ap length m.left)
    ∙ ap (λ (z : Bool). x.printed ++ cond z [] (closing x.after.watch (length x.left))) (sym e ∙ m.ended)) (both m.printed f)

-- of a text that was not refused
pub rest-opened : {A : Type 0} (a : meaning.Answer A) (x : Ran) {p q : Page} → false ≡ is_refused a → Printed p q (closed x) → Printed p q (cond (is_refused a) [] (closed x))
rest-opened a x e = printed_as (ap (λ (c : Bool). cond c [] (closed x)) e)

-- ---- the sheet

-- opening answered x with the watch v
module _ (text records : List ℕ) (x : meaning.Answer Counts) (v : Watch) (d : x ≡ counts_of (open_text text)) (w : v ≡ watch_of (open_text text)) where
  -- the first line and the rest behind it are the sheet
  pub sheet-lines : first_line x ++ cond (is_refused x) [] (closed (run_over (run v 0) records)) ≡ sheet text records
  sheet-lines =
      let a = open_text text in
      ap₂ (λ (y : meaning.Answer Counts) (u : Watch). first_line y ++ cond (is_refused y) [] (closed (run_over (run u 0) records))) d w
      ∙ ap (λ (c : Bool). first_line (counts_of a) ++ cond c [] (closed (run_over (run (watch_of a) 0) records))) (counts-refused a)
      ∙ sheet-printed text records

  -- it is short, behind a first line that is
  pub sheet-bound : length (first_line x) ≤ 128 → length (sheet text records) ≤ 256 + 24 * min v.letters 256 + 64 * min (length records) 1000000
  sheet-bound l =
      let e = ap (λ (y : meaning.Answer Counts). length (first_line y)) d in
      let h = lengths.sheet-short text records (omega (arith, e, l)) in
      let k = ap (λ (u : Watch). u.letters) w in
      omega (arith, h, k)

-- ---- the lent range

module _ (text records range : List ℕ) where
  pub sheet-short : (n : ℕ) → n ≡ length (sheet text records) → length range < n → (0 ≡ lent_length text records range) × (range ≡ (lent_sheet text records range).list)
  unfolding lent_sheet
  sheet-short n long h = let p = lend-short (sheet text records) range n long h in (ap number_or_zero p.0, p.1)

  -- printed where it fits
  pub sheet-fits : length (sheet text records) ≤ length range → (new : List ℕ) (r : ℕ) → new ≡ sets range 0 (sheet text records) → r ≡ 0 + length (sheet text records)
      → (r ≡ lent_length text records range) × (new ≡ (lent_sheet text records range).list)
  unfolding lent_sheet
  sheet-fits h new r e f =
      let k : r ≡ length (sheet text records) = omega (arith, f) in
      let q = sets-eq (sheet text records) range 0 (omega (arith, h)) ∙ ap (λ (m : ℕ). sheet text records ++ drop m range) (sym f) in
      let p = lend-fits (sheet text records) range r k new (omega (arith, h, k)) (e ∙ q) in
      (ap number_or_zero p.0, p.1)

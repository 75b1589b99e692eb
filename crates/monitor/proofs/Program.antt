-- What stands in the watch of an accepted text: the rows' words are those of meaning's table, each letter's numbers stand at its own index, each letter's row and each
-- monitor's own row and first letter are known. So a tick over the watch's numbers is one over the rows of the program. Assumes nothing.
use mathlib.Core.Path.{◌≡◌, refl, sym, ap, ap₂, ◌∙◌, subst}
use mathlib.Core.Bool.{cond}
use mathlib.Core.List.{List, [], ◌∷◌, ◌++◌, map}
use Prim.Native.Nat.{ℕ, suc, ◌+◌, ◌-◌, ◌<◌, ◌≤◌, min}
use native.Mathlib.Omega.{arith}
use borrow.Author.Tests.{lt-ltb, le-ltb}
use lib.ListN.{length, length-map, get_or, take, drop, replicate, length-replicate}
use lib.Seq.{sets, sets-eq}
use Rattle.meaning.specs.Lists.{◌∈◌, total}
use Rattle.meaning.specs.Answers.{value}
use Rattle.meaning.specs.Expression.{Letter, Exp, letters, size, rows, renumbered}
use Rattle.meaning.specs.Fit.{Tick, meets}
use Rattle.meaning.specs.Opening.{Opened, as_opened, open_text}
use Rattle.meaning.specs.Table.{Table, laid_all, no_row, as_table}
use Rattle.meaning.proofs.Numbering.{renumbered-size, renumbered-rows}
use Rattle.meaning.proofs.RowCount.{total-renumbered}
use Rattle.meaning.proofs.Rows.{Stands, rows-no-more}
use Rattle.meaning.proofs.Openings.{accepted-text, rows_fit}
use Rattle.meaning.proofs.Openings as openings
use Rattle.words.specs.Words.{part0}
use Rattle.rules.specs.Laying.{row_word}
use Rattle.rules.specs.Monitors.{codes_all, starts_by, with_monitors}
use Rattle.rules.specs.Watches.{no_lists, counted_of, windows_of, letters_from, watch_by, watch_of}
use Rattle.rules.specs.declared.Watch.{Watch}
use Rattle.monitor.specs.Letters.{Given, letter_met}
use Rattle.monitor.specs.Ticks.{layout, within, letters_end}
use Rattle.monitor.specs.Calls.{layout_of}
use Rattle.monitor.proofs.Coded.{Threaded, Coded}
use Rattle.meaning.proofs.Bounded.{few_monitors}
use Rattle.monitor.proofs.Stored.{stands_at, stands_self, each_at, stored, taken, drop-replicate}
use Rattle.monitor.proofs.Numbered.{program_of, InOrder, numbered-in-order, total-numbered, length-numbered, watch-numbered, numbers-below}
use Rattle.monitor.proofs.RowWords.{word_of, RowFits, Tested, words-laid, words_long, row_word_lem, all_fit, all-threaded, row-coded}
use Rattle.monitor.proofs.LetterIndex.{LetterStands, all-letters}
use Rattle.monitor.proofs.LetterRows.{rows_of_letters, kinds, kinds_kept, HeldAll, all-letters-laid, rows-of-letters-long, all-rows-low, all_held}

-- the rows of an opened program, and the row of its letter i
abbrev pub table_of : Opened → Table
table_of o = as_table (laid_all 0 (program_of o))

abbrev pub place_of : Opened → ℕ → ℕ
place_of o i = get_or (watch_of (value o)).places i 0

-- ---- each monitor's own row and first letter

-- monitor k of the watch v has the row r and the letters from l on
pub record MonitorLaid (v : Watch) (k r l : ℕ) (m : Exp) : Type 0 where
  pub present : k < v.monitors
  pub own : get_or v.own k 0 ≡ r
  pub first : get_or v.firsts k 0 ≡ l
  pub end : letters_end v.firsts v.monitors v.letters k ≡ l + size m
  pub within : l + size m ≤ v.letters

-- so do the monitors from number k on; behind the last all are counted
abbrev pub LaidFrom : Watch → (k r l : ℕ) → List Exp → Type 0
LaidFrom v k r l [] = (k ≡ v.monitors) × (r ≡ v.rows) × (l ≡ v.letters)
LaidFrom v k r l (m ∷ ms) = MonitorLaid v k r l m × LaidFrom v (suc k) (r + rows m) (l + size m) ms

module _ (v : Watch) (few : v.letters ≤ 256) where
  -- the letters end where the next monitor's begin, or the text's end
  end-at : (k l : ℕ) (ms : List Exp) → suc k + length ms ≡ v.monitors → l + total size ms ≡ v.letters → Stands (λ i. get_or v.firsts i 0) (suc k) (starts_by size l ms)
      → letters_end v.firsts v.monitors v.letters k ≡ l
  unfolding starts_by
  end-at k l [] c t s = ap (λ b. cond b (min (get_or v.firsts (suc k) 0) 256) v.letters) (le-ltb (suc k) v.monitors (omega arith)) ∙ omega arith
  end-at k l (m ∷ ms) c t s =
      ap (λ b. cond b (min (get_or v.firsts (suc k) 0) 256) v.letters) (lt-ltb (suc k) v.monitors (omega arith)) ∙ omega (arith, s.0)

  laid_from : (k r l : ℕ) (ms : List Exp) → k + length ms ≡ v.monitors → r + total rows ms ≡ v.rows → l + total size ms ≡ v.letters
      → Stands (λ i. get_or v.own i 0) k (starts_by rows r ms) → Stands (λ i. get_or v.firsts i 0) k (starts_by size l ms) → LaidFrom v k r l ms
  unfolding starts_by
  laid_from k r l [] c q t s p = (omega arith, omega arith, omega arith)
  laid_from k r l (m ∷ ms) c q t s p = (
    record {
      present = omega arith;
      own = s.0;
      first = p.0;
      end = end-at k (l + size m) ms (omega arith) (omega arith) p.1;
      within = omega arith;
    },
    laid_from (suc k) (r + rows m) (l + size m) ms (omega arith) (omega arith) (omega arith) s.1 p.1,
  )

starts-long : (f : Exp → ℕ) (n : ℕ) (ms : List Exp) → length (starts_by f n ms) ≡ length ms
unfolding starts_by
starts-long f n [] = refl
starts-long f n (m ∷ ms) = ap suc (starts-long f (n + f m) ms)

-- ---- the watch of an accepted text

-- the counts of an opened program, and that they are within the limits
pub record Counted (o : Opened) : Type 0 where
  pub rows_are : total rows o.monitors ≡ o.row_count
  pub letters_are : total size o.monitors ≡ o.letter_count
  pub few_rows : o.row_count < 1024
  pub few_letters : o.letter_count ≤ 256
  pub few_monitors : length o.monitors ≤ 32

pub text-counted : (text : List ℕ) (o : Opened) → open_text text ≡ value o → Counted o
unfolding as_opened
text-counted text o e =
    let a = accepted-text text o e in
    let ms = a.program.monitors in
    let same : o.monitors ≡ map (renumbered 0) ms = sym (ap (λ z. z.monitors) a.opens) in
    let count : total size ms ≡ o.letter_count = ap (λ z. z.letter_count) a.opens in
    record {
      rows_are = sym (rows-no-more 0 o.monitors) ∙ (openings.rows_right text o e).0;
      letters_are = ap (total size) same ∙ total-renumbered size (renumbered-size 0) ms ∙ count;
      few_rows = rows_fit text o e;
      few_letters = omega (arith, count, a.few);
      few_monitors = omega (arith, ap length same, length-map ms (renumbered 0), few_monitors text a.program a.reads);
    }

module _ (o : Opened) (c : Counted o) where
  -- its monitors, numbered, are as many and as large
  pub in_order : InOrder 0 (program_of o)
  in_order = numbered-in-order 0 o.monitors

  pub program-rows : total rows (program_of o) ≡ o.row_count
  program-rows = total-numbered rows renumbered-rows 0 o.monitors ∙ c.rows_are

  pub program-letters : total size (program_of o) ≡ o.letter_count
  program-letters = total-numbered size renumbered-size 0 o.monitors ∙ c.letters_are

  pub program-length : length (program_of o) ≡ length o.monitors
  program-length = length-numbered 0 o.monitors

  -- The word of each row is that of meaning's table.
  pub words_right : (r : ℕ) → r < o.row_count → get_or (watch_of (value o)).table r 0 ≡ word_of (table_of o r)
  words_right r h =
      ap (λ (v : Watch). get_or v.table r 0) (watch-numbered o)
      ∙ row_word_lem (program_of o) in_order (omega (arith, program-rows, c.few_rows)) r (omega (arith, program-rows))

  -- The table is the words of meaning's rows, and zeros behind them.
  pub table-right : (watch_of (value o)).table ≡ map word_of (laid_all 0 (program_of o)) ++ replicate (1024 - o.row_count) 0
  table-right =
      let long : length (map word_of (laid_all 0 (program_of o))) ≡ o.row_count = length-map (laid_all 0 (program_of o)) word_of ∙ rows-no-more 0 (program_of o) ∙ program-rows in
      ap (λ (v : Watch). v.table) (watch-numbered o)
      ∙ ap (sets (replicate 1024 0) 0) (words-laid (program_of o) in_order)
      ∙ sets-eq (map word_of (laid_all 0 (program_of o))) (replicate 1024 0) 0 (omega (arith, long, c.few_rows, length-replicate {A = ℕ} 1024 0))
      ∙ ap (λ (z : List ℕ). map word_of (laid_all 0 (program_of o)) ++ z)
      (let z : 0 + length (map word_of (laid_all 0 (program_of o))) ≡ o.row_count = omega (arith, long) in
      ap (λ (k : ℕ). drop k (replicate 1024 0)) z ∙ drop-replicate o.row_count 1024 0)

  -- all rows point at rows, and letters are as Q says
  pub rows_right : (Q : Letter → Type 0) → ((m : Exp) → m ∈ program_of o → (x : Letter) → x ∈ letters m → Q x) → (r : ℕ) → r < o.row_count
      → RowFits Q o.row_count (table_of o r)
  rows_right Q q r h =
      each_at (RowFits Q o.row_count) no_row (laid_all 0 (program_of o)) r (omega (arith, rows-no-more 0 (program_of o), program-rows))
      (all_fit Q o.row_count 0 (program_of o) (omega (arith, program-rows)) q)

  pub numbers-low : (m : Exp) → m ∈ program_of o → (x : Letter) → x ∈ letters m → x.number < o.letter_count
  numbers-low m i x j = omega (arith, numbers-below 0 (program_of o) in_order m i x j, program-letters)

  -- The table's rows are those of the watch's words, where the letters' tests are those of its numbers.
  pub program-coded : (g : Given) (t : Tick) → g.table ≡ (watch_of (value o)).table
      → ((m : Exp) → m ∈ program_of o → (x : Letter) → x ∈ letters m → letter_met g x.number ≡ meets x t) → Coded (table_of o) g t o.row_count
  program-coded g t e met = record {
    few = omega (arith, c.few_rows);
    rows = λ r h.
        let fits = rows_right (Tested g t) (λ m i x j. (omega (arith, numbers-low m i x j, c.few_letters), met m i x j)) r h in
        let (a, b) = row-coded g t o.row_count (get_or g.table r 0) (omega (arith, c.few_rows)) (table_of o r) (ap (λ (T : List ℕ). get_or T r 0) e ∙ words_right r h) fits in
        record {
          coded = a;
          up = b;
          up_within = fits.up-low;
          threaded = each_at (Threaded (table_of o)) no_row (laid_all 0 (program_of o)) r (omega (arith, rows-no-more 0 (program_of o), program-rows))
              (all-threaded (table_of o) 0 (program_of o) (stands_self no_row (laid_all 0 (program_of o))));
        };
  }

  -- Each letter's numbers stand at its own.
  pub letters-stand : (m : Exp) → m ∈ program_of o → (x : Letter) → x ∈ letters m → LetterStands (watch_of (value o)) x
  letters-stand m i x j =
      subst (λ (v : Watch). LetterStands v x) (sym (watch-numbered o))
      (all-letters (program_of o) in_order (omega (arith, program-letters, c.few_letters)) o.row_count o.letter_count (length o.monitors) o.wires o.initial (counted_of o) (windows_of o) m i x j)

  -- the kinds that the watch's places were found by
  the-kinds : map part0 (take o.row_count (with_monitors no_lists 0 0 0 (program_of o)).table) ≡ kinds (laid_all 0 (program_of o))
  the-kinds =
      ap (map part0) (taken 1024 o.row_count (map row_word (codes_all 0 0 (program_of o))) (words_long (program_of o) in_order ∙ program-rows) (omega (arith, c.few_rows)) ∙ words-laid (program_of o) in_order)
      ∙ kinds_kept (laid_all 0 (program_of o))

  places-stand : Stands (place_of o) 0 (rows_of_letters 0 (program_of o))
  places-stand =
      subst (λ (v : Watch). Stands (λ i. get_or v.places i 0) 0 (rows_of_letters 0 (program_of o))) (sym (watch-numbered o))
      (subst (λ (xs : List ℕ). Stands (λ i. get_or (sets (replicate 256 0) 0 xs) i 0) 0 (rows_of_letters 0 (program_of o)))
      (sym (ap (letters_from 0) the-kinds ∙ all-letters-laid 0 (program_of o)))
      (stored 256 (rows_of_letters 0 (program_of o)) (omega (arith, rows-of-letters-long 0 (program_of o), program-letters, c.few_letters))))

  -- The table holds the monitors, and the watch's places tell their letters' rows.
  pub program-held : HeldAll (table_of o) (place_of o) 0 (program_of o)
  program-held = all_held (table_of o) (place_of o) 0 0 (program_of o) in_order (stands_self no_row (laid_all 0 (program_of o))) places-stand

  pub places-low : (i : ℕ) → i < o.letter_count → place_of o i < o.row_count
  places-low i h =
      let xs = rows_of_letters 0 (program_of o) in
      let l : i < length xs = omega (arith, rows-of-letters-long 0 (program_of o), program-letters) in
      let e : i ≡ 0 + i = omega arith in
      subst (λ (p : ℕ). p < o.row_count) (sym (ap (place_of o) e ∙ stands_at (place_of o) 0 0 xs i l places-stand))
      (each_at (λ (p : ℕ). p < o.row_count) 0 xs i l (all-rows-low o.row_count 0 (program_of o) (omega (arith, program-rows))))

  pub rows-counted : (watch_of (value o)).rows ≡ o.row_count
  unfolding watch_of
  rows-counted = refl

  pub letters-counted : (watch_of (value o)).letters ≡ o.letter_count
  unfolding watch_of
  letters-counted = refl

  pub monitors-counted : (watch_of (value o)).monitors ≡ length o.monitors
  unfolding watch_of
  monitors-counted = refl

  -- Each monitor's own row and letters are where they stand.
  pub program-laid : LaidFrom (watch_of (value o)) 0 0 0 (program_of o)
  program-laid =
      laid_from (watch_of (value o)) (omega (arith, letters-counted, c.few_letters)) 0 0 0 (program_of o) (omega (arith, monitors-counted, program-length))
      (omega (arith, rows-counted, program-rows)) (omega (arith, letters-counted, program-letters)) (starts rows (λ v. v.own) refl) (starts size (λ v. v.firsts) refl)
    where
      starts : (f : Exp → ℕ) (field : Watch → List ℕ)
          → field (watch_by (with_monitors no_lists 0 0 0 (program_of o)) o.row_count o.letter_count (length o.monitors) o.wires o.initial (counted_of o) (windows_of o)) ≡ sets (replicate 32 0) 0 (starts_by f 0 (program_of o))
          → Stands (λ i. get_or (field (watch_of (value o))) i 0) 0 (starts_by f 0 (program_of o))
      starts f field e =
          subst (λ (K : List ℕ). Stands (λ i. get_or K i 0) 0 (starts_by f 0 (program_of o))) (sym (ap field (watch-numbered o) ∙ e))
          (stored 32 (starts_by f 0 (program_of o)) (omega (arith, starts-long f 0 (program_of o), program-length, c.few_monitors)))

  -- no count of the watch is cut
  pub within_same : within (layout_of (watch_of (value o))) ≡ layout_of (watch_of (value o))
  within_same =
      ap₂ (λ (m l : ℕ). layout (watch_of (value o)).places (watch_of (value o)).own (watch_of (value o)).firsts m l)
      (omega (arith, monitors-counted, c.few_monitors)) (omega (arith, letters-counted, c.few_letters))

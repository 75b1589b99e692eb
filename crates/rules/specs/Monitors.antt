-- The monitors of a text by their productions' cells, and what opening them answers (docs/REFERENCE.md, X9, X10 and S3): a refusal by one of the rules 8 to
-- 12, or a table with their rows and letters one behind the other. Assumes nothing.
use Rattle.std.specs.Prelude.{Option, Some, None, Result, Ok, Err, IfOk, List, [], ◌∷◌, ◌++◌, map, ◌≡◌, ℕ, suc, ◌+◌, ◌*◌, ◌≤◌, length, get_or}
use Rattle.std.proofs.lemmas.List.Edits.{sets}
use Rattle.refusals.specs.Numbers.{long_run}
use Rattle.refusals.specs.Refusals.{number_of}
use Rattle.refusals.specs.declared.Refusal.TheVariants as refusal
use Rattle.meaning.specs.Lists.{each, total}
use Rattle.meaning.specs.Answers.{Answer, refused, byte, letter_of}
use Rattle.meaning.specs.Expression.{Exp, letters, size, rows, renumbered}
use Rattle.meaning.specs.ShapeTests.{Shape, accepted, turned_away, shape}
use Rattle.meaning.specs.Opening.{Opened, too_long, misshapen}
use Rattle.shape.specs.Walk.{kinds, lefts, rights}
use Rattle.shape.specs.Judge.{judge_of}
use Rattle.shape.specs.declared.Fault.{Fault}
use Rattle.shape.specs.declared.Fault.TheVariants.{OpenEnd, Fork}
use Rattle.rules.specs.Cells.{ProductionAt}
use Rattle.rules.specs.Laying.{RowCode, row_codes, with_rows, LetterLists, letters_in, with_letters, StoredIn}
use Rattle.rules.specs.declared.lay.Tables.{Tables}
use Rattle.rules.specs.declared.lay.Laid.{Laid}
use Rattle.rules.specs.declared.opening.LetterFault.{LetterFault}
use Rattle.rules.specs.declared.opening.Starts.{Starts}
use Rattle.rules.specs.declared.Counts.{Counts}
use Rattle.rules.specs.declared.Refused.{Refused}
use Rattle.rules.specs.declared.Refused.TheVariants.{AtByte, AtLetter}

-- ---- monitors

-- the monitors from number i on: M has the cell of each one's production
unfoldable pub Listed : (P : List ℕ) → (c : ℕ) → (M : List ℕ) → (i : ℕ) → List Exp → Type 0
Listed P c M i [] = Unit {0}
Listed P c M i (m ∷ ms) = ProductionAt P c (get_or M i 0) m × Listed P c M (suc i) ms

pub record MonitorsAre (P : List ℕ) (c : ℕ) (M : List ℕ) (count : ℕ) (ms : List Exp) : Type 0 where
  pub within : c ≤ length P
  pub number : count ≡ length ms
  pub few : count ≤ 32
  pub cells : Listed P c M 0 ms

abbrev pub SomeMonitors : (P M : List ℕ) → (count : ℕ) → Type 0
SomeMonitors P M count = (c : ℕ) × (ms : List Exp) × MonitorsAre P c M count ms

-- the same where rule 8 is kept
abbrev pub FewLetters : (P M : List ℕ) → (count : ℕ) → Type 0
FewLetters P M count = (c : ℕ) × (ms : List Exp) × MonitorsAre P c M count ms × (total size ms ≤ 256)

-- rule 8, X9: "the first monitor that takes the letters, counted from monitor 0 on, beyond 256", or none
unfoldable pub FirstLong : (ms : List Exp) → Option ℕ → Type 0
FirstLong ms None = (total size ms ≤ 256) × ((o : Answer Opened) → too_long 0 0 ms o ≡ o)
FirstLong ms (Some i) = (o : Answer Opened) → too_long 0 0 ms o ≡ refused long_run (letter_of i 0)

-- ---- one monitor

-- the lists are as long as a watch's arrays
pub record Arrays (T : List ℕ) (L : LetterLists) : Type 0 where
  pub table : length T ≡ 1024
  pub looks : length L.look ≡ 256
  pub wants : length L.want ≡ 256
  pub helds : length L.held ≡ 256
  pub links : length L.links ≡ 1024
  pub numbers : length L.numbers ≡ 1024

abbrev pub ArraysIn : Tables → Type 0
ArraysIn A = Arrays A.table (letters_in A)

-- a monitor's cell, and where its rows and letters go: no monitor has more than four rows a letter
pub record MonitorAt (P : List ℕ) (c cell row index : ℕ) (m : Exp) : Type 0 where
  pub within : c ≤ length P
  pub production : ProductionAt P c cell m
  pub space : index + size m ≤ 256
  pub low : row ≤ 4 * index

abbrev pub SomeMonitor : List ℕ → (cell row index : ℕ) → Type 0
SomeMonitor P cell row index = (c : ℕ) × (m : Exp) × MonitorAt P c cell row index m

-- what an answer says: the rule's number and the letter's, or no fault
abbrev pub shown_shape : Result Laid LetterFault → Shape
shown_shape (Ok x) = accepted
shown_shape (Err e) = turned_away (number_of e.rule) e.letter

-- rules 11 and 12 are broken
abbrev pub letter_fault : Fault → LetterFault
letter_fault (OpenEnd n) = record { rule = refusal.OpenEnd; letter = n }
letter_fault (Fork n) = record { rule = refusal.Fork; letter = n }

-- it is stored, and rules 11 and 12 are asked of its rows
pub record Ruled (row index : ℕ) (e : Exp) (A A' : Tables) (r : Result Laid LetterFault) : Type 0 where
  pub next : Laid
  pub stored : StoredIn row row index e A A' next
  pub told : IfOk r (λ x. x ≡ next)
  pub answers : shown_shape r ≡ judge_of (kinds A'.table) (lefts A'.table) (rights A'.table) A'.look A'.want row index next.letter

-- X10: rules 9 to 12, and what is stored where they are kept
pub record Opens (row index : ℕ) (m : Exp) (A A' : Tables) (r : Result Laid LetterFault) : Type 0 where
  pub answers : shown_shape r ≡ shape (renumbered 0 m)
  pub stored : IfOk r (λ x. StoredIn row row index m A A' x)

-- ---- all monitors

-- the numbers of the monitors' rows from row r on, where the first letter has the index l; a monitor's own row points up at itself
unfoldable pub codes_all : (r l : ℕ) → List Exp → List RowCode
codes_all r l [] = []
codes_all r l (m ∷ ms) = row_codes r r l m ++ codes_all (r + rows m) (l + size m) ms

-- each monitor's own row, and the index of its first letter
unfoldable pub starts_by : (Exp → ℕ) → ℕ → List Exp → List ℕ
starts_by f n [] = []
starts_by f n (m ∷ ms) = n ∷ starts_by f (n + f m) ms

-- the arrays of a table: rows, letters, and each monitor's own row and first letter
pub record Lists : Type 0 where
  pub table : List ℕ
  pub letters_of : LetterLists
  pub own : List ℕ
  pub firsts : List ℕ

abbrev pub lists : (table : List ℕ) → LetterLists → (own firsts : List ℕ) → Lists
lists T L S F = record { table = T; letters_of = L; own = S; firsts = F }

abbrev pub lists_in : Tables → Starts → Lists
lists_in A S = lists A.table (letters_in A) S.own S.firsts

-- with monitors stored: the next one has the number i, the row r and the first letter l
abbrev pub with_monitors : Lists → (i r l : ℕ) → List Exp → Lists
with_monitors A i r l ms =
    lists (with_rows A.table r (codes_all r l ms)) (with_letters A.letters_of l (each ms letters)) (sets A.own i (starts_by rows r ms))
    (sets A.firsts i (starts_by size l ms))

-- S3: all monitors are stored, and both counts are told
pub record AllStored (ms : List Exp) (A A' : Lists) (r l : ℕ) : Type 0 where
  pub tables : A' ≡ with_monitors A 0 0 0 ms
  pub row_count : r ≡ total rows ms
  pub letter_count : l ≡ total size ms

-- what a refusal of the code says
abbrev pub refused_as : {T : Type 0} → Refused → Answer T
refused_as (AtByte n p) = refused (number_of n) (byte p)
refused_as (AtLetter n m l) = refused (number_of n) (letter_of m l)

-- By rules that leave an answer as it is, or put a refusal in its place.
unfoldable pub OpenedBy : (Answer Opened → Answer Opened) → List Exp → (A A' : Lists) → Result Counts Refused → Type 0
OpenedBy rules ms A A' (Ok n) = ((o : Answer Opened) → rules o ≡ o) × AllStored ms A A' n.rows n.letters
OpenedBy rules ms A A' (Err e) = (o : Answer Opened) → rules o ≡ refused_as e

-- X10: 9 to 12
abbrev pub by_shapes : List Exp → Answer Opened → Answer Opened
by_shapes ms o = misshapen 0 (map (renumbered 0) ms) o

-- X9: 8, and then 9 to 12
abbrev pub by_rules : List Exp → Answer Opened → Answer Opened
by_rules ms o = too_long 0 0 ms (by_shapes ms o)

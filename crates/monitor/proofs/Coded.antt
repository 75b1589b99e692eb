-- What is said of a tick's numbers where they come from a program: the rows' words stand for the rows of a table, and each letter's numbers for its test. Assumes nothing.
use mathlib.Core.Path.{◌≡◌}
use Prim.Native.Nat.{ℕ, ◌<◌, ◌≤◌}
use lib.ListN.{get_or}
use Rattle.meaning.specs.Fit.{Tick, meets}
use Rattle.meaning.specs.Table.{Kind, is_letter, is_seq, is_alt, is_star, is_pipe, Row, Table}
use Rattle.words.specs.Words.{part0, part1, part2, part3}
use Rattle.monitor.specs.Letters.{Given, letter_met}

-- a row's word x, of n rows: its kind and its operands; of a letter its number and its test
abbrev pub CodedAs : Given → Tick → (n left right x : ℕ) → Kind → Type 0
CodedAs g t n left right x (is_letter l) = (part0 x ≡ 0) × (part1 x ≡ l.number) × (l.number < 256) × (letter_met g l.number ≡ meets l t)
CodedAs g t n left right x is_seq = (part0 x ≡ 1) × (part1 x ≡ left) × (part2 x ≡ right) × (left < n) × (right < n)
CodedAs g t n left right x is_alt = (part0 x ≡ 2) × (part1 x ≡ left) × (part2 x ≡ right) × (left < n) × (right < n)
CodedAs g t n left right x is_star = (part0 x ≡ 3) × (part1 x ≡ left) × (left < n)
CodedAs g t n left right x is_pipe = (part0 x ≡ 4) × (part1 x ≡ left) × (part2 x ≡ right) × (left < n) × (right < n)

-- the operands of an `@` stand behind the row that they point up at, the thread behind the left one
abbrev pub Threaded : Table → Row → Type 0
Threaded R x = x.kind ≡ is_pipe → ((R x.right).up ≡ (R x.left).up) × ((R x.left).up < x.left) × (x.left < x.right)

pub record RowCoded (R : Table) (g : Given) (t : Tick) (n r : ℕ) : Type 0 where
  pub coded : CodedAs g t n (R r).left (R r).right (get_or g.table r 0) (R r).kind
  pub up : part3 (get_or g.table r 0) ≡ (R r).up
  pub up_within : (R r).up < n
  pub threaded : Threaded R (R r)

-- the first n rows of the table R are those of g's words, at the tick t
pub record Coded (R : Table) (g : Given) (t : Tick) (n : ℕ) : Type 0 where
  pub few : n ≤ 1024
  pub rows : (r : ℕ) → r < n → RowCoded R g t n r

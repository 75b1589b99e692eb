-- Opening a program (docs/REFERENCE.md, S1 to S3, X9, X10 and W1): its monitors' letters are numbered, the shape rules are asked, and the counts are given.
-- Assumes nothing.
use Rattle.std.specs.Prelude.{cond, List, [], ◌∷◌, map, ℕ, suc, ◌+◌, ltb}
use Rattle.meaning.specs.Lists.{total}
use Rattle.meaning.specs.Expression.{Exp, size, rows, renumbered}
use Rattle.meaning.specs.ShapeTests.{Shape, accepted, turned_away, shape}
use Rattle.meaning.specs.Answers.{Answer, value, refused, letter_of}
use Rattle.refusals.specs.Numbers.{long_run}
use Rattle.meaning.specs.Reading.{read}
use Rattle.meaning.specs.Names.{Limit, Program}

-- What opening answers with: the program, its letters numbered from 0 within each monitor (S2), and both counts (S3).
pub record Opened : Type 0 where
  pub wires : ℕ
  pub initial : List ℕ
  pub monitors : List Exp
  pub limits : List Limit
  pub row_count : ℕ
  pub letter_count : ℕ

-- What a caller is told of it. S3: "Opening answers with both counts, rows and letters."
pub record Counts : Type 0 where
  pub rows : ℕ
  pub letters : ℕ

abbrev pub counts : Opened → Counts
counts o = record { rows = o.row_count; letters = o.letter_count }

unfoldable pub counts_of : Answer Opened → Answer Counts
counts_of (value o) = value (counts o)
counts_of (refused number place) = refused number place

-- S2: "The letters of a monitor are numbered from 0"; S3: rows and letters "of all monitors after opening"
unfoldable pub as_opened : Program → Opened
as_opened p = record {
  wires = p.wires;
  initial = p.initial;
  monitors = map (renumbered 0) p.monitors;
  limits = p.limits;
  row_count = total rows p.monitors;
  letter_count = total size p.monitors;
}

-- X9: "the first monitor that takes the letters, counted from monitor 0 on, beyond 256, and letter 0". Monitors are counted from i, and the letters before
-- them are n.
unfoldable pub too_long : ℕ → ℕ → List Exp → Answer Opened → Answer Opened
too_long i n [] otherwise = otherwise
too_long i n (m ∷ ms) otherwise = cond (ltb 256 (n + size m)) (refused long_run (letter_of i 0)) (too_long (suc i) (n + size m) ms otherwise)

abbrev pub by_shape : ℕ → Shape → Answer Opened → Answer Opened
by_shape i accepted otherwise = otherwise
by_shape i (turned_away rule l) otherwise = refused rule (letter_of i l)

-- X10: "the monitors are judged in their order, each by 9, 10, 11 and 12 in this order"
unfoldable pub misshapen : ℕ → List Exp → Answer Opened → Answer Opened
misshapen i [] otherwise = otherwise
misshapen i (m ∷ ms) otherwise = by_shape i (shape m) (misshapen (suc i) ms otherwise)

-- X9: "First comes 8"; X10: "Then the monitors are judged"
unfoldable pub open_program : Program → Answer Opened
open_program p = let o = as_opened p in too_long 0 0 p.monitors (misshapen 0 o.monitors (value o))

abbrev pub and_open : Answer Program → Answer Opened
and_open (value p) = open_program p
and_open (refused number place) = refused number place

-- W1: "Opening a text gives a watch and both counts (S3), or a refusal and no watch."
unfoldable pub open_text : List ℕ → Answer Opened
open_text text = and_open (read text)

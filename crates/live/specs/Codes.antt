-- An answer as one number for C, four parts of 16 bits (docs/REFERENCE.md, W15): its kind, and what else it tells; and the same of opening. `include/linewatch.h` has functions that take it apart. Assumes nothing.
use Rattle.std.specs.Prelude.{Bool, true, false, cond, List, [], ◌∷◌, ℕ, eqb}
use Rattle.refusals.specs.Numbers.{short_bin}
use Rattle.words.specs.Words.{quad, part0, part1, part2}
use Rattle.meaning.specs.Answers as meaning
use Rattle.meaning.specs.Opening.{Counts}
use Rattle.meaning.specs.Calls.{Call, look, take, Reply, ok, bad, refused, Answer, looked, took}

-- kind 0 is ok, 1 bad with a number, 2 refused with a number; the third part is the rows touched
abbrev pub code_of : Reply → (touched : ℕ) → ℕ
code_of ok n = quad 0 0 n 0
code_of (bad m) n = quad 1 m n 0
code_of (refused k p) n = quad 2 k n 0

abbrev pub answer_code : Answer → ℕ
answer_code (looked r) = code_of r 0
answer_code (took r n) = code_of r n

-- taken apart again: what the answer to a call says
abbrev pub reply_told : ℕ → Reply
reply_told x = cond (eqb (part0 x) 0) ok (cond (eqb (part0 x) 1) (bad (part1 x)) (refused (part1 x) 0))

abbrev pub answer_told : Call → ℕ → Answer
answer_told (look w) x = looked (reply_told x)
answer_told (take w) x = took (reply_told x) (part2 x)

unfoldable pub all_told : List Call → List ℕ → List Answer
all_told [] xs = []
all_told (c ∷ cs) [] = []
all_told (c ∷ cs) (x ∷ xs) = answer_told c x ∷ all_told cs xs

-- of opening: kind 0 with both counts, 2 refused with number and byte, 3 refused with number, monitor and letter
abbrev pub open_code : meaning.Answer Counts → ℕ
open_code (meaning.value c) = quad 0 c.rows c.letters 0
open_code (meaning.refused n (meaning.byte p)) = quad 2 n p 0
open_code (meaning.refused n (meaning.letter_of m l)) = quad 3 n m l

abbrev pub is_open : meaning.Answer Counts → Bool
is_open (meaning.value c) = true
is_open (meaning.refused n p) = false

-- a range that is too short for a watch
abbrev pub short_code : ℕ
short_code = code_of (refused short_bin 0) 0

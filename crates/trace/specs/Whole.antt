-- Traces: records one behind the other (docs/REFERENCE.md, R3 and R7 to R12), and lists put into lent ones. Assumes nothing.
use Rattle.std.specs.Prelude.{Bool, true, false, List, [], ◌∷◌, ◌++◌, ℕ, zero, suc, ◌+◌, ◌^◌, ◌<◌, ltb, length, get_or, drop}
use Rattle.refusals.specs.Numbers.{torn, short_bin}
use Rattle.trace.specs.Answer.{Answer, value, refused}
use Rattle.trace.specs.Record.{Item, word, end, read_record, written}

-- ---- reading at a position of a trace

-- R7: "used by itself at a position of a trace names that position in a refusal"
abbrev pub placed : ℕ → Answer Item → Answer Item
placed at (value item) = value item
placed at (refused number place) = refused number at

-- R8: "A position beyond that is refusal 13, and its place is that position."
abbrev pub unless_past : Bool → ℕ → Answer Item → Answer Item
unless_past true at answer = refused torn at
unless_past false at answer = placed at answer

-- R7 and R8: reading at a position of a trace, after the word `before`
unfoldable pub read_at : List ℕ → ℕ → ℕ → Answer Item
read_at trace at before = unless_past (ltb (length trace) at) at (read_record (drop at trace) before)

-- ---- whole traces

-- A list of bytes, and one of words. Past the end of a list stands 0.
abbrev pub Bytes : List ℕ → Type 0
Bytes s = (i : ℕ) → get_or s i 0 < 256

abbrev pub Words : List ℕ → Type 0
Words ws = (i : ℕ) → get_or ws i 0 < 2 ^ 64

-- R11: the records of a list of words, the first after the word `before`
unfoldable pub write_all : ℕ → List ℕ → List ℕ
write_all before [] = []
write_all before (w ∷ ws) = written before w ++ write_all w ws

-- R11: "record behind record, the first after the word 0"
unfoldable pub write_trace : List ℕ → List ℕ
write_trace words = write_all 0 words

abbrev pub after : ℕ → Answer (List ℕ) → Answer (List ℕ)
after w (value ws) = value (w ∷ ws)
after w (refused number place) = refused number place

-- at the place `at` this was read, and `next n w` is what follows a record of n bytes with the word w; R9: a refusal's "place is the byte at which
-- that record begins"
abbrev pub go_on : ℕ → Answer Item → (ℕ → ℕ → Answer (List ℕ)) → Answer (List ℕ)
go_on at (value (word w n)) next = after w (next n w)
go_on at (value end) next = value []
go_on at (refused number place) next = refused number at

-- R3: "each beginning at the byte behind the last one of the record before it". The words from the place `at` on, where the bytes `rest` are left,
-- or the first refusal. A record has at least one byte (R1), so as many rounds as there are bytes reach the end.
unfoldable pub read_on : ℕ → ℕ → List ℕ → ℕ → Answer (List ℕ)
read_on zero at rest before = value []
read_on (suc rounds) at rest before = go_on at (read_record rest before) (λ n w. read_on rounds (at + n) (drop n rest) w)

unfoldable pub read_rest : ℕ → List ℕ → ℕ → Answer (List ℕ)
read_rest at rest before = read_on (length rest) at rest before

-- R9: "Reading a whole trace gives its words, or the first refusal"; R2: "The word before the first is 0."
unfoldable pub read_trace : List ℕ → Answer (List ℕ)
read_trace trace = read_rest 0 trace 0

-- how many words there are
abbrev pub counted : Answer (List ℕ) → Answer ℕ
counted (value ws) = value (length ws)
counted (refused number place) = refused number place

-- ---- a list put into a lent one

-- the answer, how many elements were put there or a refusal, and the lent list afterwards
pub record Lent : Type 0 where
  pub answer : Answer ℕ
  pub list : List ℕ

-- R12: "refusal 18 with place 0"
abbrev pub lend_unless : Bool → List ℕ → List ℕ → Lent
lend_unless true new lent = record { answer = refused short_bin 0; list = lent }
lend_unless false new lent = record { answer = value (length new); list = new ++ drop (length new) lent }

-- R10: "A longer list keeps what stands behind the words." R12: "Nothing is written then. A longer buffer keeps the bytes behind what is written."
unfoldable pub lend : List ℕ → List ℕ → Lent
lend new lent = lend_unless (ltb (length lent) (length new)) new lent

-- R10: "A refused trace changes nothing in the list"; X13: a refusal "writes nothing into lent room"
unfoldable pub lend_answer : Answer (List ℕ) → List ℕ → Lent
lend_answer (value new) lent = lend new lent
lend_answer (refused number place) lent = record { answer = refused number place; list = lent }

-- P8 and P9: what the entries for C return, 0 for a refusal
abbrev pub number_or_zero : Answer ℕ → ℕ
number_or_zero (value n) = n
number_or_zero (refused number place) = 0

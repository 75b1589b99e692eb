-- The thread that each letter goes on in: the right operand of an `@`, named by its row (docs/REFERENCE.md, F17). A letter goes on there if, when it is left, more of the
-- thread follows: it stands below a `*` or in the left operand of a `,` of that thread, which in an accepted text (S12) is so exactly if it is no last letter of it. Once over
-- expressions (`thread_rows`), and once over a table's words, as the code has it (`threads_of`); proofs/ThreadRows says that for an accepted text they agree, proofs/Shut what
-- that has to do with busy threads. Assumes nothing.
use Rattle.std.specs.Prelude.{Bool, true, false, cond, List, [], ◌∷◌, ◌++◌, ℕ, zero, suc, ◌+◌, ◌*◌, ◌/◌, ◌%◌, min, eqb, ltb, get_or, set, replicate}
use Rattle.meaning.specs.Expression.{Exp, letter, seq, alt, star, pipe, rows}
use Rattle.words.specs.Words.{part0, part1, part3}

-- ---- over expressions

-- The rows of the threads that the letters of e go on in, in reading order, 0 for none. e stands from row r on, T is the row of the thread that it stands in (0: none);
-- c: a letter that is the last of e goes on there. Row 0 is a monitor's own and no thread's.
unfoldable pub thread_rows : (r T : ℕ) → (c : Bool) → Exp → List ℕ
thread_rows r T c (letter l) = cond c T 0 ∷ []
thread_rows r T c (seq e f) = thread_rows (suc r) T true e ++ thread_rows (suc r + rows e) T c f
thread_rows r T c (alt e f) = thread_rows (suc r) T c e ++ thread_rows (suc r + rows e) T c f
thread_rows r T c (star e) = thread_rows (suc r) T true e
thread_rows r T c (pipe e f) = thread_rows (suc r) T c e ++ thread_rows (suc r + rows e) (suc r + rows e) false f

-- of monitors, one behind the other
unfoldable pub thread_rows_all : ℕ → List Exp → List ℕ
thread_rows_all r [] = []
thread_rows_all r (m ∷ ms) = thread_rows r 0 false m ++ thread_rows_all (r + rows m) ms

-- ---- over a table's words

-- The number of a row is 2 * T + c, with T and c as above; this is c made 1.
abbrev pub going_on : ℕ → ℕ
going_on n = n / 2 * 2 + 1

-- the number of row r, by the word of the row above it and that row's number
abbrev pub operand_number : (above n r : ℕ) → ℕ
operand_number w n r =
    cond (eqb (part0 w) 1) (cond (eqb (part1 w) r) (going_on n) n)
    (cond (eqb (part0 w) 2) n (cond (eqb (part0 w) 3) (going_on n) (cond (eqb (part0 w) 4) (cond (eqb (part1 w) r) n (2 * r)) 0)))

-- the row above a row
abbrev pub up_of : (table : List ℕ) → (r : ℕ) → ℕ
up_of t r = part3 (get_or t r 0)

-- by the numbers of the rows before it; 0 where the row above does not stand before it
abbrev pub row_number : (table numbers : List ℕ) → (r : ℕ) → ℕ
row_number t ns r = cond (ltb (up_of t r) r) (operand_number (get_or t (up_of t r) 0) (get_or ns (up_of t r) 0) r) 0

-- the numbers of the first n rows
unfoldable pub row_numbers : (table : List ℕ) → (n : ℕ) → List ℕ
row_numbers t zero = replicate 1024 0
row_numbers t (suc n) = set (row_numbers t n) n (row_number t (row_numbers t n) n)

-- the row of the thread that a letter goes on in, by its row's number
abbrev pub thread_of : ℕ → ℕ
thread_of n = cond (eqb (n % 2) 0) 0 (n / 2)

-- stored for the letter of a row, if its word is a letter's
abbrev pub with_thread : (threads : List ℕ) → (word n : ℕ) → List ℕ
with_thread ts w n = cond (eqb (part0 w) 0) (cond (ltb (part1 w) 256) (set ts (part1 w) (thread_of n)) ts) ts

-- for the letters of the first n rows
unfoldable pub threads_from : (table : List ℕ) → (n : ℕ) → List ℕ
threads_from t zero = replicate 256 0
threads_from t (suc n) = with_thread (threads_from t n) (get_or t n 0) (row_number t (row_numbers t n) n)

-- for those of so many rows, 1,024 at most
abbrev pub threads_of : (table : List ℕ) → (rows : ℕ) → List ℕ
threads_of t n = threads_from t (min n 1024)

-- The printed sheet (docs/REFERENCE.md, P1 to P8 and P10), as a list of bytes from the bytes of the rule text and of the trace. Assumes nothing.
use Rattle.std.specs.Prelude.{cond, List, [], ◌∷◌, ◌++◌, map, ℕ, zero, suc, ◌+◌, ◌/◌, ◌%◌, ◌^◌, ◌*◌, ltb, length, drop}
use Rattle.lexer.specs.Bytes.{bytes}
use Rattle.meaning.specs.Answers.{Answer, value, refused, Place, byte, letter_of}
use Rattle.meaning.specs.Opening.{Opened, Counts, counts_of, open_text}
use Rattle.meaning.specs.Fit.{History, start, onward}
use Rattle.meaning.specs.Limits.{judged}
use Rattle.meaning.specs.Totals.{totals, sum}
use Rattle.meaning.specs.Calls as calls
use Rattle.meaning.specs.Calls.{Reply, ok, bad, State, opening, reply, after}
use Rattle.trace.specs.Answer as trace
use Rattle.trace.specs.Record.{Item, word, end, read_record}
use Rattle.trace.specs.Whole.{Lent, lend, number_or_zero}

-- ---- numbers

-- a digit; P2: "a to f in small letters"
abbrev digit : ℕ → ℕ
digit d = cond (ltb d 10) (48 + d) (87 + d)

-- the digits of n in a base, in front of those in hand; n has no more digits than it counts, and one at the least
unfoldable pub digits_in : ℕ → ℕ → ℕ → List ℕ → List ℕ
digits_in base zero n ds = digit (n % base) ∷ ds
digits_in base (suc k) n ds = elim (n / base) [ zero ↦ digit (n % base) ∷ ds | suc m ↦ digits_in base k (n / base) (digit (n % base) ∷ ds) ]

-- P2: "Numbers are decimal, without zeros in front."
unfoldable pub decimal : ℕ → List ℕ
decimal n = digits_in 10 n n []

-- so many hexadecimal digits; P2: "A word alone is printed as 16 hexadecimal digits, with its zeros"
unfoldable pub hexadecimal : ℕ → ℕ → List ℕ
hexadecimal zero w = []
hexadecimal (suc k) w = digit (w / 2 ^ (4 * k) % 16) ∷ hexadecimal k w

-- ---- lines

-- P2: "One space stands between the fields of a line, none before the first or behind the last, and every line ends with a line feed (byte 10)"
unfoldable pub line : List (List ℕ) → List ℕ
line [] = 10 ∷ []
line (f ∷ fs) = f ++ more fs
  where
    more : List (List ℕ) → List ℕ
    more [] = 10 ∷ []
    more (g ∷ gs) = 32 ∷ (g ++ more gs)

-- P5: "A refusal prints `refused`, its number and its place"
unfoldable pub refusal_line : (number : ℕ) → (place : List ℕ) → List ℕ
refusal_line number place = line (bytes "refused" ∷ decimal number ∷ map decimal place)

-- P5: "one field for a byte (1 to 7, 21 and 22), two for monitor and letter (8 to 12)"
abbrev pub place_numbers : Place → List ℕ
place_numbers (byte n) = n ∷ []
place_numbers (letter_of m l) = m ∷ l ∷ []

-- P3: "`rows R letters L`, with the counts of S3"
unfoldable pub counts_line : Counts → List ℕ
counts_line c = line (bytes "rows" ∷ decimal c.rows ∷ bytes "letters" ∷ decimal c.letters ∷ [])

-- P3: the first line, both counts or the refusal
abbrev pub first_line : Answer Counts → List ℕ
first_line (value c) = counts_line c
first_line (refused number place) = refusal_line number (place_numbers place)

-- P4: "`T W ok`, its number and word. One that is bad prints `T W bad M` with the number that W6 names"
abbrev tick_line : ℕ → ℕ → List (List ℕ) → List ℕ
tick_line t w verdict = line (decimal t ∷ hexadecimal 16 w ∷ verdict)

-- P7: "the next line is `clean N`, N being their number"
unfoldable pub clean_line : ℕ → List ℕ
clean_line n = line (bytes "clean" ∷ decimal n ∷ [])

-- ---- the foot

-- P10: "`met M L C`", with monitor, letter and how often it was met
unfoldable pub met_line : (m l c : ℕ) → List ℕ
met_line m l c = line (bytes "met" ∷ decimal m ∷ decimal l ∷ decimal c ∷ [])

-- those of monitor m, from letter l on
unfoldable pub met_lines : (m l : ℕ) → List ℕ → List ℕ
met_lines m l [] = []
met_lines m l (c ∷ cs) = met_line m l c ++ met_lines m (suc l) cs

-- P10: "for each monitor and each of its letters, in their order", from monitor m on
unfoldable pub all_met_lines : (m : ℕ) → List (List ℕ) → List ℕ
all_met_lines m [] = []
all_met_lines m (cs ∷ css) = met_lines m 0 cs ++ all_met_lines (suc m) css

-- P10: "then `total T`"
unfoldable pub total_line : ℕ → List ℕ
total_line n = line (bytes "total" ∷ decimal n ∷ [])

-- P10: from how often each letter of each monitor was met
unfoldable pub foot : List (List ℕ) → List ℕ
foot css = all_met_lines 0 css ++ total_line (sum css)

-- ---- the ticks

-- what tick t prints for the word w: the lines behind it where it is ok, and those at the foot where it is bad; P5: "the tick that the record or word would have had (13 to 17)", and P10:
-- "Behind a refusal stands nothing."
abbrev on_reply : Reply → ℕ → ℕ → (rest foot : List ℕ) → List ℕ
on_reply ok t w rest foot = tick_line t w (bytes "ok" ∷ []) ++ rest
on_reply (bad m) t w rest foot = tick_line t w (bytes "bad" ∷ decimal m ∷ []) ++ foot
on_reply (calls.refused number place) t w rest foot = refusal_line number (t ∷ [])

-- what was read at tick t, and the lines for a word of so many bytes; P6: "Each record is read before its tick is judged."
abbrev on_item : trace.Answer Item → ℕ → (foot : List ℕ) → (ℕ → ℕ → List ℕ) → List ℕ
on_item (trace.value (word w n)) t foot next = next w n
on_item (trace.value end) t foot next = clean_line t ++ foot
on_item (trace.refused number place) t foot next = refusal_line number (t ∷ [])

-- P10: "over the words that were ok"
abbrev foot_at : Opened → State History → List ℕ
foot_at o s = foot (totals o.monitors s.inner.ticks)

-- the lines from tick t on, where these bytes are left; a record has at least one byte (R1). P4: "the trace is read record by record, and the watch takes each
-- word".
unfoldable pub tick_lines : ℕ → Opened → State History → ℕ → List ℕ → ℕ → List ℕ
tick_lines zero o s t rest before = clean_line t ++ foot_at o s
tick_lines (suc k) o s t rest before =
    on_item (read_record rest before) t (foot_at o s) (λ w n.
    let r = reply (judged o.limits o.monitors) o.wires s w in
    let more = tick_lines k o (after (onward o.monitors) s w r) (suc t) (drop n rest) w in
    on_reply r t w more (foot_at o s))

-- the lines behind the first; P3: "If the text is refused its refusal is the only line, whatever the trace holds."
abbrev lines_behind : Answer Opened → List ℕ → List ℕ
lines_behind (value o) records = tick_lines (length records) o (opening (start o.initial)) 0 records 0
lines_behind (refused number place) records = []

-- P1: the sheet of a text and a trace
unfoldable pub sheet : List ℕ → List ℕ → List ℕ
sheet text records = first_line (counts_of (open_text text)) ++ lines_behind (open_text text) records

-- P8: "If the range is shorter than the sheet it returns 0 and leaves the range as it was. In a longer one the bytes behind the sheet stay as they were".
unfoldable pub lent_sheet : List ℕ → List ℕ → List ℕ → Lent
lent_sheet text records range = lend (sheet text records) range

-- P8: "returns the sheet's length"
abbrev pub lent_length : List ℕ → List ℕ → List ℕ → ℕ
lent_length text records range = number_or_zero (lent_sheet text records range).answer

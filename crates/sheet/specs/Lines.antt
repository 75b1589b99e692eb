-- The lines that a watch prints, record by record (docs/REFERENCE.md, P3 to P7 and P10); over any watch and any bytes. Assumes nothing.
use Rattle.std.specs.Prelude.{Bool, true, false, cond, List, [], ◌∷◌, ◌++◌, ℕ, zero, suc, eqb, length, drop}
use Rattle.lexer.specs.Bytes.{bytes}
use Rattle.trace.specs.Answer.{Answer, value, refused}
use Rattle.trace.specs.Record.{Item, word, end, read_record}
use Rattle.refusals.specs.Numbers.{torn}
use Rattle.meaning.specs.Answers as meaning
use Rattle.meaning.specs.Opening.{Opened, counts_of}
use Rattle.meaning.specs.Calls as calls
use Rattle.meaning.specs.Sheet.{decimal, hexadecimal, line, refusal_line, first_line, clean_line, foot}
use Rattle.rules.specs.declared.Watch.{Watch}
use Rattle.rules.specs.Watches.{watch_of}
use Rattle.monitor.specs.Calls.{reply_of, watch_after, totals_of}

-- P4: "`T W ok`, its number and word"
abbrev pub ok_line : (t w : ℕ) → List ℕ
ok_line t w = line (decimal t ∷ hexadecimal 16 w ∷ bytes "ok" ∷ [])

-- P4: "`T W bad M` with the number that W6 names"
abbrev pub bad_line : (t w number : ℕ) → List ℕ
bad_line t w m = line (decimal t ∷ hexadecimal 16 w ∷ bytes "bad" ∷ decimal m ∷ [])

-- the number and the word of a tick, in front of its verdict
abbrev pub tick_front : (t w : ℕ) → List ℕ
tick_front t w = decimal t ++ (32 ∷ (hexadecimal 16 w ++ (32 ∷ [])))

-- P10: the lines at the foot
abbrev pub foot_of : Watch → List ℕ
foot_of v = foot (totals_of v)

-- A run: the watch, and the word before the next record.
pub record Run : Type 0 where
  pub watch : Watch
  pub before : ℕ

abbrev pub run : Watch → ℕ → Run
run v b = record { watch = v; before = b }

-- What a run over some bytes printed; the run and the bytes that are left then; whether a line was printed that ends the sheet.
pub record Ran : Type 0 where
  pub printed : List ℕ
  pub after : Run
  pub left : List ℕ
  pub ended : Bool

abbrev pub ran : List ℕ → Run → List ℕ → Bool → Ran
ran p s rest b = record { printed = p; after = s; left = rest; ended = b }

-- a line, and what is printed behind it
abbrev pub printing : List ℕ → Ran → Ran
printing p x = ran (p ++ x.printed) x.after x.left x.ended

-- the take of word w of a record of n bytes: an ok line goes on behind the record, any other ends the sheet, that of a bad tick with the foot behind it (P4, P5 and P10)
abbrev pub on_reply : calls.Reply → Run → (rest : List ℕ) → (w n : ℕ) → (Run → List ℕ → Ran) → Ran
on_reply calls.ok s rest w n next = printing (ok_line s.watch.ticks w) (next (run (watch_after s.watch w) w) (drop n rest))
on_reply (calls.bad m) s rest w n next = ran (bad_line s.watch.ticks w m ++ foot_of s.watch) (run (watch_after s.watch w) s.before) rest true
on_reply (calls.refused k p) s rest w n next = ran (refusal_line k (s.watch.ticks ∷ [])) (run (watch_after s.watch w) s.before) rest true

-- what was read: at the end of the bytes, or where they cut a record short, more may come; an idle byte ends the sheet (P5)
abbrev pub on_read : Answer Item → Run → (rest : List ℕ) → (Run → List ℕ → Ran) → Ran
on_read (value (word w n)) s rest next = on_reply (reply_of s.watch w) s rest w n next
on_read (value end) s rest next = ran [] s rest false
on_read (refused k p) s rest next = cond (eqb k torn) (ran [] s rest false) (ran (refusal_line k (s.watch.ticks ∷ [])) s rest true)

-- so many records at most
unfoldable pub run_on : ℕ → Run → List ℕ → Ran
run_on zero s rest = ran [] s rest false
run_on (suc k) s rest = on_read (read_record rest s.before) s rest (run_on k)

-- a record has at least one byte (R1)
abbrev pub run_over : Run → List ℕ → Ran
run_over s rest = run_on (length rest) s rest

-- the last lines where no more bytes come and so many are left: P7: "`clean N`" with the foot behind it, or a record is cut short (R5)
abbrev pub last_lines : (t : ℕ) → (foot : List ℕ) → (left : ℕ) → List ℕ
last_lines t foot zero = clean_line t ++ foot
last_lines t foot (suc n) = refusal_line torn (t ∷ [])

abbrev pub closing : Watch → (left : ℕ) → List ℕ
closing v n = last_lines v.ticks (foot_of v) n

abbrev pub closed : Ran → List ℕ
closed x = x.printed ++ cond x.ended [] (closing x.after.watch (length x.left))

abbrev pub is_refused : {A : Type 0} → meaning.Answer A → Bool
is_refused (meaning.value o) = false
is_refused (meaning.refused number place) = true

-- the sheet; P3: "If the text is refused its refusal is the only line, whatever the trace holds."
abbrev pub sheet_of : meaning.Answer Opened → List ℕ → List ℕ
sheet_of a records = first_line (counts_of a) ++ cond (is_refused a) [] (closed (run_over (run (watch_of a) 0) records))

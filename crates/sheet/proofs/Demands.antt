-- The demands on the line watch, as statements, each with the theorem that proves it. Definitions stand in specs/, proofs where a citation names them; docs/PROOF.md says
-- each statement in words. Assumes nothing.
use mathlib.Core.Path.{◌≡◌, ◌∙◌}
use mathlib.Core.Bool.{Bool, true, not}
use mathlib.Core.Logic.{◌⊎◌, ◌↔◌}
use mathlib.Core.List.{List, [], ◌∷◌, ◌++◌, map}
use Prim.Native.Nat.{ℕ, suc, ◌*◌, ◌-◌, ◌<◌, ◌≤◌}
use lib.Dec.{T}
use lib.ListN.{length, get_or, replicate}
use Rattle.refusals.specs.Numbers.{overlong}
use Rattle.lexer.specs.Tokens.{Placed}
use Rattle.trace.specs.Answer as records
use Rattle.trace.specs.Whole.{Bytes, Words, read_trace, write_trace}
use Rattle.trace.proofs.Traces as traces
use Rattle.trace.proofs.read_record.Statement as read-record
use Rattle.trace.proofs.read_record.Met as read-record-met
use Rattle.trace.proofs.read_at.Statement as read_at
use Rattle.trace.proofs.read_at.Met as read-at-met
use Rattle.trace.proofs.count_words.Statement as count-words
use Rattle.trace.proofs.count_words.Met as count-words-met
use Rattle.trace.proofs.read_trace.Statement as read-trace
use Rattle.trace.proofs.read_trace.Met as read-trace-met
use Rattle.trace.proofs.write_record.Statement as put_record
use Rattle.trace.proofs.write_record.Met as put-record-met
use Rattle.trace.proofs.trace_length.Statement as trace-length
use Rattle.trace.proofs.trace_length.Met as trace-length-met
use Rattle.trace.proofs.write_trace.Statement as write-trace
use Rattle.trace.proofs.write_trace.Met as write-trace-met
use Rattle.lexer.proofs.token_at.Statement as token-at
use Rattle.lexer.proofs.token_at.Met as token-at-met
use Rattle.lexer.proofs.rule_words.Statement as rule-words
use Rattle.lexer.proofs.rule_words.Met as rule-words-met
use Rattle.meaning.specs.Answers.{value, refused, byte, letter_of}
use Rattle.meaning.specs.Names.{Program}
use Rattle.meaning.specs.Grammar.{plain_tokens}
use Rattle.meaning.specs.Opening.{Opened, as_opened, open_text}
use Rattle.meaning.specs.Viable.{Viable, Ample, Refusal}
use Rattle.meaning.specs.Acceptance.{Written, Acceptable, TurnedAway}
use Rattle.meaning.specs.Table.{laid_all}
use Rattle.meaning.specs.Numbered.{numbered_from}
use Rattle.meaning.specs.Touched.{touched}
use Rattle.meaning.specs.Totals.{totals, sum, met_over}
use Rattle.meaning.specs.Calls.{Call, look, take, reply_in, standing, taken, taken_replies, AllAnswered}
use Rattle.meaning.specs.Lists.{◌∈◌}
use Rattle.meaning.specs.Expression.{Letter, Exp, letters, own}
use Rattle.meaning.specs.Shape.{last, threads}
use Rattle.meaning.specs.Fit.{Tick, Run, anything, runs, branches, among, required, fits}
use Rattle.meaning.specs.Sheet.{sheet}
use Rattle.meaning.proofs.Exactly as exactly
use Rattle.meaning.proofs.Viable as viable
use Rattle.meaning.proofs.Rows.{rows-no-more}
use Rattle.meaning.proofs.Openings as openings
use Rattle.meaning.proofs.Requires as requires
use Rattle.meaning.proofs.StartEnds as ends
use Rattle.meaning.proofs.Totals as totals-laws
use Rattle.masks.proofs.passes.Statement as passes
use Rattle.masks.proofs.passes.Met as passes-met
use Rattle.rules.specs.Laying.{row_word, code_of}
use Rattle.rules.specs.Watches.{watch_of}
use Rattle.rules.specs.declared.Watch.{Watch}
use Rattle.rules.proofs.open.Statement as open-text
use Rattle.rules.proofs.open.Met as open-text-met
use Rattle.counts.proofs.counts_of.Statement as Counts-of
use Rattle.counts.proofs.counts_of.Met as counts-of-met
use Rattle.windows.proofs.windows_of.Statement as windows-of
use Rattle.windows.proofs.windows_of.Met as windows-of-met
use Rattle.windows.proofs.met_mask.Statement as met-mask
use Rattle.windows.proofs.met_mask.Met as met-mask-met
use Rattle.windows.proofs.met_mask_in.Statement as met-mask-in
use Rattle.windows.proofs.met_mask_in.Met as met-mask-in-met
use Rattle.windows.proofs.first_beyond.Statement as first-beyond
use Rattle.windows.proofs.first_beyond.Met as first-beyond-met
use Rattle.windows.proofs.pass.Statement as pass-tick
use Rattle.windows.proofs.pass.Met as pass-tick-met
use Rattle.monitor.specs.Calls.{reply_of, watch_after, replies_of, answers_of, watch_after_all, visits_on, totals_of, Held}
use Rattle.monitor.proofs.Program as program
use Rattle.monitor.proofs.Calls as calls
use Rattle.monitor.proofs.Looks as looks
use Rattle.monitor.proofs.TouchedRows as touched-rows
use Rattle.monitor.proofs.Visited as visited
use Rattle.monitor.proofs.peek.Statement as peek
use Rattle.monitor.proofs.peek.Met as peek-met
use Rattle.monitor.proofs.peek_in.Statement as peek_in
use Rattle.monitor.proofs.peek_in.Met as peek-in-met
use Rattle.monitor.proofs.step.Statement as step
use Rattle.monitor.proofs.step.Met as step-met
use Rattle.monitor.proofs.step_in.Statement as step_in
use Rattle.monitor.proofs.step_in.Met as step-in-met
use Rattle.monitor.proofs.tables_of.Statement as tables-of
use Rattle.monitor.proofs.tables_of.Met as tables-of-met
use Rattle.monitor.proofs.layout_of.Statement as layout_of
use Rattle.monitor.proofs.layout_of.Met as layout-of-met
use Rattle.monitor.proofs.layout_of_watch.Statement as layout_of_watch
use Rattle.monitor.proofs.layout_of_watch.Met as layout-of-watch-met
use Rattle.monitor.proofs.touched.Statement as touched-by
use Rattle.monitor.proofs.touched.Met as touched-by-met
use Rattle.monitor.proofs.touched_in.Statement as touched-in
use Rattle.monitor.proofs.touched_in.Met as touched-in-met
use Rattle.monitor.proofs.count_met.Statement as count-met
use Rattle.monitor.proofs.count_met.Met as count-met-met
use Rattle.monitor.proofs.letters_end.Statement as letters-end
use Rattle.monitor.proofs.letters_end.Met as letters-end-met
use Rattle.monitor.proofs.letter_at.Statement as letter_at
use Rattle.monitor.proofs.letter_at.Met as letter-at-met
use Rattle.monitor.proofs.is_bad.Statement as is-bad
use Rattle.monitor.proofs.is_bad.Met as is-bad-met
use Rattle.monitor.proofs.refused_by.Statement as refused-by
use Rattle.monitor.proofs.refused_by.Met as refused-by-met
use Rattle.monitor.proofs.look.Statement as look_at
use Rattle.monitor.proofs.look.Met as look-at-met
use Rattle.monitor.proofs.take.Statement as take-word
use Rattle.monitor.proofs.take.Met as take-word-met
use Rattle.live.specs.Calls.{Words as WatchWords}
use Rattle.live.specs.Codes.{all_told}
use Rattle.live.specs.Ranges.{range_opened, codes_of, range_after_all, Lent, store_at, met_at, ticks_at}
use Rattle.live.proofs.Told as live
use Rattle.live.proofs.open_words.Statement as open-words
use Rattle.live.proofs.open_words.Met as open-words-met
use Rattle.live.proofs.look_words.Statement as look-words
use Rattle.live.proofs.look_words.Met as look-words-met
use Rattle.live.proofs.take_words.Statement as take_words
use Rattle.live.proofs.take_words.Met as take-words-met
use Rattle.live.proofs.store_value.Statement as store_value
use Rattle.live.proofs.store_value.Met as store-value-met
use Rattle.live.proofs.letter_met.Statement as letter-met
use Rattle.live.proofs.letter_met.Met as letter-met-met
use Rattle.live.proofs.tick_count.Statement as tick-count
use Rattle.live.proofs.tick_count.Met as tick-count-met
use Rattle.sheet.specs.Pieces.{joined, printed_in_pieces}
use Rattle.sheet.proofs.Pieces as pieces
use Rattle.sheet.proofs.begin.Statement as begin
use Rattle.sheet.proofs.begin.Met as begin-met
use Rattle.sheet.proofs.run.Statement as run
use Rattle.sheet.proofs.run.Met as run-met
use Rattle.sheet.proofs.finish.Statement as finish
use Rattle.sheet.proofs.finish.Met as finish-met
use Rattle.sheet.proofs.totals.Statement as totals-of
use Rattle.sheet.proofs.totals.Met as totals-of-met
use Rattle.sheet.proofs.linewatch_sheet.Statement as linewatch-sheet
use Rattle.sheet.proofs.linewatch_sheet.Met as linewatch-sheet-met
use Rattle.sheet.proofs.linewatch_write_record.Statement as write-record
use Rattle.sheet.proofs.linewatch_write_record.Met as write-record-met
use Rattle.sheet.proofs.entries.linewatch_open_in.Statement as open_in
use Rattle.sheet.proofs.entries.linewatch_open_in.Met as open-in-met
use Rattle.sheet.proofs.entries.linewatch_look_in.Statement as look_in
use Rattle.sheet.proofs.entries.linewatch_look_in.Met as look-in-met
use Rattle.sheet.proofs.entries.linewatch_take_in.Statement as take_in
use Rattle.sheet.proofs.entries.linewatch_take_in.Met as take-in-met
use Rattle.sheet.proofs.entries.linewatch_store_in.Statement as store_in
use Rattle.sheet.proofs.entries.linewatch_store_in.Met as store-in-met
use Rattle.sheet.proofs.entries.linewatch_met_in.Statement as met-in
use Rattle.sheet.proofs.entries.linewatch_met_in.Met as met-in-met
use Rattle.sheet.proofs.entries.linewatch_ticks_in.Statement as ticks-in
use Rattle.sheet.proofs.entries.linewatch_ticks_in.Met as ticks-in-met

-- ---- Demand 1: each entry point takes every text, record and word, always ends, and leaves the lent ranges and the watch as its contract says

-- A `statement` is made by the prover from a function's contract (`ensures` in src/): for every input the function ends, does nothing undefined, and what it answers
-- and leaves is as the contract says. None of these has a `requires`.

pub open-entry : {M : Type 1} → open-text.statement M
open-entry = open-text-met.met

pub look-entry : {M : Type 1} → look_at.statement M
look-entry = look-at-met.met

pub take-entry : {M : Type 1} → take-word.statement M
take-entry = take-word-met.met

-- for C: the printed sheet, and the record of a word
pub sheet-entry : {M : Type 1} → linewatch-sheet.statement M
sheet-entry = linewatch-sheet-met.met

pub write-record-entry : {M : Type 1} → write-record.statement M
write-record-entry = write-record-met.met

-- for C, word by word on a range of watches as words that the caller lends: opening, a look, a take, a store's value, how often a letter was met, and the ok takes
pub open-in-entry : {M : Type 1} → open_in.statement M
open-in-entry = open-in-met.met

pub look-in-entry : {M : Type 1} → look_in.statement M
look-in-entry = look-in-met.met

pub take-in-entry : {M : Type 1} → take_in.statement M
take-in-entry = take-in-met.met

pub store-in-entry : {M : Type 1} → store_in.statement M
store-in-entry = store-in-met.met

pub met-in-entry : {M : Type 1} → met-in.statement M
met-in-entry = met-in-met.met

pub ticks-in-entry : {M : Type 1} → ticks-in.statement M
ticks-in-entry = ticks-in-met.met

-- the same on the words of one watch
pub open-words-entry : {M : Type 1} → open-words.statement M
open-words-entry = open-words-met.met

pub look-words-entry : {M : Type 1} → look-words.statement M
look-words-entry = look-words-met.met

pub take-words-entry : {M : Type 1} → take_words.statement M
take-words-entry = take-words-met.met

pub store-value-entry : {M : Type 1} → store_value.statement M
store-value-entry = store-value-met.met

pub letter-met-entry : {M : Type 1} → letter-met.statement M
letter-met-entry = letter-met-met.met

pub tick-count-entry : {M : Type 1} → tick-count.statement M
tick-count-entry = tick-count-met.met

-- the printed sheet in pieces
pub begin-entry : {M : Type 1} → begin.statement M
begin-entry = begin-met.met

pub run-entry : {M : Type 1} → run.statement M
run-entry = run-met.met

pub finish-entry : {M : Type 1} → finish.statement M
finish-entry = finish-met.met

-- the totals of a watch, as at the foot of its sheet
pub totals-entry : {M : Type 1} → totals-of.statement M
totals-entry = totals-of-met.met

-- what a look and a take do on lent tables, with a watch's arrays and numbers or with its block of words, with a word that is not refused, whether that was answered as bad, a watch's tables and its block of words,
-- and 16, 17, 15
pub peek-entry : {M : Type 1} → peek.statement M
peek-entry = peek-met.met

pub step-entry : {M : Type 1} → step.statement M
step-entry = step-met.met

pub peek-in-entry : {M : Type 1} → peek_in.statement M
peek-in-entry = peek-in-met.met

pub step-in-entry : {M : Type 1} → step_in.statement M
step-in-entry = step-in-met.met

pub is-bad-entry : {M : Type 1} → is-bad.statement M
is-bad-entry = is-bad-met.met

pub tables-of-entry : {M : Type 1} → tables-of.statement M
tables-of-entry = tables-of-met.met

pub layout-of-entry : {M : Type 1} → layout_of.statement M
layout-of-entry = layout-of-met.met

pub layout-of-watch-entry : {M : Type 1} → layout_of_watch.statement M
layout-of-watch-entry = layout-of-watch-met.met

-- where a letter of a monitor stands among all
pub letter-at-entry : {M : Type 1} → letter_at.statement M
letter-at-entry = letter-at-met.met

-- what leaving and asking each row of a watch touches, and the rows that a tick touches by that
pub counts-of-entry : {M : Type 1} → Counts-of.statement M
counts-of-entry = counts-of-met.met

pub touched-entry : {M : Type 1} → touched-by.statement M
touched-entry = touched-by-met.met

pub touched-in-entry : {M : Type 1} → touched-in.statement M
touched-in-entry = touched-in-met.met

-- the windows of limits: at opening, which limits a tick counts for, the lowest that it is beyond, and with that tick
pub windows-of-entry : {M : Type 1} → windows-of.statement M
windows-of-entry = windows-of-met.met

pub met-mask-entry : {M : Type 1} → met-mask.statement M
met-mask-entry = met-mask-met.met

pub met-mask-in-entry : {M : Type 1} → met-mask-in.statement M
met-mask-in-entry = met-mask-in-met.met

pub first-beyond-entry : {M : Type 1} → first-beyond.statement M
first-beyond-entry = first-beyond-met.met

pub pass-entry : {M : Type 1} → pass-tick.statement M
pass-entry = pass-tick-met.met

-- how often each letter was met, after a good tick; and where the letters of a monitor end
pub count-met-entry : {M : Type 1} → count-met.statement M
count-met-entry = count-met-met.met

pub letters-end-entry : {M : Type 1} → letters-end.statement M
letters-end-entry = letters-end-met.met

pub refused-by-entry : {M : Type 1} → refused-by.statement M
refused-by-entry = refused-by-met.met

-- the test of a letter's wire literals
pub passes-entry : {M : Type 1} → passes.statement M
passes-entry = passes-met.met

-- tokens, and the words that a rule text reserves
pub token-at-entry : {M : Type 1} → token-at.statement M
token-at-entry = token-at-met.met

pub rule-words-entry : {M : Type 1} → rule-words.statement M
rule-words-entry = rule-words-met.met

-- wire records: one, by itself at a position, and whole traces
pub read-record-entry : {M : Type 1} → read-record.statement M
read-record-entry = read-record-met.met

pub read-at-entry : {M : Type 1} → read_at.statement M
read-at-entry = read-at-met.met

pub put-record-entry : {M : Type 1} → put_record.statement M
put-record-entry = put-record-met.met

pub count-words-entry : {M : Type 1} → count-words.statement M
count-words-entry = count-words-met.met

pub read-trace-entry : {M : Type 1} → read-trace.statement M
read-trace-entry = read-trace-met.met

pub trace-length-entry : {M : Type 1} → trace-length.statement M
trace-length-entry = trace-length-met.met

pub write-trace-entry : {M : Type 1} → write-trace.statement M
write-trace-entry = write-trace-met.met

-- ---- Demand 2: which texts are accepted; the table; wire records

-- A text is accepted exactly if it is acceptable as some program: short, that program by the grammar, with few letters and no letter at fault. The answer is the program opened.
pub accepted-exactly : (text : List ℕ) (o : Opened) → open_text text ≡ value o ↔ ((p : Program) × Acceptable text p × (as_opened p ≡ o))
accepted-exactly = exactly.accepted-exactly

-- A text with too many bytes is refused as that. Any other is refused at a byte exactly if one of its tokens is at fault: nothing that follows it makes a text of the
-- grammar, and something that follows the tokens before it does, unless names or limits stand in the way (`Spare` says when they do not).
pub overlong-refused : (text : List ℕ) → 16384 < length text → open_text text ≡ refused overlong (byte 0)
overlong-refused = exactly.overlong-refused

pub refused-exactly : (text : List ℕ) (number place : ℕ) → length text ≤ 16384 → open_text text ≡ refused number (byte place) ↔ Refusal text number place
refused-exactly text number place short =
    let (a, b) = exactly.at-byte-exactly text number place in
    let (c, d) = viable.refused-exactly text number place short in
    (λ e. c (a e), λ r. b (d r))

-- Where an input, a store and a production of a single letter are declared, there is room for more and a limit's n is not too large, every list of tokens before the one refused could
-- be followed to a text.
pub first-unviable : {text : List ℕ} {number place : ℕ} (r : Refusal text number place) → Ample r.names r.expects
    → ((ps us : List Placed) → r.before ≡ ps ++ us → Viable (plain_tokens ps)) × (Viable (plain_tokens (r.before ++ (r.at ∷ []))) → ⊥)
first-unviable = viable.first-unviable

-- It is refused with monitor i and a letter exactly if it is a program by the grammar, and its first fault by 8 to 12 is that one.
pub turned-away-exactly : (text : List ℕ) (number i letter : ℕ)
    → open_text text ≡ refused number (letter_of i letter) ↔ ((p : Program) × Written text p × TurnedAway p number i letter)
turned-away-exactly = exactly.turned-away-exactly

-- The table of an accepted text's watch: the words of its rows, one for each letter and each operator, and zeros behind them.
pub table-exactly : (text : List ℕ) (o : Opened) → open_text text ≡ value o
    → ((watch_of (value o)).table ≡ map (λ x. row_word (code_of 0 x)) (laid_all 0 (numbered_from 0 o.monitors)) ++ replicate (1024 - o.row_count) 0)
    × (length (laid_all 0 (numbered_from 0 o.monitors)) ≡ o.row_count)
table-exactly text o e =
    let c = program.text-counted text o e in
    (program.table-right o c, rows-no-more 0 (numbered_from 0 o.monitors) ∙ program.program-rows o c)

-- Wire records: a list of words comes back the same, and no two traces that are accepted read alike.
pub there_and_back : (ws : List ℕ) → Words ws → read_trace (write_trace ws) ≡ records.value ws
there_and_back = traces.read-write

pub no-two-alike : (s t ws : List ℕ) → Bytes s → Bytes t → read_trace s ≡ records.value ws → read_trace t ≡ records.value ws → s ≡ t
no-two-alike = traces.read-unique

-- ---- Demand 3: every list of calls, and the printed sheet

-- For every accepted text and every list of looks and takes from its opening on, there is an answer to each call, and it is the right one for that call's word and the takes
-- before it: the reply, and of a take the number of rows that it touched.
pub calls-rightly : (text : List ℕ) (o : Opened) → open_text text ≡ value o → (cs : List Call)
    → (length (answers_of (watch_of (value o)) cs) ≡ length cs) × AllAnswered o.limits o.monitors o.initial o.wires cs (answers_of (watch_of (value o)) cs)
calls-rightly text o e cs = (touched-rows.answers-long (watch_of (value o)) cs, touched-rows.all-answered text o e cs)

-- Without those numbers the answers are the replies that what follows speaks of.
pub answers-reply : (v : Watch) (cs : List Call) → map reply_in (answers_of v cs) ≡ replies_of v cs
answers-reply = touched-rows.replies-in

-- The number of rows that a tick touches is never above twice the rows of the table.
pub touched-most : (text : List ℕ) (o : Opened) → open_text text ≡ value o → (ts : List Tick) → touched o.monitors ts ≤ 2 * o.row_count
touched-most = touched-rows.few-touched

-- After any calls, the walk of a tick with any word makes at most three times as many calls, each of which visits a row, as the tick touches rows.
pub visits-few : (text : List ℕ) (o : Opened) → open_text text ≡ value o → (cs : List Call) (w : ℕ)
    → visits_on (watch_after_all (watch_of (value o)) cs) w ≤ 3 * touched o.monitors (standing o.limits o.monitors o.initial o.wires cs).inner.ticks
visits-few = visited.visits-few

-- And the watch then has the tick count, the stop, the word before, the store values and how often each letter was met that the meaning fixes; all else of it but the marks and the
-- windows of limits is as opening gave it.
pub watch-held : (text : List ℕ) (o : Opened) → open_text text ≡ value o → (cs : List Call)
    → Held o.monitors (watch_of (value o)) (watch_after_all (watch_of (value o)) cs) (standing o.limits o.monitors o.initial o.wires cs)
watch-held = calls.watch-held

-- Monitor by monitor, what the watch counted, which is printed at the foot of the sheet, is how often each letter was met over the words of the ok takes.
pub totals-right : (text : List ℕ) (o : Opened) → open_text text ≡ value o → (cs : List Call)
    → totals_of (watch_after_all (watch_of (value o)) cs) ≡ totals o.monitors (standing o.limits o.monitors o.initial o.wires cs).inner.ticks
totals-right = calls.totals-right

-- The sum of these numbers over all letters is the sum over the ticks of how many letters are met there.
pub sum-over-ticks : (ms : List Exp) (ts : List Tick) → sum (totals ms ts) ≡ met_over ms [] ts
sum-over-ticks = totals-laws.sum-over-ticks

-- A reply is judged by `Fit` and, beside it, by `Limits`; and `Fit` by F17: words fit a monitor exactly if some branch, of all that F6 to F13 allow, has at no tick two letters of
-- one thread, a letter counted as often as it stands there.
pub fits-exactly : (m : Exp) (ts : List Tick)
    → (◌≡◌ {A = Bool} (fits m ts) true) ↔ ((r : Run) × (r ∈ branches m ts) × ((f : Exp) → f ∈ threads m → (k : ℕ) → required f (get_or r k []) ≤ 1))
fits-exactly = requires.fits-exactly

-- What a start of a thread adds to that count: each of its runs has one letter of the thread's own a tick, for so many ticks from its first one on, and none behind them.
pub start-requires : (text : List ℕ) (o : Opened) → open_text text ≡ value o → (m : Exp) → m ∈ o.monitors → (f : Exp) → f ∈ threads m → (ts : List Tick) (r : Run) → r ∈ runs f anything ts
    → (n : ℕ) × (n ≤ length ts) × (0 < length ts → 0 < n) × ((k : ℕ) → k < n → required f (get_or r k []) ≡ 1) × ((k : ℕ) → n ≤ k → required f (get_or r k []) ≡ 0)
start-requires text o e m i = requires.start-requires m (openings.all-accepted text o e m i)

-- These ticks end with a last letter of the thread: at the tick behind one the start requires none, behind any other of its letters it requires one.
pub start_ends : (text : List ℕ) (o : Opened) → open_text text ≡ value o → (m : Exp) → m ∈ o.monitors → (f : Exp) → f ∈ threads m → (ts : List Tick) (r : Run) → r ∈ runs f anything ts
    → (k n : ℕ) → n ∈ get_or r k [] → T (among (own f) n)
    → (T (last n f) → required f (get_or r (suc k) []) ≡ 0) × (T (not (last n f)) → suc k < length ts → required f (get_or r (suc k) []) ≡ 1)
start_ends text o e m i = ends.start_ends m (openings.all-accepted text o e m i)

-- Each letter of a thread is its own or that of a thread inside it, never both: the inner one alone requires it.
pub innermost : (text : List ℕ) (o : Opened) → open_text text ≡ value o → (m : Exp) → m ∈ o.monitors → (f : Exp) → f ∈ threads m
    → ((x : Letter) → x ∈ letters f → (x ∈ own f) ⊎ ((g : Exp) × (g ∈ threads f) × (x ∈ own g))) × ((g : Exp) → g ∈ threads f → (x : Letter) → x ∈ own g → x ∈ own f → ⊥)
innermost text o e m i = requires.innermost m (openings.all-accepted text o e m i)

-- So after any calls each thread has at most one letter of its own marked in the watch, where letters are numbered over all monitors.
pub one-active : (text : List ℕ) (o : Opened) → open_text text ≡ value o → (cs : List Call) (m : Exp) → m ∈ numbered_from 0 o.monitors → (f : Exp) → f ∈ threads m
    → (a b : ℕ) → T (among (own f) a) → T (among (own f) b)
    → (get_or (watch_after_all (watch_of (value o)) cs).marks a 0 ≡ 0 → ⊥) → (get_or (watch_after_all (watch_of (value o)) cs).marks b 0 ≡ 0 → ⊥) → a ≡ b
one-active = calls.one-active

-- What comes of looks among takes. These follow from how calls go one behind the other (`replies_of`, `watch_after_all`); the code is bound to that by `look-entry` and
-- `take-entry`, which have one `reply_of`, and by `look` having no watch to give back.

-- On every watch, a look and then a take of the same word: both have the word's answer, and all goes on from the watch after that word.
pub look-then-take : (v : Watch) (w : ℕ) (cs : List Call)
    → (replies_of v (look w ∷ take w ∷ cs) ≡ reply_of v w ∷ reply_of v w ∷ replies_of (watch_after v w) cs)
    × (watch_after_all v (look w ∷ take w ∷ cs) ≡ watch_after_all (watch_after v w) cs)
look-then-take = looks.look-then-take

-- On every watch, between any calls: a look has the answer that a take of its word in its place has, the answers before and behind it are those without it, and so is the
-- watch after all.
pub look_anywhere : (v : Watch) (bs : List Call) (w : ℕ) (cs : List Call)
    → let u = watch_after_all v bs in
    (replies_of v (bs ++ take w ∷ cs) ≡ replies_of v bs ++ reply_of u w ∷ replies_of (watch_after u w) cs)
    × (replies_of v (bs ++ look w ∷ cs) ≡ replies_of v bs ++ reply_of u w ∷ replies_of u cs)
    × (replies_of v (bs ++ cs) ≡ replies_of v bs ++ replies_of u cs)
    × (watch_after_all v (bs ++ look w ∷ cs) ≡ watch_after_all v (bs ++ cs))
look_anywhere = looks.look_anywhere

-- On every watch: of any calls, the takes have the answers that they have alone, and they alone leave the same watch.
pub takes-alone : (v : Watch) (cs : List Call)
    → (taken_replies cs (replies_of v cs) ≡ replies_of v (map take (taken cs))) × (watch_after_all v cs ≡ watch_after_all v (map take (taken cs)))
takes-alone v cs = (looks.replies-to-takes v cs, looks.watch-by-takes v cs)

-- However a trace is cut into pieces, `begin`, a `run` over each piece and `finish` print the sheet. (In one go: `sheet-entry` says it of `linewatch_sheet`.)
pub sheet-in-pieces : (text : List ℕ) (cut : List (List ℕ)) → printed_in_pieces text cut ≡ sheet text (joined cut)
sheet-in-pieces = pieces.pieces-printed

-- Through C, word by word: for every accepted text, opened in a range that may have held anything, and every list of looks and takes on it, each on the words that the call before it left, there is a
-- number for each call, and taken apart it is the right answer, as in `calls-rightly`.
pub live-rightly : (text : List ℕ) (o : Opened) → open_text text ≡ value o → (R : List WatchWords) → Lent R → (cs : List Call)
    → (length (codes_of (range_opened text R) cs) ≡ length cs)
    × AllAnswered o.limits o.monitors o.initial o.wires cs (all_told cs (codes_of (range_opened text R) cs))
live-rightly = live.live-rightly

-- And the ok takes, the store values and how often each letter was met, as the entries then tell them, are those that the meaning fixes; 0 where there is no such store or letter.
pub live-held : (text : List ℕ) (o : Opened) → open_text text ≡ value o → (R : List WatchWords) → Lent R → (cs : List Call)
    → let h = standing o.limits o.monitors o.initial o.wires cs in
    let Q = range_after_all (range_opened text R) cs in
    (ticks_at Q ≡ h.oks) × ((k : ℕ) → store_at Q k ≡ get_or h.inner.stores k 0) × ((m l : ℕ) → met_at Q m l ≡ get_or (get_or (totals o.monitors h.inner.ticks) m []) l 0)
live-held = live.live-held

-- The shared examples hold: each sheet is what the definitions compute. Assumes nothing.
use mathlib.Core.Path.{◌≡◌, refl}
use mathlib.Core.Bool.{true}
use mathlib.Core.List.{List, [], ◌∷◌, ◌++◌, map}
use Prim.Native.Nat.{ℕ, zero, suc}
use lib.ListN.{length, take}
use Rattle.lexer.specs.Bytes.{is_white, is_digit, is_letter, run, same, lookup}
use Rattle.lexer.specs.Tokens.{name_token, value_from, number_token, sign_token, first_token, next_token, token_at, tokens_from, tokens_at}
use Rattle.meaning.specs.Expression.{as_production, single, Exp, letters, own, size, rows, renumbered, store_tests}
use Rattle.meaning.specs.Fit.{fits, meets, merge, rounds, runs, occupied, write_met, onward, history, verdict}
use Rattle.meaning.specs.Touched.{rounds as around, reach, touched}
use Rattle.meaning.specs.Shape.{nullable, first, last, follow, threads, parts, meets_wires}
use Rattle.meaning.specs.ShapeTests.{agree, together, unsatisfiable, nullables, open_ends, ambiguous, shape}
use Rattle.meaning.specs.Reading.{choose, on_name, on_number, if_name, if_number, unless, by_kind, known, new_name, not_here, at_token, literal_name, behind_operand, behind_literal, step, read_on, read}
use Rattle.meaning.specs.Names.{declare}
use Rattle.meaning.specs.Answers.{Answer, value, refused}
use Rattle.meaning.specs.Opening.{Opened, counts, counts_of, as_opened, too_long, misshapen, open_program, open_text}
use Rattle.meaning.specs.Calls.{Call, Reply, reply, replies_from, replies}
use Rattle.trace.specs.Record.{digit, number, count, picked, record_of, differs, changes, written, new_byte, merged, idle, read_record}
use Rattle.trace.specs.Whole.{write_all, write_trace}
use Rattle.meaning.specs.Limits.{counts_at, counts_from, keeps_from, limits_verdict}
use Rattle.meaning.specs.Totals.{met_from}
use Rattle.meaning.specs.Sheet.{sheet, tick_lines, clean_line, counts_line, refusal_line, met_line, met_lines, all_met_lines, total_line, foot, line, decimal, digits_in, hexadecimal}
use Rattle.meaning.specs.Examples.{Example, sample, examples, Dialogue, dialogues, Touching, touchings}

abbrev Holds : Example → Type 0
Holds x = sheet x.text (write_trace x.words) ≡ x.sheet

abbrev AllHold : List Example → Type 0
AllHold [] = Unit {0}
AllHold (x ∷ xs) = Holds x × AllHold xs

pub examples-hold : AllHold examples
unfolding own occupied choose on_name on_number if_name if_number unless by_kind known new_name not_here at_token is_white is_digit is_letter run same lookup name_token value_from number_token sign_token first_token next_token token_at tokens_from tokens_at letters size rows renumbered meets merge rounds runs write_met onward verdict limits_verdict keeps_from counts_from counts_at nullable first last follow threads agree together unsatisfiable parts nullables open_ends ambiguous shape meets_wires declare as_production single store_tests literal_name behind_operand behind_literal step read_on read as_opened too_long misshapen open_program open_text counts_of reply digit number count picked record_of differs changes written new_byte merged idle read_record write_all write_trace sheet tick_lines clean_line counts_line refusal_line met_from met_line met_lines all_met_lines total_line foot line decimal digits_in hexadecimal
examples-hold = (refl, (refl, (refl, (refl, (refl, (refl, (refl, (refl, (refl, (refl, (refl, (refl, (refl, (refl, (refl, (refl, (refl, (refl, (refl, (refl, (refl, (refl, (refl, (refl, (refl, (refl, (refl, (refl, (refl, (refl, (refl, (refl, (refl, (refl, (refl, (refl, (refl, (refl, (refl, (refl, tt))))))))))))))))))))))))))))))))))))))))

-- looks and takes on the watch that a text opens, and none on one that it does not
abbrev replies_to : Answer Opened → List Call → List Reply
replies_to (value o) cs = replies o.limits o.monitors o.initial o.wires cs
replies_to (refused number place) cs = []

abbrev AllAnswered : List Dialogue → Type 0
AllAnswered [] = Unit {0}
AllAnswered (x ∷ xs) = (replies_to (open_text x.text) x.calls ≡ x.replies) × AllAnswered xs

pub dialogues-hold : AllAnswered dialogues
unfolding own occupied choose on_name on_number if_name if_number unless by_kind known new_name not_here at_token is_white is_digit is_letter run same lookup name_token value_from number_token sign_token first_token next_token token_at tokens_from tokens_at letters size rows renumbered meets merge rounds runs write_met onward verdict limits_verdict keeps_from counts_from counts_at nullable first last follow threads agree together unsatisfiable parts nullables open_ends ambiguous shape meets_wires declare as_production single store_tests literal_name behind_operand behind_literal step read_on read as_opened too_long misshapen open_program open_text reply replies_from
dialogues-hold = (refl, (refl, tt))

-- the numbers below n
abbrev up_to : ℕ → List ℕ
up_to zero = []
up_to (suc n) = up_to n ++ n ∷ []

-- the rows touched at each of some words and behind them, by the words before
abbrev touched_all : Opened → List ℕ → List ℕ
touched_all o ws = map (λ n. touched o.monitors (history o.monitors o.initial (take n ws)).ticks) (up_to (suc (length ws)))

abbrev touched_to : Answer Opened → List ℕ → List ℕ
touched_to (value o) ws = touched_all o ws
touched_to (refused number place) ws = []

abbrev AllTouched : List Touching → Type 0
AllTouched [] = Unit {0}
AllTouched (x ∷ xs) = (touched_to (open_text x.text) x.words ≡ x.numbers) × AllTouched xs

pub touchings-hold : AllTouched touchings
unfolding own occupied choose on_name on_number if_name if_number unless by_kind known new_name not_here at_token is_white is_digit is_letter run same lookup name_token value_from number_token sign_token first_token next_token token_at tokens_from tokens_at letters size rows renumbered meets merge rounds runs write_met onward verdict limits_verdict keeps_from counts_from counts_at nullable first last follow threads agree together unsatisfiable parts nullables open_ends ambiguous shape meets_wires declare as_production single store_tests literal_name behind_operand behind_literal step read_on read as_opened too_long misshapen open_program open_text around reach
touchings-hold = (refl, (refl, (refl, (refl, (refl, (refl, tt))))))

-- the sample's trace is the one that the customer's specification prints
pub sample-trace : write_trace sample.words ≡ 1 ∷ 1 ∷ 1 ∷ 0 ∷ 0 ∷ []
unfolding digit number count picked record_of differs changes written write_all write_trace
sample-trace = refl

-- F14: "no words at all fit every monitor"
pub empty-fits : (m : Exp) → fits m [] ≡ true
unfolding runs rounds
empty-fits m = refl

-- P7 and P10: its sheet has `clean 0`, and at its foot every letter with 0
pub nothing_yet : (text : List ℕ) (o : Opened) → open_text text ≡ value o → sheet text [] ≡ counts_line (counts o) ++ (clean_line 0 ++ foot (map (λ m. map (λ l. 0) (letters m)) o.monitors))
unfolding sheet tick_lines counts_of met_from
nothing_yet text o e = rw e

-- What each answer of the code says: its value, or a refusal's number and place (docs/REFERENCE.md, X1). Assumes nothing.
use Rattle.std.specs.Prelude.{ℕ, Option, Some, None, Result, Ok, Err}
use Rattle.refusals.specs.declared.Refusal.{Refusal}
use Rattle.refusals.specs.declared.Refusal.TheVariants as refusal
use Rattle.refusals.specs.Refusals.{number_of}
use Rattle.trace.specs.Answer.{Answer, value, refused}
use Rattle.trace.specs.Record.{Item, word, end}
use Rattle.trace.specs.declared.record.Record.{Record}
use Rattle.trace.specs.declared.TraceError.{TraceError}
use Rattle.trace.specs.declared.TraceError.TheVariants as error
use Rattle.refusals.specs.Numbers.{idle_byte}

-- R5, R6 and R12: 13, 14 or 18
abbrev pub refusal_of : TraceError → Refusal
refusal_of (error.Torn at) = refusal.Torn
refusal_of (error.Idle at) = refusal.IdleByte
refusal_of error.Short = refusal.ShortBin

-- R7 and R9: the byte at which the record begins; R12: "place 0"
abbrev pub place_of : TraceError → ℕ
place_of (error.Torn at) = at
place_of (error.Idle at) = at
place_of error.Short = 0

abbrev pub shown_error : {A : Type 0} → TraceError → Answer A
shown_error e = refused (number_of (refusal_of e)) (place_of e)

-- a word and its record's length, or the end
abbrev pub shown_item : Option Record → Item
shown_item (Some r) = word r.word r.length
shown_item None = end

-- R4: a word and its record's length, the end, or a refusal; R7: with the place at which the record begins
abbrev pub shown_read : Result (Option Record) TraceError → Answer Item
shown_read (Ok item) = value (shown_item item)
shown_read (Err e) = shown_error e

-- R9 and R10: how many words there are, or a refusal
abbrev pub shown_trace : Result ℕ TraceError → Answer ℕ
shown_trace (Ok n) = value n
shown_trace (Err e) = shown_error e

-- R12: the length of what was written, or "refusal 18 with place 0"
abbrev pub shown_written : Result ℕ TraceError → Answer ℕ
shown_written = shown_trace

-- inside the reader, of a record of n bytes (R6)
abbrev pub shown_merged : Option ℕ → (n : ℕ) → Answer Item
shown_merged (Some w) n = value (word w n)
shown_merged None n = refused idle_byte 0

-- A record as the code reads it (docs/REFERENCE.md, R4). Assumes nothing.
use Rattle.std.specs.Prelude.{◌≡◌, ◌≢◌, Option, Some, None, Result, Ok, Err, ℕ}
use Rattle.refusals.specs.Numbers.{torn}
use Rattle.refusals.specs.Refusals.{number_of}
use Rattle.refusals.specs.declared.Refusal.{Refusal}
use Rattle.trace.specs.Answer.{Answer, value, refused}
use Rattle.trace.specs.Record as trace
use Rattle.trace.specs.declared.record.Record.{Record}

-- the bytes end, or cut a record short
abbrev pub IsOver : Answer trace.Item → Type 0
IsOver (value (trace.word w n)) = ⊥
IsOver (value trace.end) = Unit {0}
IsOver (refused k p) = k ≡ torn

-- it is refused, and not as cut short
abbrev pub IsRefused : Answer trace.Item → (number : ℕ) → Type 0
IsRefused (value i) number = ⊥
IsRefused (refused k p) number = (k ≡ number) × (k ≢ torn)

-- R4: a word and its record's length; none where the bytes end or cut a record short; else the refusal
abbrev pub IsNext : Result (Option Record) Refusal → Answer trace.Item → Type 0
IsNext (Ok (Some r)) a = a ≡ value (trace.word r.word r.length)
IsNext (Ok None) a = IsOver a
IsNext (Err e) a = IsRefused a (number_of e)

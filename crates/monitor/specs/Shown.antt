-- What an answer of the code says: a reply in the terms of `meaning` (docs/REFERENCE.md, W2), and a refusal and a place as numbers. Assumes nothing.
use Rattle.std.specs.Prelude.{ℕ, Option, Some, None, Result, Ok, Err}
use Rattle.refusals.specs.declared.Refusal.{Refusal}
use Rattle.refusals.specs.Refusals.{number_of}
use Rattle.meaning.specs.Calls.{Reply, ok, bad, refused}
use Rattle.monitor.specs.declared.Fault.{Fault}
use Rattle.monitor.specs.declared.Fault.TheVariants.{Bad, Refused}

-- W2: "ok, bad with the number of a monitor or a limit, or refused with a number"; X12: "A refusal without a place of its own has place 0"
abbrev pub shown_answer : Result (Unit {0}) Fault → Reply
shown_answer (Ok _) = ok
shown_answer (Err (Bad m)) = bad m
shown_answer (Err (Refused r)) = refused (number_of r) 0

-- the number of a refusal, or 0 where nothing is refused
abbrev pub shown_refusal : Option Refusal → ℕ
shown_refusal None = 0
shown_refusal (Some r) = number_of r

-- the place of a letter, or 256 where there is none
abbrev pub shown_place : Option ℕ → ℕ
shown_place None = 256
shown_place (Some place) = place

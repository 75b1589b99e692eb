-- What a reader answers as numbers: 0 or the number of the refusal (docs/REFERENCE.md, X1), and a position: where reading goes on, or the place of the refusal.
-- Assumes nothing.
use Rattle.std.specs.Prelude.{ℕ, Result, Ok, Err}
use Rattle.refusals.specs.Refusals.{number_of}
use Rattle.rules.specs.declared.tokens.Misread.{Misread}

abbrev pub fault_in : {T : Type 0} → Result T Misread → ℕ
fault_in (Ok a) = 0
fault_in (Err e) = number_of e.why

-- a position that an answer has, or the place of the refusal
abbrev pub at_in : {T : Type 0} → (T → ℕ) → Result T Misread → ℕ
at_in f (Ok a) = f a
at_in f (Err e) = e.place

-- an answer that is a position
abbrev pub next_in : Result ℕ Misread → ℕ
next_in (Ok n) = n
next_in (Err e) = e.place

-- what else an answer has, or what stands for it where there is none
abbrev pub or_in : {T A : Type 0} → (T → A) → A → Result T Misread → A
or_in f d (Ok a) = f a
or_in f d (Err e) = d

-- What opening a text answers: a value, or a refusal by its number and place (docs/REFERENCE.md, X1). Assumes nothing.
use Rattle.std.specs.Prelude.{ℕ}

-- X1: where a rule text is at fault, a byte, or a monitor and one of its letters
pub data Place : Type 0 where
  byte : ℕ → Place
  letter_of : (monitor letter : ℕ) → Place

-- X1: a value, or "A refusal is a number and a place."
pub data Answer (A : Type 0) : Type 0 where
  value : A → Answer A
  refused : ℕ → Place → Answer A

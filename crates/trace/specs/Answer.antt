-- The two kinds of answer: a value, or a refusal (X1: "A refusal is a number and a place."). Assumes nothing.
use Rattle.std.specs.Prelude.{ℕ}

pub data Answer (A : Type 0) : Type 0 where
  value : A → Answer A
  refused : ℕ → ℕ → Answer A

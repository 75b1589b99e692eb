-- The test of a letter's wire literals (docs/REFERENCE.md, S9) on any three words: the wires looked at, the values wanted, and the word tested. Assumes nothing.
use Rattle.std.specs.Prelude.{Bool, ◌||◌, ℕ, eqb}
use Rattle.meaning.specs.Lists.{all, below}
use Rattle.meaning.specs.Expression.{bit}

-- S9: bit i is not "looked at", or the word "has what is wanted there"
abbrev pub as_wanted : (look want word i : ℕ) → Bool
as_wanted look want word i = eqb (bit i look) 0 || eqb (bit i word) (bit i want)

-- S9: "at every bit from 0 to 63 that is looked at it has what is wanted there". Bits of want that are not looked at do not matter.
unfoldable pub passes : (look want word : ℕ) → Bool
passes look want word = all (as_wanted look want word) (below 64)

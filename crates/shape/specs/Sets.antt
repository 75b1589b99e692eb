-- A set of letters as a word: bit x is for the letter x places behind the first. Assumes nothing.
use Rattle.std.specs.Prelude.{Bool, ◌≡◌, ℕ, ◌+◌, ◌<◌, eqb}
use Rattle.meaning.specs.Expression.{bit}

unfoldable pub has : (x set : ℕ) → Bool
has x set = eqb (bit x set) 1

-- of the letters from the first on and below the stop, 64 at most, the set has those that pass a test
abbrev pub Passing : (test : ℕ → Bool) (first stop set : ℕ) → Type 0
Passing test first stop set = (x : ℕ) → x < 64 → first + x < stop → has x set ≡ test (first + x)

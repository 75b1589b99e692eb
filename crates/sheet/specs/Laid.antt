-- The line of a good tick (docs/REFERENCE.md, P4) as it is kept from tick to tick: 41 bytes, where the number ends before byte 20, and byte 21 begins the
-- word. Assumes nothing.
use Rattle.std.specs.Prelude.{List, ◌∷◌, ◌++◌, ◌≡◌, ℕ, ◌+◌, length}
use Rattle.lexer.specs.Bytes.{bytes}
use Rattle.meaning.specs.Sheet.{decimal}

-- from `from` on the line of tick t, with any word
pub record Laid (line : List ℕ) (from t : ℕ) : Type 0 where
  pub front : List ℕ
  pub word : List ℕ
  pub whole : line ≡ front ++ (decimal t ++ (32 ∷ (word ++ bytes " ok\n")))
  pub starts : length front ≡ from
  pub ends : from + length (decimal t) ≡ 20
  pub long : length word ≡ 16

-- Hexadecimal digits as bytes (docs/REFERENCE.md, P2). Assumes nothing.
use Rattle.std.specs.Prelude.{cond, List, ◌≡◌, ℕ, ◌+◌, ◌*◌, ◌/◌, ◌%◌, ◌<◌, ltb, get_or}

-- as in the sheet's definition; P2: "a to f in small letters"
abbrev pub hex_digit : ℕ → ℕ
hex_digit d = cond (ltb d 10) (48 + d) (87 + d)

-- both digits of a byte, the first one low
unfoldable pub pair_of : ℕ → ℕ
pair_of b = hex_digit (b / 16) + 256 * hex_digit (b % 16)

-- those of every byte
abbrev pub Pairs : List ℕ → Type 0
Pairs t = (k : ℕ) → k < 256 → get_or t k 0 ≡ pair_of k

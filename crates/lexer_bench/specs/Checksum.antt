-- One number made of all tokens of a text (docs/REFERENCE.md, T11), for the benchmark to compare.
-- Assumes nothing.
use Rattle.std.specs.Prelude.{ℕ, ◌+◌, ◌%◌, ◌^◌, List, [], ◌∷◌}
use Rattle.lexer.specs.declared.Token as Code
use Rattle.lexer.specs.Shown.{kind_shown}
use Rattle.lexer.specs.Tokens.{Word, input, internal, define, monitor, past, limit, to, inside, Token, name, word, number, sign, end, refused, Placed}

abbrev pub word_weight : Word → ℕ
word_weight input = 2
word_weight internal = 3
word_weight define = 4
word_weight monitor = 5
word_weight past = 8
word_weight limit = 9
word_weight to = 10
word_weight inside = 11

abbrev pub weight : Token → ℕ
weight (name s) = 1
weight (word w) = word_weight w
weight (number n) = n
weight (sign n) = n
weight end = 6
weight (refused n) = 7

-- the code's token as it weighs, which does not go by its bytes
abbrev pub bare : Code.Token → Placed
bare t = record { token = kind_shown [] t.kind; place = t.place; after = t.after }

-- a sum and a token more, modulo 2^64
abbrev pub plus : ℕ → Placed → ℕ
plus sum t = (((sum + weight t.token) % 2 ^ 64 + t.place) % 2 ^ 64 + t.after) % 2 ^ 64

unfoldable pub checksum : ℕ → List Placed → ℕ
checksum sum [] = sum
checksum sum (t ∷ ts) = checksum (plus sum t) ts

-- The answer of opening a text in one word. Assumes nothing.
use Rattle.std.specs.Prelude.{ℕ, ◌+◌, ◌*◌, ◌%◌}
use Rattle.meaning.specs.Answers.{Answer, value, refused, byte, letter_of}
use Rattle.meaning.specs.Opening.{Counts}

-- a number and two more, each below 65,536
abbrev pub packed : (number a b : ℕ) → ℕ
packed n a b = n * 4294967296 + (a % 65536) * 65536 + b % 65536

-- a refusal's number with its place (X1), or 0 with both counts (S3)
abbrev pub in_one_word : Answer Counts → ℕ
in_one_word (value c) = packed 0 c.rows c.letters
in_one_word (refused n (byte place)) = packed n place 0
in_one_word (refused n (letter_of monitor letter)) = packed n monitor letter

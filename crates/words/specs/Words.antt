-- A word of four numbers below 65,536. Assumes nothing.
use Rattle.std.specs.Prelude.{ℕ, ◌+◌, ◌*◌, ◌/◌, ◌%◌}

-- of larger numbers it has the lowest 16 bits
abbrev pub quad : (a b c d : ℕ) → ℕ
quad a b c d = a % 65536 + 65536 * (b % 65536 + 65536 * (c % 65536 + 65536 * (d % 65536)))

abbrev pub part0 : ℕ → ℕ
part0 w = w % 65536

abbrev pub part1 : ℕ → ℕ
part1 w = w / 65536 % 65536

abbrev pub part2 : ℕ → ℕ
part2 w = w / 4294967296 % 65536

abbrev pub part3 : ℕ → ℕ
part3 w = w / 281474976710656 % 65536

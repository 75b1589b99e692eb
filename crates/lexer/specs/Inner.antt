-- What the contracts of the lexer's inner functions cite. Assumes nothing.
use Rattle.std.specs.Prelude.{ℕ, ◌-◌, Bool, cond, List, ◌≡◌, ltb, get_or, Option, Some, None}
use Rattle.lexer.specs.Bytes.{bytes}
use Rattle.lexer.specs.Shown.{sign_number}
use Rattle.lexer.specs.declared.Sign.{Sign}

-- what a closure answers for a byte is what a test gives
abbrev pub Computes : (ℕ → Bool → Type 0) → (ℕ → Bool) → Type 0
Computes answers test = (b : ℕ) (r : Bool) → answers b r → r ≡ test b

-- the second bytes of the signs from `==` on
abbrev pub second_bytes : List ℕ
second_bytes = bytes "=|>-"

-- the second byte of a sign of two bytes, by the sign's number
abbrev pub second_by : ℕ → Option ℕ
second_by n = cond (ltb n 14) None (Some (get_or second_bytes (n - 14) 0))

abbrev pub second_byte : Sign → Option ℕ
second_byte g = second_by (sign_number g)

-- The class of a byte (docs/REFERENCE.md, T8): "Each of the 256 byte values has one class".
--     0        no token begins with it
--     1        white space
--     2        a digit
--     3        a letter or _
--     4 + n    a sign begins with it, and of those that do n is the last in the order of T6, which is the longest
-- Assumes nothing.
use Rattle.std.specs.Prelude.{ℕ, ◌+◌, Bool, false, cond, List, [], ◌∷◌, eqb}
use Rattle.lexer.specs.Bytes.{Entry, is_white, is_digit, is_letter}
use Rattle.lexer.specs.Signs.{signs}
use Rattle.lexer.specs.Shown.{sign_number}
use Rattle.lexer.specs.declared.classes.Class.{Class}
use Rattle.lexer.specs.declared.classes.Class.TheVariants.{White, Digit, Letter, Sign, Other}

abbrev pub begins : ℕ → List ℕ → Bool
begins b [] = false
begins b (c ∷ s) = eqb b c

-- the class that the signs of the list give the byte, where it has the class c so far
abbrev pub sign_class : ℕ → ℕ → List (Entry ℕ) → ℕ
sign_class b c [] = c
sign_class b c (e ∷ es) = sign_class b (cond (begins b e.spelling) (4 + e.meaning) c) es

-- T8
unfoldable pub class_of : ℕ → ℕ
class_of b = cond (is_white b) 1 (cond (is_digit b) 2 (cond (is_letter b) 3 (sign_class b 0 signs)))

-- the number of a class of the code
abbrev pub class_number : Class → ℕ
class_number Other = 0
class_number White = 1
class_number Digit = 2
class_number Letter = 3
class_number (Sign g) = 4 + sign_number g

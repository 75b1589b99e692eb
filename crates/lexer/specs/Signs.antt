-- The signs (docs/REFERENCE.md, T6: "There are eighteen"). A sign is known by its number in that order, from 0, which
-- has a name here.
-- Assumes nothing.
use Rattle.std.specs.Prelude.{ℕ, List, [], ◌∷◌}
use Rattle.lexer.specs.Bytes.{Entry, ◌means◌}

abbrev pub semicolon : ℕ
semicolon = 0

abbrev pub comma : ℕ
comma = 1

abbrev pub at_sign : ℕ
at_sign = 2

abbrev pub star : ℕ
star = 3

abbrev pub ampersand : ℕ
ampersand = 4

abbrev pub bang : ℕ
bang = 5

abbrev pub left_paren : ℕ
left_paren = 6

abbrev pub right_paren : ℕ
right_paren = 7

abbrev pub left_bracket : ℕ
left_bracket = 8

abbrev pub right_bracket : ℕ
right_bracket = 9

abbrev pub left_brace : ℕ
left_brace = 10

abbrev pub right_brace : ℕ
right_brace = 11

abbrev pub colon : ℕ
colon = 12

abbrev pub equals : ℕ
equals = 13

abbrev pub double_equals : ℕ
double_equals = 14

abbrev pub double_bar : ℕ
double_bar = 15

abbrev pub right_arrow : ℕ
right_arrow = 16

abbrev pub left_arrow : ℕ
left_arrow = 17

-- T6: "`;` `,` `@` `*` `&` `!` `(` `)` `[` `]` `{` `}` `:` `=` `==` `||` `->` `<-`"
abbrev pub signs : List (Entry ℕ)
signs =
    (";" means semicolon)
    ∷ ("," means comma)
    ∷ ("@" means at_sign)
    ∷ ("*" means star)
    ∷ ("&" means ampersand)
    ∷ ("!" means bang)
    ∷ ("(" means left_paren)
    ∷ (")" means right_paren)
    ∷ ("[" means left_bracket)
    ∷ ("]" means right_bracket)
    ∷ ("{" means left_brace)
    ∷ ("}" means right_brace)
    ∷ (":" means colon)
    ∷ ("=" means equals)
    ∷ ("==" means double_equals)
    ∷ ("||" means double_bar)
    ∷ ("->" means right_arrow)
    ∷ ("<-" means left_arrow)
    ∷ []

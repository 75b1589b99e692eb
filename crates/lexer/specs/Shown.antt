-- What the code's answers, and the list of reserved words that it is given, stand for in the terms of `Tokens` (docs/REFERENCE.md, T4 and T10).
-- Assumes nothing.
use Rattle.std.specs.Prelude.{ℕ, ◌-◌, Bool, cond, List, [], ◌∷◌, take, drop}
use Rattle.lexer.specs.Signs as signs
use Rattle.lexer.specs.declared.Sign.{Sign}
use Rattle.lexer.specs.declared.Sign.TheVariants.{Semicolon, Comma, At, Star, Ampersand, Bang, LeftParen, RightParen, LeftBracket, RightBracket, LeftBrace, RightBrace, Colon, Equals, DoubleEquals, DoubleBar, RightArrow, LeftArrow}
use Rattle.refusals.specs.Numbers as refusal
use Rattle.lexer.specs.Tokens as tokens
use Rattle.lexer.specs.declared.Word.{Word}
use Rattle.lexer.specs.declared.Word.TheVariants.{Input, Internal, Define, Monitor, Past, Limit, To, In}
use Rattle.lexer.specs.declared.Reserved.{Reserved}
use Rattle.lexer.specs.declared.Kind.{Kind}
use Rattle.lexer.specs.declared.Kind.TheVariants as kind
use Rattle.lexer.specs.declared.Token.{Token}

-- T6: the number in the order there
abbrev pub sign_number : Sign → ℕ
sign_number Semicolon = signs.semicolon
sign_number Comma = signs.comma
sign_number At = signs.at_sign
sign_number Star = signs.star
sign_number Ampersand = signs.ampersand
sign_number Bang = signs.bang
sign_number LeftParen = signs.left_paren
sign_number RightParen = signs.right_paren
sign_number LeftBracket = signs.left_bracket
sign_number RightBracket = signs.right_bracket
sign_number LeftBrace = signs.left_brace
sign_number RightBrace = signs.right_brace
sign_number Colon = signs.colon
sign_number Equals = signs.equals
sign_number DoubleEquals = signs.double_equals
sign_number DoubleBar = signs.double_bar
sign_number RightArrow = signs.right_arrow
sign_number LeftArrow = signs.left_arrow

-- T4
abbrev pub word_shown : Word → tokens.Word
word_shown Input = tokens.input
word_shown Internal = tokens.internal
word_shown Define = tokens.define
word_shown Monitor = tokens.monitor
word_shown Past = tokens.past
word_shown Limit = tokens.limit
word_shown To = tokens.to
word_shown In = tokens.inside

-- T4: a word, if it is reserved, before those of a list
abbrev pub with_word : Bool → tokens.Word → List tokens.Word → List tokens.Word
with_word reserved w ws = cond reserved (w ∷ ws) ws

-- the words of a limit among them
abbrev pub limit_words : Reserved → List tokens.Word
limit_words r = with_word r.limit tokens.limit (with_word r.to tokens.to (with_word r.inside tokens.inside []))

-- T4: the list that reading is given, as a flag for each word
abbrev pub reserved_shown : Reserved → List tokens.Word
reserved_shown r =
    with_word r.input tokens.input
    (with_word r.internal tokens.internal
    (with_word r.define tokens.define
    (with_word r.monitor tokens.monitor
    (with_word r.past tokens.past (limit_words r)))))

-- T4: whether a word is in the list that reading is given
abbrev pub is_reserved : Reserved → Word → Bool
is_reserved r Input = r.input
is_reserved r Internal = r.internal
is_reserved r Define = r.define
is_reserved r Monitor = r.monitor
is_reserved r Past = r.past
is_reserved r Limit = r.limit
is_reserved r To = r.to
is_reserved r In = r.inside

-- of a token whose bytes are s; T7: "Knot, refusal 2"
abbrev pub kind_shown : List ℕ → Kind → tokens.Token
kind_shown s kind.Name = tokens.name s
kind_shown s (kind.Word w) = tokens.word (word_shown w)
kind_shown s (kind.Number n) = tokens.number n
kind_shown s (kind.Sign g) = tokens.sign (sign_number g)
kind_shown s kind.End = tokens.end
kind_shown s kind.Knot = tokens.refused refusal.knot

-- of a token of the text s; T10: "the token that begins there, its place, and the place behind its last byte"
abbrev pub shown : List ℕ → Token → tokens.Placed
shown s t =
    record { token = kind_shown (take (t.after - t.place) (drop t.place s)) t.kind; place = t.place; after = t.after }

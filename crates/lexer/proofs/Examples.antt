-- Worked examples, by computation: the tokens of some texts with their places.
-- Assumes nothing.
use mathlib.Core.Path.{◌≡◌, refl}
use mathlib.Core.List.{List, [], ◌∷◌}
use Prim.Native.String.{String}
use Rattle.lexer.specs.Bytes.{bytes, run, same, lookup, is_white, is_digit, is_letter}
use Rattle.lexer.specs.Tokens.{Placed, name, word, number, sign, end, input, rule_words, taken, untaken, knot, value_from, name_token, number_token, sign_token, first_token, next_token, token_at, tokens_from, tokens_at, tokens}

-- the tokens of a quoted text; what unfolds it computes them
unfoldable pub tokens_of : String → List Placed
unfolding tokens_at tokens_from token_at next_token first_token name_token number_token sign_token value_from run same lookup is_white is_digit is_letter
tokens_of text = tokens rule_words (bytes text)

-- a number, then a name
number-then-name : tokens_of "12ab" ≡ taken 0 (number 12) 2 ∷ taken 2 (name (bytes "ab")) 2 ∷ untaken 4 end ∷ []
unfolding tokens_of
number-then-name = refl

-- the longest sign is taken, from the left
three-equals : tokens_of "===" ≡ taken 0 (sign 14) 2 ∷ taken 2 (sign 13) 1 ∷ untaken 3 end ∷ []
unfolding tokens_of
three-equals = refl

-- a bar alone is a knot, and nothing is read after it
one-bar : tokens_of "a |b" ≡ taken 0 (name (bytes "a")) 1 ∷ knot 2 ∷ []
unfolding tokens_of
one-bar = refl

-- the largest number, with leading zeros, and one more
largest : tokens_of "0018446744073709551615" ≡ taken 0 (number 18446744073709551615) 22 ∷ untaken 22 end ∷ []
unfolding tokens_of
largest = refl

too_large : tokens_of "18446744073709551616" ≡ knot 0 ∷ []
unfolding tokens_of
too_large = refl

-- 16 bytes are a name, 17 are not
longest-name : tokens_of "abcdefghijklmn_0" ≡ taken 0 (name (bytes "abcdefghijklmn_0")) 16 ∷ untaken 16 end ∷ []
unfolding tokens_of
longest-name = refl

too_long_lem : tokens_of "abcdefghijklmn_01" ≡ knot 0 ∷ []
unfolding tokens_of
too_long_lem = refl

-- a reserved word, and a name that begins with one
words-and-names : tokens_of "input inputs;\n" ≡ taken 0 (word input) 5 ∷ taken 6 (name (bytes "inputs")) 6 ∷ taken 12 (sign 0) 1 ∷ untaken 14 end ∷ []
unfolding tokens_of
words-and-names = refl

-- a word is a name where it is not reserved
not-reserved : tokens (input ∷ []) (bytes "past") ≡ taken 0 (name (bytes "past")) 4 ∷ untaken 4 end ∷ []
unfolding tokens_at tokens_from token_at next_token first_token name_token run same lookup is_white is_digit is_letter
not-reserved = refl

-- past the end of the text it is the end, at the text's length
past_the_end_lem : token_at rule_words (bytes "ab") 7 ≡ untaken 2 end
unfolding token_at next_token first_token run is_white
past_the_end_lem = refl

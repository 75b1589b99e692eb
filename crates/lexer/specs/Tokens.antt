-- The tokens of a text in which the words of the list R are reserved (docs/REFERENCE.md, T2 to T7 and T9 to T11): what
-- stands at a place, and the list of all.
-- Assumes nothing.
use Prim.Native.String.{String}
use Rattle.std.specs.Prelude.{ℕ, zero, suc, ◌+◌, ◌-◌, ◌*◌, ◌^◌, min, Bool, true, false, cond, List, [], ◌∷◌, leb, ltb, length, take, drop}
use Rattle.std.proofs.Math.Option.{Option, none, some}
use Rattle.refusals.specs.Numbers as refusal
use Rattle.lexer.specs.Signs.{signs}
use Rattle.lexer.specs.Bytes.{Entry, ◌means◌, lookup, run, is_white, is_digit, is_letter, is_name_byte}

-- T4: "Eight words can be reserved: `input`, `internal`, `define`, `monitor`, `past`, `limit`, `to` and `in`."
pub data Word : Type 0 where
  input internal define monitor past limit to inside : Word

-- T4: how each is spelled
abbrev pub spelling : Word → String
spelling input = "input"
spelling internal = "internal"
spelling define = "define"
spelling monitor = "monitor"
spelling past = "past"
spelling limit = "limit"
spelling to = "to"
spelling inside = "in"

-- T4: "A list that reading is given says which of them are": the words of a list with their spellings
abbrev pub entries : List Word → List (Entry Word)
entries [] = []
entries (w ∷ ws) = (spelling w means w) ∷ entries ws

-- T4: "A rule text reserves all eight."
abbrev pub rule_words : List Word
rule_words = input ∷ internal ∷ define ∷ monitor ∷ past ∷ limit ∷ to ∷ inside ∷ []

-- What stands at a place: a token, the end of the text, or a refusal's number (X1).
pub data Token : Type 0 where
  name : List ℕ → Token
  word : Word → Token
  number : ℕ → Token
  sign : ℕ → Token
  end : Token
  refused : ℕ → Token

-- T10: "the token that begins there, its place, and the place behind its last byte"
pub record Placed : Type 0 where
  pub token : Token
  pub place : ℕ
  pub after : ℕ

-- a token of so many bytes
abbrev pub taken : ℕ → Token → ℕ → Placed
taken p t n = record { token = t; place = p; after = p + n }

-- T11: "The end and a knot take no byte: the place behind them is their own"
abbrev pub untaken : ℕ → Token → Placed
untaken p t = record { token = t; place = p; after = p }

-- T7: "Knot, refusal 2, is what stands where no token begins, and instead of a name with more than 16 bytes or a number
-- of 2^64 or more."
abbrev pub knot : ℕ → Placed
knot p = untaken p (refused refusal.knot)

-- T4: "a name that is spelled exactly like a word of the list is a reserved word, and never a name"
abbrev pub or_name : List ℕ → Option Word → Token
or_name s (some w) = word w
or_name s none = name s

-- T3: "It may have 16 bytes."
unfoldable pub name_token : List Word → ℕ → List ℕ → Placed
name_token R p s = cond (leb (length s) 16) (taken p (or_name s (lookup s (entries R))) (length s)) (knot p)

-- T5: "read in decimal": the value of digits that follow on the value v; 48 is the byte of 0
unfoldable pub value_from : ℕ → List ℕ → ℕ
value_from v [] = v
value_from v (b ∷ s) = value_from (v * 10 + (b - 48)) s

-- T5: "its value must be below 2^64"
unfoldable pub number_token : ℕ → List ℕ → Placed
number_token p s = cond (ltb (value_from 0 s) (2 ^ 64)) (taken p (number (value_from 0 s)) (length s)) (knot p)

-- the sign of the spelling s, if it is one, else another answer
abbrev pub or_sign : ℕ → List ℕ → Option ℕ → Placed → Placed
or_sign p s (some n) other = taken p (sign n) (length s)
or_sign p s none other = other

-- T6: "Two bytes that make a sign are taken together, even if the first of them is a sign too". Else a sign of one
-- byte, else a knot (T7).
unfoldable pub sign_token : ℕ → List ℕ → Placed
sign_token p s =
    or_sign p (take 2 s) (lookup (take 2 s) signs)
    (or_sign p (take 1 s) (lookup (take 1 s) signs)
    (knot p))

-- what stands first in the text s, whose first byte is not white space and has the place p;
-- T9: "Behind the last token stands the end."; T5: "A digit begins a number", T3: "begins a name", else a sign or a
-- knot
unfoldable pub first_token : List Word → ℕ → List ℕ → Placed
first_token R p [] = untaken p end
first_token R p (b ∷ s) =
    cond (is_digit b) (number_token p (run is_digit (b ∷ s)))
    (cond (is_letter b) (name_token R p (run is_name_byte (b ∷ s)))
    (sign_token p (b ∷ s)))

-- what stands first in the text s, which begins at the place p; T10: "It skips white space from the position on"
unfoldable pub next_token : List Word → ℕ → List ℕ → Placed
next_token R p s = let n = length (run is_white s) in first_token R (p + n) (drop n s)

-- T10: "For a position beyond the text's length it answers with the end." T9: "Its place is the length of the text".
unfoldable pub token_at : List Word → List ℕ → ℕ → Placed
token_at R s at = next_token R (min at (length s)) (drop at s)

-- T11: nothing is read after the end or a knot
abbrev pub goes_on : Token → Bool
goes_on (name s) = true
goes_on (word w) = true
goes_on (number n) = true
goes_on (sign n) = true
goes_on end = false
goes_on (refused n) = false

-- the first k tokens from a position on
unfoldable pub tokens_from : List Word → ℕ → List ℕ → ℕ → List Placed
tokens_from R zero s at = []
tokens_from R (suc k) s at =
    let t = token_at R s at in
    t ∷ elim (goes_on t.token) [ true ↦ tokens_from R k s t.after | false ↦ [] ]

-- The tokens from a position on, the last of which is the end or a knot. A token takes a byte at least.
unfoldable pub tokens_at : List Word → List ℕ → ℕ → List Placed
tokens_at R s at = tokens_from R (suc (length s - at)) s at

-- T11: "the tokens of a text are listed up to its end or its first knot"
abbrev pub tokens : List Word → List ℕ → List Placed
tokens R s = tokens_at R s 0

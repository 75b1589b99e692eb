-- The bytes of a rule text and which kinds there are (docs/REFERENCE.md, T1 to T5).
-- T1: "A rule text is a list of bytes of any value." A place counts bytes from 0.
-- Assumes nothing.
use Rattle.std.specs.Prelude.{ℕ, Bool, true, false, ◌&&◌, ◌||◌, List, [], ◌∷◌, leb, eqb}
use Prim.Native.Char.{Char, code}
use Prim.Native.String.{String, [] as empty, ◌∷◌ as ◌then◌}
use Rattle.std.proofs.Math.Option.{Option, none, some}

-- the bytes of a quoted text of ASCII characters
abbrev pub bytes : String → List ℕ
bytes empty = []
bytes (c then s) = code c ∷ bytes s

abbrev pub any : (ℕ → Bool) → List ℕ → Bool
any p [] = false
any p (b ∷ s) = p b || any p s

-- from one character to another, both included
abbrev pub range : Char → Char → ℕ → Bool
range low high b = leb (code low) b && leb b (code high)

-- T2: "White space is byte 32 (space), 9 (tab), 10 (line feed) or 13 (carriage return), and no other byte."
unfoldable pub is_white : ℕ → Bool
is_white b = any (eqb b) (bytes " \t\n\r")

-- T5: a digit
unfoldable pub is_digit : ℕ → Bool
is_digit b = range "0" "9" b

-- T3: "One of the bytes a-z, A-Z and `_` begins a name"
unfoldable pub is_letter : ℕ → Bool
is_letter b = range "a" "z" b || range "A" "Z" b || eqb b (code "_")

-- T3: "as long as bytes a-z, A-Z, 0-9 or `_` follow"
abbrev pub is_name_byte : ℕ → Bool
is_name_byte b = is_letter b || is_digit b

-- the longest beginning of a text whose bytes all pass the test (T3 and T5: "goes on for as long as")
unfoldable pub run : (ℕ → Bool) → List ℕ → List ℕ
run p [] = []
run p (b ∷ s) = elim (p b) [ true ↦ b ∷ run p s | false ↦ [] ]

-- the same bytes (T3: "Capital and small letters are different.")
unfoldable pub same : List ℕ → List ℕ → Bool
same [] [] = true
same [] (c ∷ t) = false
same (b ∷ s) [] = false
same (b ∷ s) (c ∷ t) = eqb b c && same s t

infix 40 ◌means◌
-- A spelling, and what it stands for.
pub record Entry (A : Type 0) : Type 0 where
  pub spelling : List ℕ
  pub meaning : A

abbrev pub ◌means◌ : {A : Type 0} → String → A → Entry A
s means a = record { spelling = bytes s; meaning = a }

-- what a spelling stands for, if it is in the list
unfoldable pub lookup : {A : Type 0} → List ℕ → List (Entry A) → Option A
lookup s [] = none
lookup s (e ∷ es) = elim (same s e.spelling) [ true ↦ some e.meaning | false ↦ lookup s es ]

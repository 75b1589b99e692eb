-- The rows and letters of an expression (docs/REFERENCE.md, S3) as the numbers that a watch's table has. Assumes nothing.
use Rattle.std.specs.Prelude.{List, [], ◌∷◌, ◌++◌, map, cond, ◌≡◌, ℕ, suc, ◌+◌, ◌-◌, ◌*◌, ◌^◌, ◌≤◌, min, eqb, length}
use Rattle.std.proofs.Math.Option.{Option, none, some}
use Rattle.std.proofs.lemmas.List.Edits.{sets}
use Rattle.meaning.specs.Lists.{each}
use Rattle.meaning.specs.Expression.{Letter, Exp, letter, seq, alt, star, pipe, letters, size, rows}
use Rattle.masks.specs.Masks.{look, want, held}
use Rattle.meaning.specs.Table.{Row, Kind, is_letter, is_seq, is_alt, is_star, is_pipe}
use Rattle.words.specs.Words.{quad}
use Rattle.rules.specs.declared.lay.Tables.{Tables}
use Rattle.rules.specs.declared.lay.Laid.{Laid}
use Rattle.rules.specs.Cells.{Link, tests_on, writes_on, LinkAt, Links, LetterNode, Denotes}

-- ---- rows

-- A row's numbers. Its kind is 0 for a letter, 1 for `,`, 2 for `||`, 3 for `*` and 4 for `@`. Its left operand's row, or for a letter its index among all
-- letters; its right operand's row, or 0; the row that it is an operand of.
pub record RowCode : Type 0 where
  pub kind : ℕ
  pub left : ℕ
  pub right : ℕ
  pub up : ℕ

abbrev pub row_code : (kind left right up : ℕ) → RowCode
row_code k left right up = record { kind = k; left = left; right = right; up = up }

-- the numbers of e's rows from row r on, where it is an operand of row up and its first letter has the index l
unfoldable pub row_codes : (r up l : ℕ) → Exp → List RowCode
row_codes r up l (letter x) = row_code 0 l 0 up ∷ []
row_codes r up l (seq e f) = row_code 1 (suc r) (suc r + rows e) up ∷ (row_codes (suc r) r l e ++ row_codes (suc r + rows e) r (l + size e) f)
row_codes r up l (alt e f) = row_code 2 (suc r) (suc r + rows e) up ∷ (row_codes (suc r) r l e ++ row_codes (suc r + rows e) r (l + size e) f)
row_codes r up l (star e) = row_code 3 (suc r) 0 up ∷ row_codes (suc r) r l e
row_codes r up l (pipe e f) = row_code 4 (suc r) (suc r + rows e) up ∷ (row_codes (suc r) r l e ++ row_codes (suc r + rows e) r (l + size e) f)

-- the numbers of a row of meaning's table, where the monitor's letter 0 has the index l
abbrev pub kind_code : Kind → ℕ
kind_code (is_letter x) = 0
kind_code is_seq = 1
kind_code is_alt = 2
kind_code is_star = 3
kind_code is_pipe = 4

abbrev pub left_code : (l left : ℕ) → Kind → ℕ
left_code l left (is_letter x) = l + x.number
left_code l left is_seq = left
left_code l left is_alt = left
left_code l left is_star = left
left_code l left is_pipe = left

abbrev pub code_of : (l : ℕ) → Row → RowCode
code_of l x = row_code (kind_code x.kind) (left_code l x.left x.kind) x.right x.up

-- a row in one word
abbrev pub row_word : RowCode → ℕ
row_word x = quad x.kind x.left x.right x.up

-- a table with rows stored from row r on
abbrev pub with_rows : List ℕ → (r : ℕ) → List RowCode → List ℕ
with_rows T r xs = sets T r (map row_word xs)

-- ---- letters

-- A link as two numbers. One with a number: its store and 2; the number. One with wires: its store, 1 and the first wire; the ones of its width.
abbrev pub link_word : (store lo width : ℕ) → ℕ
link_word s lo width = cond (eqb width 0) (quad s 2 0 0) (quad s 1 lo 0)

-- as many ones, 64 at most
abbrev pub ones : ℕ → ℕ
ones width = 2 ^ min width 64 - 1

abbrev pub link_number : (width number : ℕ) → ℕ
link_number width v = cond (eqb width 0) v (ones width)

-- a slot has a link or none
abbrev pub slot_word : Option Link → ℕ
slot_word none = 0
slot_word (some x) = link_word x.store x.lo x.width

abbrev pub slot_number : Option Link → ℕ
slot_number none = 0
slot_number (some x) = link_number x.width x.number

-- the slots of links that come the last first, in the order of the text; of more than two the last two
abbrev pub two_slots : List Link → List (Option Link)
two_slots [] = none ∷ none ∷ []
two_slots (x ∷ []) = some x ∷ none ∷ []
two_slots (y ∷ x ∷ xs) = some x ∷ some y ∷ []

-- the links behind the first
abbrev pub behind : List Link → List Link
behind [] = []
behind (x ∷ xs) = xs

-- a letter's slots: two tests, two writes; N6: "store tests of a letter; writes of a letter | 2; 2"
abbrev pub slots_of : Letter → List (Option Link)
slots_of x = two_slots (tests_on [] x.literals) ++ two_slots (writes_on [] x.writes)

-- the letters of a table as five lists
pub record LetterLists : Type 0 where
  pub look : List ℕ
  pub want : List ℕ
  pub held : List ℕ
  pub links : List ℕ
  pub numbers : List ℕ

abbrev pub letter_lists : (look want held links numbers : List ℕ) → LetterLists
letter_lists a b h c d = record { look = a; want = b; held = h; links = c; numbers = d }

abbrev pub letters_in : Tables → LetterLists
letters_in A = letter_lists A.look A.want A.held A.links A.numbers

-- with a row stored
abbrev pub with_row : Tables → (r : ℕ) → RowCode → Tables
with_row A r x = record A { table = with_rows A.table r (x ∷ []) }

-- with slots stored from index i on
abbrev pub with_slots : Tables → (i : ℕ) → List (Option Link) → Tables
with_slots A i os = record A { links = sets A.links i (map slot_word os); numbers = sets A.numbers i (map slot_number os) }

-- with letters stored from index l on, four slots a letter
abbrev pub with_letters : LetterLists → (l : ℕ) → List Letter → LetterLists
with_letters A l xs =
    letter_lists (sets A.look l (map (λ x. look x.literals) xs)) (sets A.want l (map (λ x. want x.literals) xs))
    (sets A.held l (map (λ x. held x.literals) xs))
    (sets A.links (4 * l) (each xs (λ x. map slot_word (slots_of x)))) (sets A.numbers (4 * l) (each xs (λ x. map slot_number (slots_of x))))

-- ---- what is laid

-- a link or none stands at index i
unfoldable pub Slot : List ℕ → (c i : ℕ) → Option Link → Type 0
Slot P c i none = i ≡ 0
Slot P c i (some x) = LinkAt P c i x

pub record SlotAt (P : List ℕ) (c i : ℕ) (o : Option Link) : Type 0 where
  pub within : c ≤ length P
  pub slot : Slot P c i o

abbrev pub SomeSlot : List ℕ → ℕ → Type 0
SomeSlot P i = (c : ℕ) × (o : Option Link) × SlotAt P c i o

-- links stand from index i on
pub record LinksAt (P : List ℕ) (c i : ℕ) (xs : List Link) : Type 0 where
  pub within : c ≤ length P
  pub links : Links P c i xs

abbrev pub SomeLinks : List ℕ → ℕ → Type 0
SomeLinks P i = (c : ℕ) × (xs : List Link) × LinksAt P c i xs

-- a letter stands at a node
pub record LetterAt (P : List ℕ) (c node : ℕ) (x : Letter) : Type 0 where
  pub within : c ≤ length P
  pub denotes : Denotes P c node (letter x)

abbrev pub SomeLetter : List ℕ → ℕ → Type 0
SomeLetter P node = (c : ℕ) × (x : Letter) × LetterAt P c node x

-- it stands there without the productions that it came through
pub record BareAt (P : List ℕ) (c node : ℕ) (x : Letter) : Type 0 where
  pub within : c ≤ length P
  pub denotes : LetterNode P c node x.literals x.writes

-- an expression stands at a node, and there is room for its rows and letters
pub record ExpAt (P : List ℕ) (c node row index : ℕ) (e : Exp) : Type 0 where
  pub within : c ≤ length P
  pub denotes : Denotes P c node e
  pub room : row + rows e ≤ 1024
  pub space : index + size e ≤ 256

abbrev pub SomeExp : List ℕ → (node row index : ℕ) → Type 0
SomeExp P node row index = (c : ℕ) × (e : Exp) × ExpAt P c node row index e

-- its rows and letters are stored, and what comes next is known
pub record Stored (row up index : ℕ) (e : Exp) (T T' : List ℕ) (L L' : LetterLists) (r l : ℕ) : Type 0 where
  pub rows_stored : T' ≡ with_rows T row (row_codes row up index e)
  pub letters_stored : L' ≡ with_letters L index (letters e)
  pub next_row : r ≡ row + rows e
  pub next_letter : l ≡ index + size e

abbrev pub StoredIn : (row up index : ℕ) → Exp → (A A' : Tables) → Laid → Type 0
StoredIn row up index e A A' x = Stored row up index e A.table A'.table (letters_in A) (letters_in A') x.row x.letter

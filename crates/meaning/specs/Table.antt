-- The table of rows (docs/REFERENCE.md, S3), which specs/RowWalk walks over.
use Rattle.std.specs.Prelude.{List, [], ◌∷◌, ◌++◌, ◌≡◌, ℕ, suc, ◌+◌, get_or}
use Rattle.meaning.specs.Expression.{Letter, Exp, letter, seq, alt, star, pipe, rows}

-- S3: "each letter and each operator (`,` `||` `*` `@`)"
pub data Kind : Type 0 where
  is_letter : Letter → Kind
  is_seq is_alt is_star is_pipe : Kind

-- S3: "The table has a row for each letter and each operator". A row has its operands' rows, and the row that it is an operand of.
pub record Row : Type 0 where
  pub kind : Kind
  pub left : ℕ
  pub right : ℕ
  pub up : ℕ

abbrev pub Table : Type 0
Table = ℕ → Row

-- row c is an operand of row r; a monitor's own row points up at itself
abbrev pub Under : Table → (r c : ℕ) → Type 0
Under R r c = ((R c).up ≡ r) × (c ≡ r → ⊥)

-- row r and the rows below it hold e; place tells each letter's row
abbrev pub Holds : Table → (place : ℕ → ℕ) → ℕ → Exp → Type 0
Holds R place r (letter l) = ((R r).kind ≡ is_letter l) × (place l.number ≡ r)
Holds R place r (seq e f) =
    ((R r).kind ≡ is_seq) × Under R r (R r).left × Under R r (R r).right × ((R r).right ≡ (R r).left → ⊥)
    × Holds R place (R r).left e × Holds R place (R r).right f
Holds R place r (alt e f) =
    ((R r).kind ≡ is_alt) × Under R r (R r).left × Under R r (R r).right × Holds R place (R r).left e × Holds R place (R r).right f
Holds R place r (star e) = ((R r).kind ≡ is_star) × Under R r (R r).left × Holds R place (R r).left e
Holds R place r (pipe e f) =
    ((R r).kind ≡ is_pipe) × Under R r (R r).left × Under R r (R r).right × ((R r).right ≡ (R r).left → ⊥)
    × Holds R place (R r).left e × Holds R place (R r).right f

-- ---- the rows of a program ----

abbrev pub row : Kind → (left right up : ℕ) → Row
row k left right up = record { kind = k; left = left; right = right; up = up }

-- The rows of e from row r on, where it is an operand of row up: an operator's row stands before its operands' rows. What has no operand points at row 0.
unfoldable pub laid : (r up : ℕ) → Exp → List Row
laid r up (letter l) = row (is_letter l) 0 0 up ∷ []
laid r up (seq e f) = row is_seq (suc r) (suc r + rows e) up ∷ (laid (suc r) r e ++ laid (suc r + rows e) r f)
laid r up (alt e f) = row is_alt (suc r) (suc r + rows e) up ∷ (laid (suc r) r e ++ laid (suc r + rows e) r f)
laid r up (star e) = row is_star (suc r) 0 up ∷ laid (suc r) r e
laid r up (pipe e f) = row is_pipe (suc r) (suc r + rows e) up ∷ (laid (suc r) r e ++ laid (suc r + rows e) r f)

-- the rows of its letters, in reading order
unfoldable pub letter_rows : ℕ → Exp → List ℕ
letter_rows r (letter l) = r ∷ []
letter_rows r (seq e f) = letter_rows (suc r) e ++ letter_rows (suc r + rows e) f
letter_rows r (alt e f) = letter_rows (suc r) e ++ letter_rows (suc r + rows e) f
letter_rows r (star e) = letter_rows (suc r) e
letter_rows r (pipe e f) = letter_rows (suc r) e ++ letter_rows (suc r + rows e) f

-- the monitors' rows, one monitor's behind the other's; a monitor is nobody's operand
unfoldable pub laid_all : ℕ → List Exp → List Row
laid_all r [] = []
laid_all r (m ∷ ms) = laid r r m ++ laid_all (r + rows m) ms

-- what is told of a row that is not there
abbrev pub no_row : Row
no_row = row is_seq 0 0 0

-- a list of rows as a table
abbrev pub as_table : List Row → Table
as_table rs n = get_or rs n no_row

-- the row of letter k of a monitor that stands from row r on
abbrev pub letter_row : ℕ → Exp → ℕ → ℕ
letter_row r m k = get_or (letter_rows r m) k 0

-- the table holds the monitors from row r on
abbrev pub HoldsAll : Table → ℕ → List Exp → Type 0
HoldsAll R r [] = Unit {0}
HoldsAll R r (m ∷ ms) = Holds R (letter_row r m) r m × ((R r).up ≡ r) × HoldsAll R (r + rows m) ms

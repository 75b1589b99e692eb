-- The names that are declared, as the code answers with them: the kind of a name, and the cell that was found. Assumes nothing.
use Rattle.std.specs.Prelude.{Option, Some, None, Bool, not, ◌&&◌, List, ◌≡◌, ℕ, ◌<◌, eqb}
use Rattle.words.specs.Words.{part0}
use Rattle.rules.specs.Cells.{at, Finds}
use Rattle.rules.specs.declared.names.NameKind.{NameKind}
use Rattle.rules.specs.declared.names.NameKind.TheVariants.{Wire, Store, Defined, Production}

-- the number by which a cell's first word names what the name is declared as
abbrev pub name_number : NameKind → ℕ
name_number Wire = 0
name_number Store = 1
name_number Defined = 2
name_number Production = 3

-- what a number names, if it names anything
abbrev pub IsNameKind : Option NameKind → ℕ → Type 0
IsNameKind (Some kind) number = number ≡ name_number kind
IsNameKind None number = 3 < number

-- the cell that was found, or 0 for none
abbrev pub cell_of : Option ℕ → ℕ
cell_of None = 0
cell_of (Some cell) = cell

-- it is the cell of what the spelling s stands for
abbrev pub FindsCell : (text P : List ℕ) → (h : ℕ) → List ℕ → Option ℕ → Type 0
FindsCell text P h s None = Finds text P h s 0
FindsCell text P h s (Some cell) = Finds text P h s cell × (cell ≡ 0 → ⊥)

-- it is a cell, that of a production
abbrev pub production_at : List ℕ → (cell : ℕ) → Bool
production_at P cell = not (eqb cell 0) && eqb (part0 (at P cell)) 3

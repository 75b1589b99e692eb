-- The kinds of a table's rows, and the number by which a row's word names each. Assumes nothing.
use Rattle.std.specs.Prelude.{◌≡◌, ℕ, ◌<◌, Option, None, Some}
use Rattle.words.specs.declared.rows.RowKind.{RowKind}
use Rattle.words.specs.declared.rows.RowKind.TheVariants.{Letter, Sequence, Alternative, Star, Pipe}

abbrev pub kind_number : RowKind → ℕ
kind_number Letter = 0
kind_number Sequence = 1
kind_number Alternative = 2
kind_number Star = 3
kind_number Pipe = 4

-- the kind that a number names, and none where it names none
abbrev pub IsKind : Option RowKind → ℕ → Type 0
IsKind (Some kind) number = number ≡ kind_number kind
IsKind None number = 4 < number

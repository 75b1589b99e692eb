-- A table's arrays hold an expression. Assumes nothing.
use Rattle.std.specs.Prelude.{List, ◌≡◌, ℕ, ◌+◌, get_or}
use Rattle.meaning.specs.Expression.{Exp, letter, seq, alt, star, pipe, size, rows}
use Rattle.masks.specs.Masks as masks

module _ (kind left right look want : List ℕ) where
  -- row r and the rows below it hold e, whose letters have the indices l, l + 1, ..
  abbrev pub RowsHold : (r l : ℕ) → Exp → Type 0
  RowsHold r l (letter x) =
      (get_or kind r 0 ≡ 0) × (get_or left r 0 ≡ l) × (get_or look l 0 ≡ masks.look x.literals) × (get_or want l 0 ≡ masks.want x.literals)
  RowsHold r l (seq e f) = (get_or kind r 0 ≡ 1) × RowsHold (get_or left r 0) l e × RowsHold (get_or right r 0) (l + size e) f
  RowsHold r l (alt e f) = (get_or kind r 0 ≡ 2) × RowsHold (get_or left r 0) l e × RowsHold (get_or right r 0) (l + size e) f
  RowsHold r l (star e) = (get_or kind r 0 ≡ 3) × RowsHold (get_or left r 0) l e
  RowsHold r l (pipe e f) = (get_or kind r 0 ≡ 4) × RowsHold (get_or left r 0) l e × RowsHold (get_or right r 0) (l + size e) f

  -- the same with the operands' rows right behind, the left one's and then the right one's: how `Table.laid` has them
  abbrev pub RowsLaid : (r l : ℕ) → Exp → Type 0
  RowsLaid r l (letter x) =
      (get_or kind r 0 ≡ 0) × (get_or left r 0 ≡ l) × (get_or look l 0 ≡ masks.look x.literals) × (get_or want l 0 ≡ masks.want x.literals)
  RowsLaid r l (seq e f) =
      (get_or kind r 0 ≡ 1) × (get_or left r 0 ≡ r + 1) × (get_or right r 0 ≡ r + 1 + rows e) × RowsLaid (r + 1) l e × RowsLaid (r + 1 + rows e) (l + size e) f
  RowsLaid r l (alt e f) =
      (get_or kind r 0 ≡ 2) × (get_or left r 0 ≡ r + 1) × (get_or right r 0 ≡ r + 1 + rows e) × RowsLaid (r + 1) l e × RowsLaid (r + 1 + rows e) (l + size e) f
  RowsLaid r l (star e) = (get_or kind r 0 ≡ 3) × (get_or left r 0 ≡ r + 1) × RowsLaid (r + 1) l e
  RowsLaid r l (pipe e f) =
      (get_or kind r 0 ≡ 4) × (get_or left r 0 ≡ r + 1) × (get_or right r 0 ≡ r + 1 + rows e) × RowsLaid (r + 1) l e × RowsLaid (r + 1 + rows e) (l + size e) f

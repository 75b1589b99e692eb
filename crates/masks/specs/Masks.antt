-- The literals of a letter that test wires (docs/REFERENCE.md, S9 and F3) as three numbers, which is how code keeps them: the wires looked at, the values wanted there,
-- and the wires held (S1: "which bits must be 1, which 0, which must be as in the word before"). Assumes nothing.
use Rattle.std.specs.Prelude.{Bool, List, [], ◌∷◌, ℕ, ◌*◌, ◌-◌, ◌^◌}
use Rattle.std.specs.Int.Bits.{bit_and, bit_or}
use Rattle.meaning.specs.Expression.{Literal, wire, wire_store, wire_past, store}
use Rattle.masks.specs.Wires.{passes}

-- the wires that one literal looks at, and their values
abbrev pub look_of : Literal → ℕ
look_of (wire lo width v) = (2 ^ width - 1) * 2 ^ lo
look_of (wire_store lo width s) = 0
look_of (wire_past lo width) = 0
look_of (store s v) = 0

abbrev pub want_of : Literal → ℕ
want_of (wire lo width v) = v * 2 ^ lo
want_of (wire_store lo width s) = 0
want_of (wire_past lo width) = 0
want_of (store s v) = 0

-- S1: the wires "which must be as in the word before"
abbrev pub held_of : Literal → ℕ
held_of (wire lo width v) = 0
held_of (wire_store lo width s) = 0
held_of (wire_past lo width) = (2 ^ width - 1) * 2 ^ lo
held_of (store s v) = 0

-- those of all the literals
unfoldable pub look : List Literal → ℕ
look [] = 0
look (l ∷ ls) = bit_or (look_of l) (look ls)

unfoldable pub want : List Literal → ℕ
want [] = 0
want (l ∷ ls) = bit_or (want_of l) (want ls)

unfoldable pub held : List Literal → ℕ
held [] = 0
held (l ∷ ls) = bit_or (held_of l) (held ls)

-- two letters want the same of the wires that both look at
abbrev pub compatible : (look₁ want₁ look₂ want₂ : ℕ) → Bool
compatible a b c d = passes (bit_and a c) d b

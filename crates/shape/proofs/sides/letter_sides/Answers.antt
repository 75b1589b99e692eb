-- `shape::sides::letter_sides` meets its contract. Assumes nothing.
use Rattle.shape.proofs.Bits.{has-none}
use Rattle.shape.proofs.sides.letter_sides.Goals as goal

pub returns : goal.returns
returns c = λ x. simp has-none

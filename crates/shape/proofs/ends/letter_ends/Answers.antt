-- `shape::ends::letter_ends` meets its contract. Assumes nothing.
use Rattle.shape.proofs.Bits.{has-none}
use Rattle.shape.proofs.ends.letter_ends.Goals as goal

pub returns : goal.returns
returns c = λ x. simp has-none

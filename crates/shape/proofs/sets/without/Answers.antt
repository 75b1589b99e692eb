-- `shape::sets::without` meets its contract. Assumes nothing.
use Rattle.shape.proofs.Bits.{has-without}
use Rattle.shape.proofs.sets.without.Goals as goal

pub returns : goal.returns
returns c = λ x. has-without x _ _

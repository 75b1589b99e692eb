-- `masks::compatible` meets its contract. Assumes nothing.
use Rattle.masks.proofs.compatible.Goals as goal

pub returns : goal.returns
returns c = c.passes.ensures

-- `rules::literals::with_wires` meets its contract.
-- Assumes nothing.
use Rattle.rules.proofs.literals.with_wires.Goals as goal

pub returns : goal.returns
returns c = rw (c.moved.ensures, c.largest.ensures, c.moved-2.ensures) at c.both.ensures

-- `rules::lay::Tables::put_row` meets its contract.
-- Assumes nothing.
use Rattle.rules.proofs.lay.Tables.put_row.Goals as goal

pub returns : goal.returns
returns c = rw c.quad.ensures

-- `rules::parts::two` meets its contract.
-- Assumes nothing.
use Rattle.rules.proofs.Summing.{is-operator, sum_of}
use Rattle.rules.proofs.parts.two.Goals as goal

pub returns : goal.returns
returns c = sum_of _ (is-operator c.args.operator) _ _ _ _ _ _ _ c.letters_of_two.ensures c.nullable_two.ensures c.or_later.ensures c.hollow_two.ensures

-- `rules::lay::Tables::put_two` meets its contract.
-- Assumes nothing.
use Rattle.rules.proofs.Slots.{slots-put}
use Rattle.rules.proofs.lay.Tables.put_two.Goals as goal

pub returns : goal.returns
returns c = λ a o p s t. slots-put c.args.self.now c.args.at _ _ _ _ o p (c.slot_word.ensures a o s) (c.slot_word-2.ensures a p t) (c.slot_number.ensures a o s) (c.slot_number-2.ensures a p t)

-- `rules::literals::held_at` meets its contract.
-- Assumes nothing.
use Rattle.rules.proofs.Put.{held_none, held-some}
use Rattle.rules.proofs.literals.held_at.Goals as goal

pub returns-then-held-eq0 : goal.returns-then-held-eq0
returns-then-held-eq0 c = held_none c.args.words.now c.args.held c.if-held-eq0.true

pub returns : goal.returns
returns c = held-some c.args.words.now c.args.held c.if-held-eq0.false

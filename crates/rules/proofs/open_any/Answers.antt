-- `rules::open_any` meets its contract.
-- Assumes nothing.
use Rattle.rules.proofs.TextOpened.{right-long}
use Rattle.rules.proofs.open_any.Goals as goal

pub returns-then-text-gt16384 : goal.returns-then-text-gt16384
returns-then-text-gt16384 c = let r = right-long _ c.if-text-gt16384.true _ c.requires in (r.outcome, r.watch)

-- `rules::opening::open_monitors` meets its contract.
-- Assumes nothing.
use Rattle.rules.proofs.AllMonitors.{too_long, few_letters, not-long}
use Rattle.rules.proofs.opening.open_monitors.Goals as goal

pub returns-in-Some : goal.returns-in-Some
returns-in-Some c = (too_long _ _ _ _ c.in-Some.ensures _ _, c.requires.1)

pub lay_all-requires : goal.lay_all-requires
lay_all-requires c = (few_letters _ _ _ c.in-None.ensures c.requires.0, c.requires.1)

pub returns-in-None : goal.returns-in-None
returns-in-None c = (not-long _ _ _ c.in-None.ensures _ _ _ c.lay_all.ensures.0, c.lay_all.ensures.1)

-- `rules::writes::writes` meets its contract.
-- Assumes nothing.
use mathlib.Core.Path.{refl}
use Rattle.rules.proofs.Misreads.{exit, some}
use Rattle.rules.proofs.WriteSteps.{all-from, all-given, all-fails, all_more, all-written}
use Rattle.rules.proofs.writes.writes.Goals as goal

pub write_one-requires : goal.write_one-requires
write_one-requires c = (all-given _ _ _ _ _ _ c.see-t.ensures c.requires.0 c.requires.1, (_, c.see-t.ensures))

pub returns-in_err-w : goal.returns-in_err-w
returns-in_err-w c = rw (exit _ c.from_residual.ensures.1) (all-fails _ _ _ _ _ _ c.see-t.ensures c.requires.0 c.requires.1 _ _ _ _ _ _ c.in_err-w.ensures.0 (some _))

pub more_writes-requires : goal.more_writes-requires
more_writes-requires c = all_more _ _ _ _ _ _ c.see-t.ensures c.requires.0 c.requires.1 _ _ _ _ _ _ c.in_ok-w.ensures.0 refl

pub returns : goal.returns
returns c = all-from _ _ _ _ _ _ _ _ _ _ (all-written _ _ _ _ _ _ c.see-t.ensures c.requires.0 c.requires.1 _ _ _ _ _ _ c.in_ok-w.ensures.0 refl _ _ _ _ _ _ c.more_writes.ensures)

-- `rules::statements::one_monitor` meets its contract.
-- Assumes nothing.
use native.Mathlib.Omega.{arith}
use mathlib.Core.Path.{refl}
use mathlib.Core.List.{[]}
use lib.ListN.{length-set}
use Rattle.rules.proofs.Misreads.{exit, some}
use Rattle.rules.proofs.MonitorSteps.{monitor-unknown, monitor-inside, monitor-crowded, monitor-listed}
use Rattle.rules.proofs.statements.one_monitor.Goals as goal

pub returns-in_err-cell : goal.returns-in_err-cell
returns-in_err-cell c = rw (exit _ c.from_residual.ensures.1, c.in_err-cell.ensures.1) ((monitor-unknown _ _ _ _ _ c.see-t.ensures _ _ c.in_err-cell.ensures.0 _ _ (some _), refl))

pub returns-then-count-ge32 : goal.returns-then-count-ge32
returns-then-count-ge32 c = rw (c.refused.ensures.0, c.refused.ensures.1) ((monitor-crowded _ _ _ _ _ c.see-t.ensures _ _ c.in_ok-cell.ensures.0 _ _ refl c.if-count-ge32.true, refl))

pub overflow_cast-list : goal.overflow_cast-list
overflow_cast-list c = let l = monitor-inside _ _ _ _ _ c.see-t.ensures _ _ c.in_ok-cell.ensures.0 [] 0 refl c.requires.0 in let m = c.requires.1 in omega arith

pub returns : goal.returns
returns c = (monitor-listed _ _ _ _ _ c.see-t.ensures _ _ c.in_ok-cell.ensures.0 _ _ refl c.requires.0 (omega arith) (let e = c.requires.2 in omega arith), simp length-set refl)

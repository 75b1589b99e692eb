-- `rules::opening::lay_one` meets its contract.
-- Assumes nothing.
use Rattle.std.proofs.lemmas.Result.{err_from_is_err_and}
use Rattle.rules.proofs.OneMonitor.{ruled-fine, ruled-fault}
use Rattle.rules.proofs.opening.lay_one.Goals as goal

pub lay-laid-requires : goal.lay-laid-requires
lay-laid-requires c = c.requires

pub returns-in_err-judge : goal.returns-in_err-judge
returns-in_err-judge c =
    let p = err_from_is_err_and c.from_residual.result c.from_residual.ensures.1 in
    rw (p.1, p.2) (ruled-fault _ _ _ _ _ _ _ c.lay-laid.ensures _ c.judge.ensures _ c.in_err-judge.was)

pub returns : goal.returns
returns c = ruled-fine _ _ _ _ _ _ _ c.lay-laid.ensures _ c.judge.ensures _ c.in_ok-judge.was

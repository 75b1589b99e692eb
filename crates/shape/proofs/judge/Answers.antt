-- `shape::judge` meets its contract. Assumes nothing.
use mathlib.Core.Path.{refl}
use Rattle.shape.proofs.Lowest.{lowest-from}
use Rattle.shape.proofs.Answered.{judge-open, judge-fork, judge-fine}
use Rattle.shape.proofs.judge.Goals as goal

pub overflow_sub-result : goal.overflow_sub-result
overflow_sub-result c = lowest-from _ _ _ c.in-Some.ensures.0

pub returns-in-Some : goal.returns-in-Some
returns-in-Some c = judge-open _ _ _ _ _ _ _ _ c.in-Some.ensures.0 c.in-Some.ensures.1

pub overflow_sub-result-in-Some-lowest_fork : goal.overflow_sub-result-in-Some-lowest_fork
overflow_sub-result-in-Some-lowest_fork c = lowest-from _ _ _ c.in-Some-lowest_fork.ensures.0

pub returns-in-Some-lowest_fork : goal.returns-in-Some-lowest_fork
returns-in-Some-lowest_fork c = judge-fork _ _ _ _ _ _ _ _ refl c.in_default.ensures c.in-Some-lowest_fork.ensures.0 c.in-Some-lowest_fork.ensures.1

pub returns : goal.returns
returns c = judge-fine _ _ _ _ _ _ _ _ refl c.in_default.ensures refl c.in_default-lowest_fork.ensures

-- `rules::limits::limit` meets its contract.
-- Assumes nothing.
use mathlib.Core.Path.{refl}
use Rattle.rules.proofs.Misreads.{exit, some}
use Rattle.rules.proofs.Declaring.{ready-names}
use Rattle.rules.proofs.Limiting.{limit-refused, limit-declared}
use Rattle.rules.proofs.limits.limit.Goals as goal

pub bound_at-requires : goal.bound_at-requires
bound_at-requires c = ready-names c.requires.0

pub returns-in_err-bound : goal.returns-in_err-bound
returns-in_err-bound c = rw (exit _ c.from_residual.ensures.1) (limit-refused _ _ _ _ _ _ c.requires.0 _ _ _ c.in_err-bound.ensures (some _))

pub returns : goal.returns
returns c = limit-declared _ _ _ _ _ _ c.requires.0 _ _ _ c.in_ok-bound.ensures refl c.requires.1

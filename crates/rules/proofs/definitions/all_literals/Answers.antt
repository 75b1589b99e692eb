-- `rules::definitions::all_literals` meets its contract.
-- Assumes nothing.
use mathlib.Core.Path.{refl}
use Rattle.std.specs.Prelude.{Err}
use Rattle.rules.proofs.Misreads.{exit, some}
use Rattle.rules.proofs.Bodies.{define-from, literals-given, first-fails, rest-given, all_read}
use Rattle.rules.proofs.definitions.all_literals.Goals as goal

pub literal-requires : goal.literal-requires
literal-requires c = literals-given _ _ _ _ _ c.requires _ c.no_literals.ensures.0

pub returns-in_err-first : goal.returns-in_err-first
returns-in_err-first c = rw (exit _ c.from_residual.ensures.1) (define-from _ _ _ _ _ _ _ (Err _) _ (first-fails _ _ _ _ _ c.requires _ c.no_literals.ensures.0 _ _ c.in_err-first.ensures (some _)))

pub more_literals-requires : goal.more_literals-requires
more_literals-requires c = rest-given _ _ _ _ _ c.requires _ c.no_literals.ensures.0 _ _ c.in_ok-first.ensures refl

pub returns : goal.returns
returns c = define-from _ _ _ _ _ _ _ _ _ (all_read _ _ _ _ _ c.requires _ c.no_literals.ensures.0 _ _ c.in_ok-first.ensures refl _ _ c.more_literals.ensures)

-- `rules::expression::letter_rest` meets its contract.
-- Assumes nothing.
use mathlib.Core.Path.{refl}
use Rattle.rules.proofs.Misreads.{exit, some}
use Rattle.rules.proofs.LetterSteps.{ends-from, more_given, more-fails, end-given, more-ended}
use Rattle.rules.proofs.expression.letter_rest.Goals as goal

pub more_literals-requires : goal.more_literals-requires
more_literals-requires c = more_given _ _ _ _ _ _ c.requires

pub returns-in_err-m : goal.returns-in_err-m
returns-in_err-m c = rw (exit _ c.from_residual.ensures.1) (more-fails _ _ _ _ _ _ c.requires _ _ c.in_err-m.ensures (some _) _ _)

pub letter_end-requires : goal.letter_end-requires
letter_end-requires c = end-given _ _ _ _ _ _ c.requires _ _ c.in_ok-m.ensures refl

pub returns : goal.returns
returns c = more-ended _ _ _ _ _ _ c.requires _ _ c.in_ok-m.ensures refl _ _ (ends-from _ _ _ _ _ _ _ _ _ _ c.letter_end.ensures)

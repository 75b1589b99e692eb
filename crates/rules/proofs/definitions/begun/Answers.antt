-- `rules::definitions::begun` meets its contract.
-- Assumes nothing.
use native.Mathlib.Omega.{arith}
use mathlib.Core.Path.{refl}
use Rattle.rules.proofs.Misreads.{exit, some}
use Rattle.rules.proofs.NewNames.{name-read}
use Rattle.rules.proofs.Defining.{begin-no-name, begin-read, begin-unread}
use Rattle.rules.proofs.definitions.begun.Goals as goal

pub returns-in_err-name : goal.returns-in_err-name
returns-in_err-name c = rw (exit _ c.from_residual.ensures.1) (begin-no-name _ _ _ _ _ _ _ c.in_err-name.ensures _ (some _) _ _)

pub overflow_sub-result : goal.overflow_sub-result
overflow_sub-result c = let m = name-read _ _ _ _ _ _ _ _ _ c.in_ok-name.ensures refl in omega arith

pub returns-in_err-next : goal.returns-in_err-next
returns-in_err-next c = rw (exit _ c.from_residual-in_err-next.ensures.1) (begin-unread _ _ _ _ _ _ _ c.in_ok-name.ensures _ refl _ _ c.in_err-next.ensures (some _) _ _)

pub returns : goal.returns
returns c = begin-read _ _ _ _ _ _ _ c.in_ok-name.ensures _ refl _ _ c.in_ok-next.ensures

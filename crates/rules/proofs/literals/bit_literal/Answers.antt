-- `rules::literals::bit_literal` meets its contract.
-- Assumes nothing.
use native.Mathlib.Omega.{arith}
use borrow.Author.Rules.{rules}
use mathlib.Core.Path.{refl}
use Rattle.rules.proofs.Misreads.{exit, some}
use Rattle.rules.proofs.OnNumber.{number-most}
use Rattle.rules.proofs.LiteralSteps.{bit-no-number, bit-open, bit-read}
use Rattle.rules.proofs.literals.bit_literal.Goals as goal

pub returns-in_err-i : goal.returns-in_err-i
returns-in_err-i c = rw (exit _ c.from_residual.ensures.1) (λ P h most. bit-no-number _ _ _ _ _ _ _ _ _ _ _ c.requires.0 c.in_err-i.ensures P h most (some _))

pub returns-in_err-close : goal.returns-in_err-close
returns-in_err-close c = rw (exit _ c.from_residual-in_err-close.ensures.1) (λ P h most. bit-open _ _ _ _ _ _ _ _ _ _ _ c.requires.0 c.in_ok-i.ensures P h most refl _ _ c.in_err-close.ensures (some _))

pub overflow_add-lo : goal.overflow_add-lo
overflow_add-lo c = let m = number-most _ _ _ _ _ _ _ c.in_ok-i.ensures refl in search rules

pub with_wires-requires : goal.with_wires-requires
with_wires-requires c = let m = number-most _ _ _ _ _ _ _ c.in_ok-i.ensures refl in (omega arith, omega arith, omega arith)

pub returns : goal.returns
returns c = λ P h most. bit-read _ _ _ _ _ _ _ _ _ _ _ c.requires.0 c.in_ok-i.ensures P h most refl _ _ c.in_ok-close.ensures refl _ c.requires.1 c.requires.2 c.with_wires.ensures

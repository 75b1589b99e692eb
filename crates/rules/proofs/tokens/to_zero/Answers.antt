-- `rules::tokens::to_zero` meets its contract.
-- Assumes nothing.
use mathlib.Core.Path.{refl}
use Rattle.rules.proofs.Misreads.{some, exit}
use Rattle.rules.proofs.Stepping.{behind-then, behind-not}
use Rattle.rules.proofs.tokens.to_zero.Goals as goal

pub returns-in_err-zero : goal.returns-in_err-zero
returns-in_err-zero c = rw (exit _ c.from_residual.ensures.1) (behind-not _ _ _ _ _ _ c.in_err-zero.ensures (some _))

pub returns-in_err-close : goal.returns-in_err-close
returns-in_err-close c = rw (exit _ c.from_residual-in_err-close.ensures.1) (behind-not _ _ _ _ _ _ (behind-then _ _ _ _ _ _ _ _ c.in_ok-zero.ensures refl c.in_err-close.ensures) (some _))

pub returns : goal.returns
returns c = behind-then _ _ _ _ _ _ _ _ (behind-then _ _ _ _ _ _ _ _ c.in_ok-zero.ensures refl c.in_ok-close.ensures) refl c.sign-2.ensures

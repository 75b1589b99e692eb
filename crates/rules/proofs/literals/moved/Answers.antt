-- `rules::literals::moved` meets its contract.
-- Assumes nothing.
use native.Mathlib.Omega.{arith}
use lib.Pow.{shl_exact}
use Rattle.rules.proofs.literals.moved.Goals as goal

pub returns : goal.returns
returns c = shl_exact c.args.width c.args.lo 64 c.requires.0 (omega arith)

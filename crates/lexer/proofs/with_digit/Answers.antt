-- `lexer::with_digit` meets its contract.
-- Assumes nothing.
use native.Mathlib.Omega.{arith}
use Rattle.lexer.proofs.ByteClass.{digit-range}
use Rattle.lexer.proofs.with_digit.Goals as goal

pub overflow_sub-b : goal.overflow_sub-b
overflow_sub-b c = omega (arith, digit-range _ c.requires)

-- `lexer::classes::is_digit` meets its contract.
-- Assumes nothing.
use mathlib.Core.Path.{sym}
use Rattle.lexer.proofs.ByteClass.{is-digit, no-digit}
use Rattle.lexer.proofs.classes.is_digit.Goals as goal

pub returns-in-Digit : goal.returns-in-Digit
returns-in-Digit c = sym (is-digit _ _ c.class_of.ensures c.in-Digit.is)

pub returns-in_default : goal.returns-in_default
returns-in_default c = sym (no-digit _ _ c.class_of.ensures c.in_default.not-Digit)

-- `lexer::classes::is_white` meets its contract.
-- Assumes nothing.
use mathlib.Core.Path.{sym}
use Rattle.lexer.proofs.ByteClass.{is-white, no-white}
use Rattle.lexer.proofs.classes.is_white.Goals as goal

pub returns-in-White : goal.returns-in-White
returns-in-White c = sym (is-white _ _ c.class_of.ensures c.in-White.is)

pub returns-in_default : goal.returns-in_default
returns-in_default c = sym (no-white _ _ c.class_of.ensures c.in_default.not-White)

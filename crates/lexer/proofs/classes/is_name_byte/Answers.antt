-- `lexer::classes::is_name_byte` meets its contract.
-- Assumes nothing.
use mathlib.Core.Path.{sym}
use mathlib.Core.Logic.{inl, inr}
use Rattle.lexer.proofs.Bools.{or-true}
use Rattle.lexer.proofs.ByteClass.{is-letter, is-digit, no-letter, no-digit}
use Rattle.lexer.proofs.classes.is_name_byte.Goals as goal

pub returns-in-Letter : goal.returns-in-Letter
returns-in-Letter c =
    elim c.in-Letter.is [
      | inl e ↦ rw (is-letter _ _ c.class_of.ensures e)
      | inr e ↦ rw (is-digit _ _ c.class_of.ensures e) (sym (or-true _))
    ]

pub returns-in_default : goal.returns-in_default
returns-in_default c = rw (no-letter _ _ c.class_of.ensures c.in_default.not-Letter, no-digit _ _ c.class_of.ensures c.in_default.not-Digit)

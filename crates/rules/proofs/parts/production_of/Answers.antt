-- `rules::parts::production_of` meets its contract.
-- Assumes nothing.
use mathlib.Core.Path.{sym, ◌∙◌, ap}
use Rattle.rules.specs.Cells.{letter_kind}
use Rattle.rules.proofs.PartLaws.{no-letter-made, named-made}
use Rattle.rules.proofs.parts.production_of.Goals as goal

pub returns-then-is_letter : goal.returns-then-is_letter
returns-then-is_letter c = rw (c.quad.ensures, c.number.ensures) (named-made _ _ _ _ c.requires.0 c.requires.1 c.requires.2 c.requires.3.1.low (ap letter_kind (sym c.part0.ensures) ∙ sym c.is_letter.ensures ∙ c.if-is_letter.true))

pub returns : goal.returns
returns c = no-letter-made _ _ _ _ (ap letter_kind (sym c.part0.ensures) ∙ sym c.is_letter.ensures ∙ c.if-is_letter.false)

-- `rules::expression::production_found` meets its contract.
-- Assumes nothing.
use mathlib.Core.Path.{refl, sym, ◌∙◌}
use borrow.Author.Tests.{ne_eqb}
use Rattle.rules.proofs.expression.production_found.Goals as goal

pub returns : goal.returns
returns c = rw c.in_ok-cell.was (rw (ne_eqb c.in_ok-cell.cell 0 (rw c.in_ok-cell.was at c.requires.2), sym c.part0.ensures ∙ c.if-part0-number.false ∙ c.number.ensures) refl, c.production_part.ensures)

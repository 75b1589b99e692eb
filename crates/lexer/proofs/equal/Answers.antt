-- `lexer::equal` meets its contract.
-- Assumes nothing.
use mathlib.Core.Path.{◌∙◌}
use Rattle.lexer.proofs.Spelling.{pointwise-same}
use Rattle.lexer.proofs.equal.Goals as goal

pub returns : goal.returns
returns c = c.eq.ensures ∙ pointwise-same _ _

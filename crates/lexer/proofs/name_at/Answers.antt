-- `lexer::name_at` meets its contract.
-- Assumes nothing.
use mathlib.Core.Path.{◌∙◌}
use borrow.Author.Rules.{rules}
use Rattle.lexer.specs.Bytes.{is_name_byte}
use Rattle.lexer.proofs.Names.{name-long, name-short}
use Rattle.lexer.proofs.name_at.Goals as goal

pub returns-then-after-place-gt-LONGEST_NAME : goal.returns-then-after-place-gt-LONGEST_NAME
returns-then-after-place-gt-LONGEST_NAME c =
    c.knot_at.ensures _ ∙ name-long _ _ _ _ (c.run_end-after.ensures.ends is_name_byte (search rules)) c.if-after-place-gt-LONGEST_NAME.true

pub returns : goal.returns
returns c =
    name-short _ _ _ _ (c.run_end-after.ensures.ends is_name_byte (search rules)) c.if-after-place-gt-LONGEST_NAME.false c.name_kind.result c.name_kind.ensures

-- `lexer::name_kind` meets its contract. The loop's invariant: what the bytes spell is looked for among the words still to come.
-- Assumes nothing.
use mathlib.Core.Path.{◌≡◌}
use lib.ListN.{drop}
use Rattle.lexer.specs.Bytes.{lookup}
use Rattle.lexer.specs.Tokens.{entries}
use Rattle.lexer.specs.Shown.{reserved_shown}
use Rattle.lexer.specs.declared.TheConstants.{WORDS}
use Rattle.lexer.proofs.Names.{kept}
use Rattle.lexer.proofs.name_kind.Given as goal

abbrev pub invariant-loop-word : goal.invariant-loop-word
invariant-loop-word l = lookup l.name (entries (kept l.reserved (drop l.word-index WORDS))) ≡ lookup l.name (entries (reserved_shown l.reserved))

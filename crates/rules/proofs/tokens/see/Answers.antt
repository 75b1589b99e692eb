-- `rules::tokens::see` meets its contract.
-- Assumes nothing.
use mathlib.Core.Path.{◌∙◌, ap}
use mathlib.Core.List.{List}
use Rattle.lexer.specs.Tokens.{Word, token_at}
use Rattle.rules.specs.Seen.{seen}
use Rattle.rules.proofs.tokens.see.Goals as goal

pub returns : goal.returns
unfolding seen
returns c = record { token = c.token_at.ensures ∙ ap (λ (R : List Word). token_at R c.args.text.now c.args.at) c.rule_words.ensures }

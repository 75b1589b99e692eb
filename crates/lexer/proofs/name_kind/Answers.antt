-- The answers to the goals of `lexer::name_kind`.
use mathlib.Core.Path.{sym, ◌∙◌, ap}
use Rattle.lexer.specs.Tokens.{or_name}
use Rattle.lexer.specs.declared.Word.TheVariants.{Input}
use Rattle.lexer.proofs.Names.{word-found, word-passed, none-kept}
use Rattle.lexer.proofs.name_kind.Goals as goal

pub loop-word-preserved : goal.loop-word-preserved
loop-word-preserved c =
    sym (word-passed c.args.name.now c.args.reserved c.loop-word.word-index Input c.loop-word-test.true (sym c.is_word.ensures ∙ c.if-is_word.false))
    ∙ c.loop-word.invariant

pub returns-then-is_word : goal.returns-then-is_word
returns-then-is_word c =
    ap (or_name c.args.name.now)
    (sym (word-found c.args.name.now c.args.reserved c.loop-word.word-index Input c.loop-word-test.true (sym c.is_word.ensures ∙ c.if-is_word.true))
    ∙ c.loop-word.invariant)

pub returns : goal.returns
returns c =
    ap (or_name c.args.name.now)
    (sym (none-kept c.args.name.now c.args.reserved c.loop-word.word-index c.loop-word-test.false) ∙ c.loop-word.invariant)

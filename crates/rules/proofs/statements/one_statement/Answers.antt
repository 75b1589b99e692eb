-- `rules::statements::one_statement` meets its contract.
-- Assumes nothing.
use mathlib.Core.Path.{◌≡◌, ◌∙◌, ap}
use mathlib.Core.List.{[]}
use Rattle.lexer.specs.declared.Kind.{Kind}
use Rattle.lexer.specs.declared.Kind.TheVariants as kind
use Rattle.lexer.specs.declared.Word.{Word}
use Rattle.lexer.specs.declared.Word.TheVariants as words
use Rattle.meaning.proofs.Outcomes.{begins_input, begins_store, begins_define}
use Rattle.rules.proofs.StatementSteps.{no-word-begins, none-begins, word-ready, word-declares, name-at, limits-full, limits-left, none-declares}
use Rattle.rules.proofs.statements.one_statement.Goals as goal

-- a token that is a word, and the word
word : {k : Kind} {v w : Word} → k ≡ kind.Word v → v ≡ w → k ≡ kind.Word w
word p q = p ∙ ap kind.Word q

pub production-requires : goal.production-requires
production-requires c = ((_, c.requires.0), name-at _ _ _ c.requires.1 c.in-Name.is)

pub shape_of-words-in-Name : goal.shape_of-words-in-Name
shape_of-words-in-Name c = (c.production.ensures []).words

pub returns-in-Name : goal.returns-in-Name
returns-in-Name c = c.production.ensures _

pub input-requires : goal.input-requires
input-requires c = (_, word-ready _ _ _ c.requires.1 _ _ _ _ words.Input (word c.in-Word.is c.in-Input.is) c.requires.0)

pub shape_of-words-in-Input : goal.shape_of-words-in-Input
shape_of-words-in-Input c = (c.input.ensures []).words

pub returns-in-Input : goal.returns-in-Input
returns-in-Input c = word-declares _ _ _ c.requires.1 _ _ _ _ words.Input (λ ns k. begins_input) (word c.in-Word.is c.in-Input.is) _ _ _ (c.input.ensures _)

pub store-requires : goal.store-requires
store-requires c = word-ready _ _ _ c.requires.1 _ _ _ _ words.Internal (word c.in-Word.is c.in-Internal.is) c.requires.0

pub shape_of-words-in-Internal : goal.shape_of-words-in-Internal
shape_of-words-in-Internal c = c.store.ensures.words

pub returns-in-Internal : goal.returns-in-Internal
returns-in-Internal c = word-declares _ _ _ c.requires.1 _ _ _ _ words.Internal (λ ns k. begins_store) (word c.in-Word.is c.in-Internal.is) _ _ _ c.store.ensures

pub define-requires : goal.define-requires
define-requires c = (_, word-ready _ _ _ c.requires.1 _ _ _ _ words.Define (word c.in-Word.is c.in-Define.is) c.requires.0)

pub shape_of-words-in-Define : goal.shape_of-words-in-Define
shape_of-words-in-Define c = (c.define.ensures []).words

pub returns-in-Define : goal.returns-in-Define
returns-in-Define c = word-declares _ _ _ c.requires.1 _ _ _ _ words.Define (λ ns k. begins_define) (word c.in-Word.is c.in-Define.is) _ _ _ (c.define.ensures _)

pub returns-then-scope-ge8 : goal.returns-then-scope-ge8
returns-then-scope-ge8 c = rw (c.refused.ensures.0, c.refused.ensures.1) (limits-full _ _ _ c.requires.1 _ _ _ _ (word c.in-Word.is c.in-Limit.is) c.if-scope-ge8.true)

pub limit-requires : goal.limit-requires
limit-requires c = (word-ready _ _ _ c.requires.1 _ _ _ _ words.Limit (word c.in-Word.is c.in-Limit.is) c.requires.0, c.if-scope-ge8.false)

pub returns-else-scope-ge8 : goal.returns-else-scope-ge8
returns-else-scope-ge8 c = word-declares _ _ _ c.requires.1 _ _ _ _ words.Limit (limits-left _ _ _ c.requires.1 _ _ _ _ c.if-scope-ge8.false) (word c.in-Word.is c.in-Limit.is) _ _ _ c.limit.ensures

pub returns-in_default-word : goal.returns-in_default-word
returns-in_default-word c =
    rw (c.misplaced.ensures.0, c.misplaced.ensures.1) (none-declares _ _ _ c.requires.1 _ _ _ _ (no-word-begins c.in-Word.is c.in_default-word.not-Input c.in_default-word.not-Internal c.in_default-word.not-Define c.requires.2 c.in_default-word.not-Limit))

pub returns-in_default : goal.returns-in_default
returns-in_default c = rw (c.misplaced-in_default.ensures.0, c.misplaced-in_default.ensures.1) (none-declares _ _ _ c.requires.1 _ _ _ _ (none-begins c.in_default.not-Name c.in_default.not-Word))

-- `rules::literals::wire_equals` meets its contract.
-- Assumes nothing.
use borrow.Author.Rules.{rules}
use native.Mathlib.Omega.{arith}
use lib.Pow.{pow_pos}
use mathlib.Core.Path.{◌≡◌}
use Rattle.lexer.specs.declared.Kind.TheVariants as kind
use Rattle.lexer.specs.declared.Word.TheVariants as words
use Rattle.rules.proofs.Stepping.{since, past, inside-text}
use Rattle.rules.proofs.LiteralSteps.{given-on, equals-past, equals-store, equals-large, equals-number}
use Rattle.rules.proofs.literals.wire_equals.Goals as goal

pub past_literal-requires : goal.past_literal-requires
past_literal-requires c =
    let q : c.see-t.result.kind ≡ kind.Word words.Past = search rules in
    let p = past _ _ _ c.see-t.ensures q tt in
    (given-on c.requires.0 (omega arith) p.1, c.requires.1, c.requires.2, c.requires.3, c.requires.4)

pub returns-then-eq : goal.returns-then-eq
returns-then-eq c = equals-past _ _ _ _ _ _ c.see-t.ensures _ _ _ _ _ c.requires.0.room.inside (search rules) _ _ (c.past_literal.ensures _)

pub wire_store-requires : goal.wire_store-requires
wire_store-requires c = (given-on c.requires.0 (since _ _ _ c.see-t.ensures c.requires.0.room.inside) (omega (arith, inside-text _ _ _ c.see-t.ensures)), c.requires.1, c.requires.2, (_, c.see-t.ensures))

pub returns-in_default : goal.returns-in_default
returns-in_default c = equals-store _ _ _ _ _ _ c.see-t.ensures _ _ _ _ _ c.requires.0.room.inside (search rules) c.in_default.not-Number _ _ c.wire_store.ensures

pub returns-then-largest-value : goal.returns-then-largest-value
returns-then-largest-value c = rw (c.refused.ensures.0, c.refused.ensures.1) (equals-large _ _ _ _ _ _ c.see-t.ensures _ _ _ _ _ c.requires.0.room.inside _ c.in-Number.is _ c.largest.ensures c.if-largest-value.true)

pub with_wires-requires : goal.with_wires-requires
with_wires-requires c = (let o = pow_pos c.args.width in omega (arith, c.largest.ensures), c.requires.2, c.requires.1)

pub returns : goal.returns
returns c = equals-number _ _ _ _ _ _ c.see-t.ensures _ _ _ _ _ c.requires.0.room.inside _ c.in-Number.is _ c.largest.ensures c.if-largest-value.false c.requires.2 _ c.with_wires.ensures

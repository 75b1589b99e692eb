-- `rules::literals::wire_more` meets its contract.
-- Assumes nothing.
use borrow.Author.Rules.{rules}
use mathlib.Core.Path.{◌≡◌}
use Rattle.lexer.specs.declared.Sign.TheVariants as signs
use Rattle.lexer.specs.declared.Kind.TheVariants as kind
use native.Mathlib.Omega.{arith}
use Rattle.rules.proofs.Stepping.{past, inside-text}
use Rattle.rules.proofs.LiteralSteps.{given-on, wires-bit, wires-equals, wires-negated, wires-wide, wires-one}
use Rattle.rules.proofs.literals.wire_more.Goals as goal

pub bit_literal-requires : goal.bit_literal-requires
bit_literal-requires c = (c.requires.1, c.requires.2, c.requires.3, (inside-text _ _ _ c.see-t.ensures).1)

pub returns-then-eq : goal.returns-then-eq
returns-then-eq c = wires-bit _ _ _ _ _ _ c.see-t.ensures _ _ _ _ _ _ c.requires.0.room.inside (search rules) _ _ (c.bit_literal.ensures _ _ _)

pub wire_equals-requires : goal.wire_equals-requires
wire_equals-requires c = (let q : c.see-t.result.kind ≡ kind.Sign signs.DoubleEquals = search rules in let p = past _ _ _ c.see-t.ensures q tt in given-on c.requires.0 (omega arith) p.1, c.requires.1, c.requires.2, c.requires.4, c.requires.0.room.inside)

pub returns-then-value-eq1 : goal.returns-then-value-eq1
returns-then-value-eq1 c = wires-equals _ _ _ _ _ _ c.see-t.ensures _ _ _ _ _ _ c.requires.0.room.inside (search rules) (search rules) c.if-value-eq1.true _ _ c.wire_equals.ensures

pub returns-then-eq-2 : goal.returns-then-eq-2
returns-then-eq-2 c = rw (c.misplaced.ensures.0, c.misplaced.ensures.1) (wires-negated _ _ _ _ _ _ c.see-t.ensures _ _ _ _ _ _ c.requires.0.room.inside (search rules) (search rules) c.if-value-eq1.false)

pub returns-then-width-ne1 : goal.returns-then-width-ne1
returns-then-width-ne1 c = wires-wide _ _ _ _ _ _ c.see-t.ensures _ _ _ _ _ _ c.requires.0.room.inside (search rules) (search rules) c.if-width-ne1.true

pub with_wires-requires : goal.with_wires-requires
with_wires-requires c = (c.requires.3, omega arith, omega arith)

pub returns : goal.returns
returns c = wires-one _ _ _ _ _ _ c.see-t.ensures _ _ _ _ _ _ c.requires.0.room.inside (search rules) (search rules) c.if-width-ne1.false c.requires.2 c.requires.3 _ c.with_wires.ensures

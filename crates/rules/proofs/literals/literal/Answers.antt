-- `rules::literals::literal` meets its contract.
-- Assumes nothing.
use borrow.Author.Rules.{rules}
use mathlib.Core.Path.{◌≡◌}
use Rattle.lexer.specs.declared.Sign.TheVariants as signs
use Rattle.lexer.specs.declared.Kind.TheVariants as kind
use native.Mathlib.Omega.{arith}
use Rattle.rules.proofs.Stepping.{since, past, inside-text}
use Rattle.rules.proofs.LiteralSteps.{given-declared, given-on, literal-not, literal-none, literal-named}
use Rattle.rules.proofs.literals.literal.Goals as goal

pub negated-requires : goal.negated-requires
negated-requires c = let q : c.see-t.result.kind ≡ kind.Sign signs.Bang = search rules in let p = past _ _ _ c.see-t.ensures q tt in given-on c.requires (omega arith) p.1

pub returns-then-eq : goal.returns-then-eq
returns-then-eq c = literal-not _ _ _ _ _ _ c.see-t.ensures _ _ c.requires.room.inside (search rules) _ _ c.negated.ensures

pub returns-then-ne : goal.returns-then-ne
returns-then-ne c = rw (c.misplaced.ensures.0, c.misplaced.ensures.1) (literal-none _ _ _ _ _ _ c.see-t.ensures _ _ c.requires.room.inside (search rules) (search rules))

pub find-found-requires : goal.find-found-requires
find-found-requires c = ((inside-text _ _ _ c.see-t.ensures).0, (inside-text _ _ _ c.see-t.ensures).1, given-declared c.requires)

pub literal_name-requires : goal.literal_name-requires
literal_name-requires c = (given-on c.requires (since _ _ _ c.see-t.ensures c.requires.room.inside) (omega (arith, inside-text _ _ _ c.see-t.ensures)), (_, c.see-t.ensures), (search rules), c.find-found.ensures)

pub returns : goal.returns
returns c = literal-named _ _ _ _ _ _ c.see-t.ensures _ _ c.requires.room.inside (search rules) _ _ c.literal_name.ensures.0

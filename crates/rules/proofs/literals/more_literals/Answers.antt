-- The answers to the goals of `rules::literals::more_literals`.
use borrow.Author.Rules.{rules}
use Rattle.lexer.specs.declared.Sign.TheVariants as signs
use Rattle.lexer.specs.declared.Kind.TheVariants as kind
use native.Mathlib.Omega.{arith}
use mathlib.Core.Path.{◌≡◌, refl}
use Rattle.rules.specs.Reads.{fine}
use Rattle.rules.proofs.Misreads.{exit, some}
use Rattle.rules.proofs.Stepping.{well, past, no-sign-at}
use Rattle.rules.proofs.LiteralSteps.{adds-again, given-next, added_none, added_next}
use Rattle.rules.proofs.literals.more_literals.Goals as goal

pub loop-t-init : goal.loop-t-init
loop-t-init c = added_none _ _ _ _ _ _ _ _ c.requires (λ ns x ls. refl)

pub shape_of-words-then-ne : goal.shape_of-words-then-ne
shape_of-words-then-ne c = c.loop-t.invariant.extends.long

pub returns-then-ne : goal.returns-then-ne
returns-then-ne c = record { adds = record { long = c.loop-t.invariant.extends.long; outcome = fine refl c.loop-t.invariant }; last = λ z. no-sign-at _ _ _ c.see-t.ensures signs.Ampersand (search rules) }

pub literal-requires : goal.literal-requires
literal-requires c = let q : c.see-t.result.kind ≡ kind.Sign signs.Ampersand = search rules in let p = past _ _ _ c.see-t.ensures q tt in given-next _ _ _ _ _ _ _ _ _ _ c.requires c.loop-t.invariant _ (omega arith) p.1

pub shape_of-words-in_err-r : goal.shape_of-words-in_err-r
shape_of-words-in_err-r c = (added_next _ _ _ _ _ _ _ _ _ _ c.loop-t.invariant _ c.see-t.ensures (search rules) _ _ c.in_err-r.ensures).long

pub returns-in_err-r : goal.returns-in_err-r
returns-in_err-r c = rw (exit _ c.from_residual.ensures.1) (record { adds = adds-again _ _ _ _ _ _ _ _ _ _ _ (some _) (added_next _ _ _ _ _ _ _ _ _ _ c.loop-t.invariant _ c.see-t.ensures (search rules) _ _ c.in_err-r.ensures) refl refl; last = λ z. absurd (some _ z) })

pub loop-t-smaller : goal.loop-t-smaller
loop-t-smaller c = let q : c.see-t.result.kind ≡ kind.Sign signs.Ampersand = search rules in let p = past _ _ _ c.see-t.ensures q tt in let s = (well c.in_ok-r.ensures.outcome refl).spent in omega (arith, s.since, s.inside)

pub loop-t-preserved : goal.loop-t-preserved
loop-t-preserved c = well (added_next _ _ _ _ _ _ _ _ _ _ c.loop-t.invariant _ c.see-t.ensures (search rules) _ _ c.in_ok-r.ensures).outcome refl

-- The answers to the goals of `rules::opening::lay_all`.
use native.Mathlib.Omega.{arith}
use mathlib.Core.Path.{◌≡◌, refl}
use Rattle.std.proofs.lemmas.Result.{err_from_is_err_and}
use borrow.Author.Rules.{rules}
use Rattle.rules.specs.declared.Refused.TheVariants.{AtLetter}
use Rattle.rules.proofs.AllMonitors.{was-laid, was-fault, going_end, some_next, going-refused, going_next}
use Rattle.rules.proofs.opening.lay_all.Goals as goal

pub open_one-requires : goal.open_one-requires
open_one-requires c =
    let s = some_next _ _ _ _ _ _ _ _ _ _ _ c.loop-i.invariant.1 c.loop-i-test.true c.requires.0 in
    (s, c.loop-i.invariant.0)

pub returns-in_err-laid : goal.returns-in_err-laid
returns-in_err-laid c =
    let (e, z, t) = was-fault _ _ _ c.map_err.ensures.cases _ c.in_err-laid.was in
    let t' : c.in_err-laid.field-0.0 ≡ AtLetter e.rule c.loop-i.i-counter e.letter = search rules in
    let p = err_from_is_err_and c.from_residual.result c.from_residual.ensures.1 in
    (rw (p.1, p.2) (going-refused _ _ _ _ _ _ _ _ _ _ _ c.loop-i.invariant.1 c.loop-i-test.true _ _ _ c.open_one.ensures.0 e z _ t' _), c.open_one.ensures.1)

pub loop-i-preserved : goal.loop-i-preserved
loop-i-preserved c =
    let z = was-laid _ _ _ c.map_err.ensures.cases _ c.in_ok-laid.was in
    (c.open_one.ensures.1, going_next _ _ _ _ _ _ _ _ _ _ _ c.loop-i.invariant.1 c.loop-i-test.true _ _ _ c.open_one.ensures.0 _ z refl refl)

pub returns : goal.returns
returns c = (going_end _ _ _ _ _ _ _ _ _ _ _ c.loop-i.invariant.1 (λ h. omega (arith, c.loop-i-test.false)), c.loop-i.invariant.0)

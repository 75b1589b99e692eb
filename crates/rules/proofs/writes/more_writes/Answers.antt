-- The answers to the goals of `rules::writes::more_writes`.
use borrow.Author.Rules.{rules}
use native.Mathlib.Omega.{arith}
use mathlib.Core.Path.{refl}
use Rattle.rules.proofs.Misreads.{exit, some}
use Rattle.rules.proofs.Stepping.{well, since, inside-text}
use Rattle.rules.proofs.WriteSteps.{so-none, so-given, so-closed, so-next, fails-too}
use Rattle.rules.proofs.writes.more_writes.Goals as goal

pub loop-t-init : goal.loop-t-init
loop-t-init c = so-none _ _ _ _ _ _ _ c.requires

pub shape_of-words-then-eq : goal.shape_of-words-then-eq
shape_of-words-then-eq c = c.loop-t.invariant.extends.long

pub returns-then-eq : goal.returns-then-eq
returns-then-eq c = so-closed _ _ _ _ _ _ _ _ _ _ _ _ c.loop-t.invariant _ c.see-t.ensures (search rules)

pub write_one-requires : goal.write_one-requires
write_one-requires c = (so-given _ _ _ _ _ _ _ _ _ _ _ _ c.loop-t.invariant c.requires _ (since _ _ _ c.see-t.ensures c.loop-t.invariant.spent.inside) (let p = inside-text _ _ _ c.see-t.ensures in omega arith), (_, c.see-t.ensures))

pub shape_of-words-in_err-w : goal.shape_of-words-in_err-w
shape_of-words-in_err-w c = (so-next _ _ _ _ _ _ _ _ _ _ _ _ c.loop-t.invariant _ c.see-t.ensures c.loop-t.invariant.spent.inside (search rules) _ _ _ _ _ _ c.in_err-w.ensures.0).long

pub returns-in_err-w : goal.returns-in_err-w
returns-in_err-w c = rw (exit _ c.from_residual.ensures.1) (fails-too _ _ _ _ _ _ _ _ _ _ _ _ _ _ _ _ _ _ _ _ _ (so-next _ _ _ _ _ _ _ _ _ _ _ _ c.loop-t.invariant _ c.see-t.ensures c.loop-t.invariant.spent.inside (search rules) _ _ _ _ _ _ c.in_err-w.ensures.0) (some _))

pub loop-t-smaller : goal.loop-t-smaller
loop-t-smaller c =
    let g = well c.in_ok-w.ensures.0.outcome refl in
    let s = g.spent in
    let l = since _ _ _ c.see-t.ensures c.loop-t.invariant.spent.inside in
    omega (arith, s.since, s.inside, c.in_ok-w.ensures.1)

pub loop-t-preserved : goal.loop-t-preserved
loop-t-preserved c = well (so-next _ _ _ _ _ _ _ _ _ _ _ _ c.loop-t.invariant _ c.see-t.ensures c.loop-t.invariant.spent.inside (search rules) _ _ _ _ _ _ c.in_ok-w.ensures.0).outcome refl

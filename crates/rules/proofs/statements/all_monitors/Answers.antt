-- The answers to the goals of `rules::statements::all_monitors`.
use borrow.Author.Rules.{rules}
use mathlib.Core.Path.{refl, ◌∙◌}
use Rattle.rules.proofs.Misreads.{exit, some}
use Rattle.rules.proofs.MonitorSteps.{so-none, so-refused, so-ends, so-stops, so-less, so-next}
use Rattle.rules.proofs.statements.all_monitors.Goals as goal

pub loop-m-init : goal.loop-m-init
loop-m-init c = (refl, so-none _ _ _ _ _)

pub one_monitor-requires : goal.one_monitor-requires
one_monitor-requires c = (c.requires.0, c.requires.1, c.loop-m.invariant.0 ∙ c.requires.2)

pub returns-in_err-m : goal.returns-in_err-m
returns-in_err-m c = rw (exit _ c.from_residual.ensures.1) ((so-refused _ _ _ _ _ _ _ c.loop-m.invariant.1 _ _ _ _ c.in_err-m.ensures.0 (some _) _, c.in_err-m.ensures.1 ∙ c.loop-m.invariant.0))

pub returns-then-eq : goal.returns-then-eq
returns-then-eq c = (so-ends _ _ _ _ _ _ _ c.loop-m.invariant.1 _ _ _ _ c.in_ok-m.ensures.0 refl _ c.see-t.ensures (search rules), c.in_ok-m.ensures.1 ∙ c.loop-m.invariant.0)

pub returns-then-ne : goal.returns-then-ne
returns-then-ne c = rw (c.misplaced.ensures.0, c.misplaced.ensures.1) ((so-stops _ _ _ _ _ _ _ c.loop-m.invariant.1 _ _ _ _ c.in_ok-m.ensures.0 refl _ c.see-t.ensures (search rules) (search rules) _, c.in_ok-m.ensures.1 ∙ c.loop-m.invariant.0))

pub loop-m-smaller : goal.loop-m-smaller
loop-m-smaller c = so-less _ _ _ _ _ _ _ c.loop-m.invariant.1 _ _ _ _ c.in_ok-m.ensures.0 refl _ c.see-t.ensures (search rules)

pub loop-m-preserved : goal.loop-m-preserved
loop-m-preserved c = (c.in_ok-m.ensures.1 ∙ c.loop-m.invariant.0, so-next _ _ _ _ _ _ _ c.loop-m.invariant.1 _ _ _ _ c.in_ok-m.ensures.0 refl _ c.see-t.ensures (search rules))

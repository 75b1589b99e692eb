-- The answers to the goals of `rules::lay::unnamed`.
use native.Mathlib.Omega.{arith}
use mathlib.Core.Path.{refl, sym, ◌∙◌}
use Rattle.rules.proofs.Placing.{below-start, below-inside, below-falls, below_next, below_end}
use Rattle.rules.proofs.lay.unnamed.Invariants.{all}
use Rattle.rules.proofs.lay.unnamed.Goals as goal

pub loop-at-init : goal.loop-at-init
loop-at-init c = below-start all _ _

pub offset_bounds-words-at : goal.offset_bounds-words-at
offset_bounds-words-at c = let l = below-inside all _ _ _ c.loop-at.invariant c.requires in omega arith

pub bounds-words-at : goal.bounds-words-at
bounds-words-at c = below-inside all _ _ _ c.loop-at.invariant c.requires

pub offset_bounds-words-at-in-loop-at : goal.offset_bounds-words-at-in-loop-at
offset_bounds-words-at-in-loop-at c = let l = below-inside all _ _ _ c.loop-at.invariant c.requires in omega arith

pub bounds-words-at-in-loop-at : goal.bounds-words-at-in-loop-at
bounds-words-at-in-loop-at c = below-inside all _ _ _ c.loop-at.invariant c.requires

pub loop-at-smaller : goal.loop-at-smaller
loop-at-smaller c = let l = below-falls all _ _ _ c.loop-at.invariant (sym c.part0.ensures ∙ c.loop-at-test.true ∙ c.number.ensures) c.requires in omega (arith, c.part1-at.ensures)

pub loop-at-preserved : goal.loop-at-preserved
loop-at-preserved c = rw c.part1-at.ensures (below_next all _ _ _ c.loop-at.invariant (sym c.part0.ensures ∙ c.loop-at-test.true ∙ c.number.ensures) (λ ps. refl))

pub returns : goal.returns
returns c = below_end all _ _ _ c.loop-at.invariant (λ z. c.loop-at-test.false (c.part0.ensures ∙ z ∙ sym c.number.ensures))

-- The answers to the goals of `rules::opening::first_long`.
use native.Mathlib.Omega.{arith}
use borrow.Author.Rules.{rules}
use Rattle.rules.proofs.LongRun.{summed-start, next-cell, summed-end, over, summed-next}
use Rattle.rules.proofs.opening.first_long.Goals as goal

pub loop-i-init : goal.loop-i-init
loop-i-init c = (search rules, summed-start _ _ _)

pub bounds-words-cell : goal.bounds-words-cell
bounds-words-cell c = next-cell _ _ _ _ _ c.loop-i.invariant.1 c.requires c.loop-i-test.true

pub overflow_add-sum : goal.overflow_add-sum
overflow_add-sum c = omega (arith, c.part0-sum.ensures, c.loop-i.invariant.0)

pub returns-then-sum-gt256 : goal.returns-then-sum-gt256
returns-then-sum-gt256 c = over _ _ _ _ _ c.loop-i.invariant.1 _ c.part0-sum.ensures c.loop-i-test.true c.if-sum-gt256.true

pub loop-i-preserved : goal.loop-i-preserved
loop-i-preserved c = (search rules, summed-next _ _ _ _ _ c.loop-i.invariant.1 _ c.part0-sum.ensures c.loop-i-test.true (λ h. omega (arith, c.if-sum-gt256.false)))

pub returns : goal.returns
returns c = λ k ms w. summed-end _ _ _ _ _ c.loop-i.invariant.1 (λ h. omega (arith, c.loop-i-test.false)) k ms w c.loop-i.invariant.0

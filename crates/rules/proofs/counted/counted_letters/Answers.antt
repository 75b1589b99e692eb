-- The answers to the goals of `rules::counted::counted_letters`.
use native.Mathlib.Omega.{arith}
use Rattle.rules.proofs.Counting.{counting-start, counting-end, next-cell, next-letters, counting-next}
use Rattle.rules.proofs.counted.counted_letters.Goals as goal

pub loop-cell-init : goal.loop-cell-init
loop-cell-init c = counting-start _ _ c.args.limits.now _

pub bounds-words-cell : goal.bounds-words-cell
bounds-words-cell c = let l = next-cell _ _ c.args.limits.now _ _ _ _ c.loop-cell.invariant c.loop-cell-test.true c.requires.0 in omega arith

pub count_letters-letter-requires : goal.count_letters-letter-requires
count_letters-letter-requires c =
    (next-letters _ _ c.args.limits.now _ _ _ _ c.loop-cell.invariant c.loop-cell-test.true _ c.part0-node.ensures c.requires.0, c.requires.1)

pub loop-cell-preserved : goal.loop-cell-preserved
loop-cell-preserved c =
    counting-next _ _ c.args.limits.now _ _ _ _ c.loop-cell.invariant c.loop-cell-test.true _ c.part0-node.ensures _ _ c.count_letters-letter.ensures

pub returns : goal.returns
returns c = counting-end _ _ c.args.limits.now _ _ _ _ c.loop-cell.invariant (λ h. omega (arith, c.loop-cell-test.false))

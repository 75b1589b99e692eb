-- The answers to the goals of `trace::whole::fill`.
use native.Mathlib.Omega.{arith}
use Rattle.trace.proofs.Passes.{filling-none, filling-word, filling-no-end, filling-not-refused, filling-done}
use Rattle.trace.proofs.whole.fill.Goals as goal

pub loop-word-init : goal.loop-word-init
loop-word-init c = filling-none _ _

pub loop-word-preserved : goal.loop-word-preserved
loop-word-preserved c = filling-word _ _ _ _ _ c.loop-word.invariant _ _ (omega (arith, c.loop-word.auto.words)) (rw c.in-Ok-Some.field-0-is at c.in-Ok-Some.ensures)

pub overflow_add-at : goal.overflow_add-at
overflow_add-at c = omega (arith, (loop-word-preserved c).within)

pub returns-in-Ok-None : goal.returns-in-Ok-None
returns-in-Ok-None c = absurd (filling-no-end _ _ _ _ _ c.loop-word.invariant _ c.requires c.loop-word.auto.words c.loop-word-test.true (rw c.in-Ok-None.field-0-is at c.in-Ok-None.ensures))

pub returns-in-Err : goal.returns-in-Err
returns-in-Err c = absurd (filling-not-refused _ _ _ _ _ c.loop-word.invariant _ c.requires c.loop-word.auto.words _ _ c.in-Err.ensures)

pub returns : goal.returns
returns c = filling-done _ _ _ _ _ c.loop-word.invariant _ c.requires c.loop-word.auto.words (omega arith)

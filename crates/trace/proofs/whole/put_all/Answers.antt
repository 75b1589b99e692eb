-- The answers to the goals of `trace::whole::put_all`.
use native.Mathlib.Omega.{arith}
use Rattle.trace.proofs.Passes.{putting-all-none, put-part-room, putting-all-word, putting-all-done}
use Rattle.trace.proofs.whole.put_all.Goals as goal

pub loop-word-init : goal.loop-word-init
loop-word-init c = putting-all-none _ _

pub put_record-at-requires : goal.put_record-at-requires
put_record-at-requires c = put-part-room _ _ _ _ _ _ c.loop-word.invariant (omega arith) c.requires

pub loop-word-preserved : goal.loop-word-preserved
loop-word-preserved c =
    putting-all-word _ _ _ _ _ _ c.loop-word.invariant (omega arith) c.requires _ _ c.put_record-at.ensures.0
    c.put_record-at.ensures.1

pub overflow_add-at : goal.overflow_add-at
overflow_add-at c = omega (arith, (loop-word-preserved c).room, (loop-word-preserved c).long)

pub returns : goal.returns
returns c = putting-all-done _ _ _ _ _ _ c.loop-word.invariant (omega arith)

-- The answers to the goals of `trace::whole::trace_length`.
use native.Mathlib.Omega.{arith}
use Rattle.trace.proofs.Passes.{measuring-none, measuring-word, measuring-done}
use Rattle.trace.proofs.whole.trace_length.Goals as goal

pub loop-word-init : goal.loop-word-init
loop-word-init c = measuring-none _

pub loop-word-preserved : goal.loop-word-preserved
loop-word-preserved c = measuring-word _ _ _ _ _ c.loop-word.invariant (omega arith) c.record_length-n.ensures

pub overflow_add-n : goal.overflow_add-n
overflow_add-n c = omega (arith, (loop-word-preserved c).few, c.well_formed.0.1)

pub returns : goal.returns
returns c = measuring-done _ _ _ _ c.loop-word.invariant (omega arith)

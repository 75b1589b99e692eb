-- `trace::whole::trace_length` meets its contract: the records of the words passed are counted, and the others are still to be. Assumes nothing.
use Rattle.trace.proofs.Passes.{Measuring}
use Rattle.trace.proofs.whole.trace_length.Given as goal

abbrev pub invariant-loop-word : goal.invariant-loop-word
invariant-loop-word l = Measuring l.words l.n l.before l.word-index

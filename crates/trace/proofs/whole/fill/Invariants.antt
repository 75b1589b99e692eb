-- `trace::whole::fill` meets its contract: the words read so far are stored, and as long as one is missing the next record is a word. Assumes nothing.
use Rattle.trace.proofs.Passes.{Filling}
use Rattle.trace.proofs.whole.fill.Given as goal

abbrev pub invariant-loop-word : goal.invariant-loop-word
invariant-loop-word l = Filling l.trace l.words l.at l.before l.word-index

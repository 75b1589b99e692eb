-- `trace::whole::put_all` meets its contract: the records of the words passed stand first, and the rest is as it was. Assumes nothing.
use Rattle.trace.proofs.Passes.{PuttingAll}
use Rattle.trace.proofs.whole.put_all.Given as goal

abbrev pub invariant-loop-word : goal.invariant-loop-word
invariant-loop-word l = PuttingAll l.words l.initial.out l.out l.at l.before l.word-index

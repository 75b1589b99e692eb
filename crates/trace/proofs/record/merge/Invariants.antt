-- `trace::record::merge` meets its contract. After i turns the word has the new bytes below i, and none of them was idle. Assumes nothing.
use Rattle.trace.proofs.Merge.{Merging}
use Rattle.trace.proofs.record.merge.Given as goal

abbrev pub invariant-loop-i : goal.invariant-loop-i
invariant-loop-i l = Merging l.given l.before l.map l.word l.at l.i

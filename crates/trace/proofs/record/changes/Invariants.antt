-- `trace::record::changes` meets its contract. After i turns the map has the bits of the changed bytes below i. Assumes nothing.
use Rattle.trace.proofs.Writing.{Changing}
use Rattle.trace.proofs.record.changes.Given as goal

abbrev pub invariant-loop-i : goal.invariant-loop-i
invariant-loop-i l = Changing l.before l.word l.map l.i

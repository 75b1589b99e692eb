-- `trace::record::put` meets its contract. After i turns the picked bytes below i stand behind the map. Assumes nothing.
use Rattle.trace.proofs.Writing.{Putting}
use Rattle.trace.proofs.record.put.Given as goal

abbrev pub invariant-loop-i : goal.invariant-loop-i
invariant-loop-i l = Putting l.map l.word l.initial.out l.out l.at l.i

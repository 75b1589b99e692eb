-- `trace::whole::count_words` meets its contract: the words read so far are counted, and the rest of the trace is still to be read. Assumes nothing.
use Prim.Native.Nat.{◌-◌}
use lib.ListN.{length}
use Rattle.trace.proofs.Passes.{Counting}
use Rattle.trace.proofs.whole.count_words.Given as goal

abbrev pub invariant-loop-word : goal.invariant-loop-word
invariant-loop-word l = Counting l.trace l.at l.before l.n

abbrev pub decreases-loop-word : goal.decreases-loop-word
decreases-loop-word l = length l.trace - l.n

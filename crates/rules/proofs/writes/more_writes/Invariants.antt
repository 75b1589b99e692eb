-- `rules::writes::more_writes` meets its contract.
-- Assumes nothing.
use Prim.Native.Nat.{◌-◌}
use lib.ListN.{length}
use Rattle.rules.proofs.WriteSteps.{So}
use Rattle.rules.proofs.writes.more_writes.Given as goal

abbrev pub invariant-loop-t : goal.invariant-loop-t
invariant-loop-t l = So l.text l.initial.words l.at l.free l.last l.count l.link l.w.at l.w.free l.w.count l.w.link l.words

abbrev pub decreases-loop-t : goal.decreases-loop-t
decreases-loop-t l = length l.text - l.w.at

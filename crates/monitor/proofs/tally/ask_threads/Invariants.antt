-- `monitor::tally::ask_threads` meets its contract.
-- Assumes nothing.
use mathlib.Core.List.{List, []}
use Prim.Native.Nat.{ℕ}
use lib.ListN.{get_or}
use Rattle.monitor.specs.Tally.{counts_by, ask_threads}
use Rattle.monitor.proofs.TallySteps.{Chained}
use Rattle.monitor.proofs.tally.ask_threads.Given as goal

abbrev pub invariant-loop-chain : goal.invariant-loop-chain
invariant-loop-chain l = (L : List ℕ) → Chained (counts_by (get_or l.tables 0 []) l.places l.costs L) (ask_threads (counts_by (get_or l.tables 0 []) l.places l.costs L) l.first l.first l.initial.asked) l.count l.chain l.asked

abbrev pub decreases-loop-chain : goal.decreases-loop-chain
decreases-loop-chain l = l.chain

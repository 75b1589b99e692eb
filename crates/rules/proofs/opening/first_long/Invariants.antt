-- `rules::opening::first_long` meets its contract. The invariant: so far no limit is passed, and the letters of the monitors ahead are still to be added.
-- Assumes nothing.
use Prim.Native.Nat.{◌≤◌}
use lib.ListN.{length}
use Rattle.rules.proofs.LongRun.{AllSummed}
use Rattle.rules.proofs.opening.first_long.Given as goal

abbrev pub invariant-loop-i : goal.invariant-loop-i
invariant-loop-i l = (l.sum ≤ 256) × AllSummed l.words l.monitors (length l.monitors) l.i l.sum

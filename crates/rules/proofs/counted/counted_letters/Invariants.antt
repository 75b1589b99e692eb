-- `rules::counted::counted_letters` meets its contract. The invariant: the letters of the monitors ahead are still to be stored.
-- Assumes nothing.
use lib.ListN.{length}
use Rattle.rules.proofs.Counting.{AllGoing}
use Rattle.rules.proofs.counted.counted_letters.Given as goal

abbrev pub invariant-loop-cell : goal.invariant-loop-cell
invariant-loop-cell l = AllGoing l.words l.monitors l.limits (length l.monitors) l.counted l.cell-index l.letter

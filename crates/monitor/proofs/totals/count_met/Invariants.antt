-- `monitor::totals::count_met` meets its contract.
-- Assumes nothing.
use mathlib.Core.Path.{◌≡◌}
use Rattle.monitor.specs.Ticks.{count_met}
use Rattle.monitor.proofs.totals.count_met.Given as goal

abbrev pub invariant-loop-letter : goal.invariant-loop-letter
invariant-loop-letter l = l.totals ≡ count_met l.marks l.letter l.initial.totals

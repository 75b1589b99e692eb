-- `monitor::threads::threads_of` meets its contract.
-- Assumes nothing.
use mathlib.Core.Path.{◌≡◌}
use Rattle.monitor.specs.Threads.{row_numbers, threads_from}
use Rattle.monitor.proofs.threads.threads_of.Given as goal

abbrev pub invariant-loop-row : goal.invariant-loop-row
invariant-loop-row l = (l.numbers ≡ row_numbers l.table l.row) × (l.threads ≡ threads_from l.table l.row)

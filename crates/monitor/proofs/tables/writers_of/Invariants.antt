-- `monitor::tables::writers_of` meets its contract.
-- Assumes nothing.
use mathlib.Core.Path.{◌≡◌}
use Rattle.monitor.specs.Calls.{writers_of}
use Rattle.monitor.proofs.tables.writers_of.Given as goal

abbrev pub invariant-loop-letter : goal.invariant-loop-letter
invariant-loop-letter l = writers_of l.links l.letters ≡ writers_of l.links l.letter

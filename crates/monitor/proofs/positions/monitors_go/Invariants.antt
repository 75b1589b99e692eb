-- `monitor::positions::monitors_go` meets its contract.
-- Assumes nothing.
use Prim.Native.Nat.{◌-◌}
use mathlib.Core.Path.{◌≡◌}
use Rattle.monitor.specs.Letters.{given}
use Rattle.monitor.specs.Ticks.{layout_with, monitors_go}
use Rattle.monitor.proofs.positions.monitors_go.Given as goal

abbrev pub invariant-loop-monitor : goal.invariant-loop-monitor
invariant-loop-monitor l = monitors_go (given l.tick.tables.now l.tick.values.now l.tick.words) (layout_with l.layout l.monitors l.letters) l.marks l.monitors 0 l.initial.memory ≡ monitors_go (given l.tick.tables.now l.tick.values.now l.tick.words) (layout_with l.layout l.monitors l.letters) l.marks (l.monitors - l.monitor) l.monitor l.memory

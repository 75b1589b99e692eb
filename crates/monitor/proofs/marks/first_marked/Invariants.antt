-- `monitor::marks::first_marked` meets its contract.
-- Assumes nothing.
use Prim.Native.Nat.{◌-◌, ◌≤◌, max}
use mathlib.Core.Path.{◌≡◌}
use Rattle.monitor.specs.Ticks.{first_marked}
use Rattle.monitor.proofs.marks.first_marked.Given as goal

abbrev pub invariant-loop-letter : goal.invariant-loop-letter
invariant-loop-letter l = (first_marked l.marks (l.to - l.from) l.from ≡ first_marked l.marks (l.to - l.letter) l.letter) × (l.letter ≤ max l.start l.to)

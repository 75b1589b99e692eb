-- `monitor::write_marked` meets its contract.
-- Assumes nothing.
use Prim.Native.Nat.{ℕ, ◌-◌}
use mathlib.Core.List.{List}
use mathlib.Core.Path.{◌≡◌}
use Rattle.monitor.specs.Letters.{given}
use Rattle.monitor.specs.Ticks.{write_marked}
use Rattle.monitor.proofs.write_marked.Given as goal

abbrev pub invariant-loop-i : goal.invariant-loop-i
invariant-loop-i l = (S : List ℕ) → write_marked (given l.tables S l.words) l.marks l.letters 0 l.initial.values ≡ write_marked (given l.tables S l.words) l.marks (l.letters - l.i) l.i l.values

abbrev pub decreases-loop-i : goal.decreases-loop-i
decreases-loop-i l = l.letters - l.i

-- `monitor::busy::shut_eight` meets its contract.
-- Assumes nothing.
use mathlib.Core.List.{List}
use mathlib.Core.Path.{◌≡◌}
use Prim.Native.Nat.{ℕ}
use Rattle.monitor.specs.Letters.{given}
use Rattle.monitor.specs.Ticks.{each_marked, shut_for}
use Rattle.monitor.proofs.busy.shut_eight.Given as goal

abbrev pub invariant-loop-step : goal.invariant-loop-step
invariant-loop-step l = (S W : List ℕ) → l.memory ≡ each_marked l.marks (shut_for (given l.tables S W)) l.step l.from l.initial.memory

-- `monitor::marks::quiet` meets its contract.
-- Assumes nothing.
use Prim.Native.Nat.{ℕ, ◌+◌, ◌<◌}
use mathlib.Core.Path.{◌≡◌}
use lib.ListN.{get_or}
use Rattle.monitor.proofs.marks.quiet.Given as goal

abbrev pub invariant-loop-step : goal.invariant-loop-step
invariant-loop-step l = l.any ≡ 0 → (i : ℕ) → i < l.step → get_or l.marks (l.from + i) 0 ≡ 0

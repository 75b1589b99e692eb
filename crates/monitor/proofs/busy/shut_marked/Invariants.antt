-- `monitor::busy::shut_marked` meets its contract.
-- Assumes nothing.
use Prim.Native.Nat.{ℕ, ◌+◌, ◌-◌, ◌*◌}
use mathlib.Core.List.{List}
use mathlib.Core.Path.{◌≡◌}
use Rattle.monitor.specs.Letters.{given}
use Rattle.monitor.specs.Ticks.{each_marked, shut_for}
use Rattle.monitor.proofs.busy.shut_marked.Given as goal

abbrev pub invariant-loop-eight : goal.invariant-loop-eight
invariant-loop-eight l = (S W : List ℕ) → each_marked l.marks (shut_for (given l.tables S W)) (l.to - l.from) l.from l.initial.memory ≡ each_marked l.marks (shut_for (given l.tables S W)) (l.to - (l.from + 8 * l.eight)) (l.from + 8 * l.eight) l.memory

abbrev pub invariant-loop-letter : goal.invariant-loop-letter
invariant-loop-letter l = (S W : List ℕ) → each_marked l.marks (shut_for (given l.tables S W)) (l.to - l.from) l.from l.fn.memory ≡ each_marked l.marks (shut_for (given l.tables S W)) (l.to - l.letter) l.letter l.memory

-- `shape::sides::met_with` meets its contract. The loop's invariant: the set has what it should of the letters from `i` on.
-- Assumes nothing.
use Prim.Native.Nat.{◌≤◌}
use Rattle.shape.specs.Sets.{Passing}
use Rattle.shape.specs.Sides.{rivals}
use Rattle.shape.proofs.sides.met_with.Given as goal

abbrev pub invariant-loop-i : goal.invariant-loop-i
invariant-loop-i l = (l.first ≤ l.stop → l.first ≤ l.i) × Passing (λ j. rivals l.look l.want j l.letter) l.i l.stop l.set

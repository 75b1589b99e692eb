-- `shape::sets::lowest_by` meets its contract. The loop's invariant: the lowest letter from `from` on is the lowest from `first` on.
-- Assumes nothing.
use mathlib.Core.Bool.{Bool}
use mathlib.Core.Path.{◌≡◌}
use Prim.Native.Nat.{ℕ, ◌+◌, ◌-◌, ◌≤◌}
use Rattle.shape.specs.Sets.{Passing}
use Rattle.shape.specs.Lowest.{lowest}
use Rattle.shape.proofs.sets.lowest_by.Given as goal

abbrev pub invariant-loop-from : goal.invariant-loop-from
invariant-loop-from g l =
    (test : ℕ → Bool) → ((from stop set : ℕ) → goal.F-post g l.passing from stop set → stop ≤ from + 64 → Passing test from stop set)
    → lowest test l.from (l.end - l.from) ≡ lowest test l.first (l.end - l.first)

-- `rules::lay::unnamed` meets its contract.
-- Assumes nothing.
use mathlib.Core.Bool.{Bool, true}
use mathlib.Core.List.{List}
use Prim.Native.Nat.{ℕ}
use Rattle.rules.proofs.Placing.{Below}
use Rattle.rules.proofs.lay.unnamed.Given as goal

-- every list of productions
abbrev pub all : List ℕ → Bool
all ps = true

abbrev pub invariant-loop-at : goal.invariant-loop-at
invariant-loop-at l = Below all l.words l.node l.at

abbrev pub decreases-loop-at : goal.decreases-loop-at
decreases-loop-at l = l.at

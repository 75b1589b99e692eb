-- `rules::names::find` meets its contract.
-- Assumes nothing.
use Prim.Native.Nat.{◌-◌}
use lib.ListN.{take, drop}
use Rattle.rules.proofs.Lookup.{Looked}
use Rattle.rules.proofs.names.find.Given as goal

abbrev pub invariant-loop-cell : goal.invariant-loop-cell
invariant-loop-cell l = Looked l.text l.words l.last (take (l.after - l.place) (drop l.place l.text)) l.cell

abbrev pub decreases-loop-cell : goal.decreases-loop-cell
decreases-loop-cell l = l.cell

-- `rules::statements::all_monitors` meets its contract. The invariant: so many names are listed, and a name is expected.
-- Assumes nothing.
use mathlib.Core.Path.{◌≡◌}
use Prim.Native.Nat.{◌-◌}
use lib.ListN.{length}
use Rattle.rules.proofs.MonitorSteps.{So}
use Rattle.rules.proofs.statements.all_monitors.Given as goal

abbrev pub invariant-loop-m : goal.invariant-loop-m
invariant-loop-m l = (length l.list ≡ length l.initial.list) × So l.text l.words l.last l.at l.next l.list l.count

abbrev pub decreases-loop-m : goal.decreases-loop-m
decreases-loop-m l = length l.text - l.next

-- `monitor::tally::touch_marked` meets its contract.
-- Assumes nothing.
use mathlib.Core.List.{[]}
use Prim.Native.Nat.{◌-◌}
use lib.ListN.{get_or}
use Rattle.monitor.specs.Ticks.{places_in}
use Rattle.monitor.specs.Tally.{counts_by, touch_marked}
use Rattle.monitor.proofs.TallySteps.{Marked}
use Rattle.monitor.proofs.tally.touch_marked.Given as goal

abbrev pub invariant-loop-letter : goal.invariant-loop-letter
invariant-loop-letter l = Marked (counts_by (get_or l.tables 0 []) l.places l.costs (places_in l.layout)) l.marks (touch_marked (counts_by (get_or l.tables 0 []) l.places l.costs (places_in l.layout)) l.marks l.letters 0 l.initial.asked) l.letters l.count l.letter l.asked

abbrev pub decreases-loop-letter : goal.decreases-loop-letter
decreases-loop-letter l = l.letters - l.letter

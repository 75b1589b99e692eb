-- `sheet::ticking::run_from` meets its contract. What holds at the head of the loop is `Going`, and that the line is that of
-- the tick; the measure is the bytes that are left. Assumes nothing.
use Prim.Native.Nat.{◌-◌}
use lib.ListN.{length}
use Rattle.sheet.specs.Kept.{Kept}
use Rattle.sheet.specs.Moved.{moved}
use Rattle.sheet.proofs.RunSteps.{Going}
use Rattle.sheet.proofs.ticking.run_from.Given as goal

abbrev pub invariant-loop-record : goal.invariant-loop-record
invariant-loop-record l =
    record {
      going : Going l.watch l.before l.records l.initial.page l.page (moved l.watch l.moving l.watch.stopped) l.last l.used;
      line : Kept l.line l.moving.ticks;
    }

abbrev pub decreases-loop-record : goal.decreases-loop-record
decreases-loop-record l = length l.records - l.used

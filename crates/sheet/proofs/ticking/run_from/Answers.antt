-- The answers to the goals of `sheet::ticking::run_from`.
use native.Mathlib.Omega.{arith}
use mathlib.Core.Path.{refl}
use Rattle.monitor.proofs.TickSteps.{refusal-told}
use Rattle.sheet.proofs.RunSteps.{going-first, going-over, going-idle, going_long, going-refused, going-few, going-bad, going-ok}
use Rattle.sheet.proofs.ticking.run_from.Goals as goal

pub loop-record-init : goal.loop-record-init
loop-record-init c = record { going = going-first _ _ _ _ _ c.of-moving.ensures c.requires; line = c.new-line.ensures }

pub returns-in-Ok-None : goal.returns-in-Ok-None
returns-in-Ok-None c = going-over c.loop-record.invariant.going (rw c.in-Ok-None.field-0-is at c.in-Ok-None.ensures) _ c.watch.ensures

pub returns-in-Err : goal.returns-in-Err
returns-in-Err c = going-idle c.loop-record.invariant.going _ _ c.number.ensures c.in-Err.ensures _ c.watch-in-Err.ensures c.refusal.ensures.printed c.refusal.ensures.short

pub returns-in-Some : goal.returns-in-Some
returns-in-Some c =
    let r = c.refusal-in-Some.ensures in
    going-refused c.loop-record.invariant.going _ _ (rw c.in-Ok-Some.field-0-is at c.in-Ok-Some.ensures) _ c.in-Some.ensures (refusal-told _) _ c.watch-in-Some.ensures
    (rw c.number-in-Some.ensures at r.printed) r.short

pub returns-then-is_bad : goal.returns-then-is_bad
returns-then-is_bad c =
    going-bad c.loop-record.invariant.going _ _ (rw c.in-Ok-Some.field-0-is at c.in-Ok-Some.ensures) 0 c.in_default.ensures refl _ c.tables_of-tables.ensures _
    c.layout_of_watch-layout.ensures _ _ _ _ c.step_in-answer.ensures _ c.is_bad.ensures c.if-is_bad.true _ c.watch-halted.ensures c.bad.ensures.printed c.bad.ensures.short c.foot.ensures.printed
    c.foot.ensures.short

pub count_on-requires : goal.count_on-requires
count_on-requires c =
    (c.good.ensures.kept, going-few c.loop-record.invariant.going _ _ (rw c.in-Ok-Some.field-0-is at c.in-Ok-Some.ensures) 0 c.in_default.ensures refl)

pub overflow_add-moving : goal.overflow_add-moving
overflow_add-moving c =
    omega (arith, going-few c.loop-record.invariant.going _ _ (rw c.in-Ok-Some.field-0-is at c.in-Ok-Some.ensures) 0 c.in_default.ensures refl)

pub overflow_add-used : goal.overflow_add-used
overflow_add-used c = let p = going_long c.loop-record.invariant.going _ _ (rw c.in-Ok-Some.field-0-is at c.in-Ok-Some.ensures) in omega (arith, p.1)

pub loop-record-smaller : goal.loop-record-smaller
loop-record-smaller c = let p = going_long c.loop-record.invariant.going _ _ (rw c.in-Ok-Some.field-0-is at c.in-Ok-Some.ensures) in omega (arith, p.0, p.1)

pub loop-record-preserved : goal.loop-record-preserved
loop-record-preserved c =
    record {
      going =
          going-ok c.loop-record.invariant.going _ _ (rw c.in-Ok-Some.field-0-is at c.in-Ok-Some.ensures) 0 c.in_default.ensures refl _ c.tables_of-tables.ensures _
          c.layout_of_watch-layout.ensures _ _ _ _ c.step_in-answer.ensures _ c.is_bad.ensures c.if-is_bad.false _ c.count_met.ensures c.good.ensures.printed c.good.ensures.short;
      line = c.count_on.ensures;
    }

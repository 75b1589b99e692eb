-- `monitor::take` meets its contract.
-- Assumes nothing.
use mathlib.Core.Path.{refl, ◌∙◌}
use Rattle.monitor.specs.Calls.{state_of}
use Rattle.monitor.proofs.TickSteps.{refusal-told, laid-step, laid-touched, told-by, take-refused, take-bad, few-ticks, take-ok}
use Rattle.monitor.proofs.take.Goals as goal

pub returns-in-Some : goal.returns-in-Some
returns-in-Some c = let (r, u) = take-refused _ _ _ c.in-Some.ensures (refusal-told _) in (r, told-by _ _ _ r, u)

pub returns-then-is_bad : goal.returns-then-is_bad
returns-then-is_bad c =
    let a = c.args in
    let s = laid-step a.watch _ _ c.tables_of-tables.ensures c.layout_of_watch-layout.ensures (state_of a.watch).inner a.word _ c.step_in-answer.ensures in
    let n = laid-touched a.watch _ _ c.tables_of-tables.ensures c.layout_of_watch-layout.ensures _ _ c.counts_of-counts.ensures c.touched_by-rows.ensures in
    let (r, u) = take-bad a.watch a.word 0 c.in_default.ensures refl _ _ _ _ s _ c.is_bad.ensures _ c.if-is_bad.true c.stopped-next.ensures in
    (r, n ∙ told-by a.watch a.word _ r, u)

pub moved_on-next-requires : goal.moved_on-next-requires
moved_on-next-requires c =
    let a = c.args in
    few-ticks a.watch a.word 0 c.in_default.ensures refl

pub returns : goal.returns
returns c =
    let a = c.args in
    let s = laid-step a.watch _ _ c.tables_of-tables.ensures c.layout_of_watch-layout.ensures (state_of a.watch).inner a.word _ c.step_in-answer.ensures in
    let n = laid-touched a.watch _ _ c.tables_of-tables.ensures c.layout_of_watch-layout.ensures _ _ c.counts_of-counts.ensures c.touched_by-rows.ensures in
    let (r, u) = take-ok a.watch a.word 0 c.in_default.ensures refl _ _ _ _ s _ c.is_bad.ensures _ c.if-is_bad.false _ c.count_met.ensures c.moved_on-next.ensures in
    (r, n ∙ told-by a.watch a.word _ r, u)

-- `monitor::step_in` meets its contract.
-- Assumes nothing.
use mathlib.Core.List.{[], ◌∷◌}
use Rattle.monitor.proofs.TickSteps.{step-stops, step-moves}
use Rattle.windows.specs.Windows.{counted_in}
use Rattle.monitor.specs.Letters.{given}
use Rattle.monitor.specs.Ticks.{layout_in}
use Rattle.monitor.proofs.step_in.Goals as goal

pub returns-then-is_bad : goal.returns-then-is_bad
returns-then-is_bad c =
    let a = c.args in
    let F = a.layout.now in
    step-stops (given a.tables.now a.values.now (a.word ∷ a.past ∷ [])) (layout_in F) a.marks.now _ _ c.walk_on-monitor.ensures (counted_in F) a.windows.now _ _ c.letters_in-letters.ensures c.monitors_in.ensures _ _ c.tick_mask-mask.ensures
    c.answer_by-number.ensures _ c.is_bad.ensures c.if-is_bad.true

pub returns : goal.returns
returns c =
    let a = c.args in
    let F = a.layout.now in
    step-moves (given a.tables.now a.values.now (a.word ∷ a.past ∷ [])) (layout_in F) a.marks.now _ _ c.walk_on-monitor.ensures (counted_in F) a.windows.now _ _ c.letters_in-letters.ensures c.monitors_in.ensures _ _ c.tick_mask-mask.ensures
    c.answer_by-number.ensures _ c.is_bad.ensures c.if-is_bad.false _ _ _ c.put_marks.ensures _ _ _ c.part1.ensures c.min.ensures c.min-writers.ensures
    (c.write_marked.ensures _) c.pass_tick.ensures

-- `monitor::peek_in` meets its contract.
-- Assumes nothing.
use mathlib.Core.List.{[], ◌∷◌}
use Rattle.monitor.proofs.TickSteps.{answer-right}
use Rattle.windows.specs.Windows.{counted_in}
use Rattle.monitor.specs.Letters.{given}
use Rattle.monitor.specs.Ticks.{layout_in}
use Rattle.monitor.proofs.peek_in.Goals as goal

pub returns : goal.returns
returns c =
    let a = c.args in
    let F = a.layout.now in
    answer-right (given a.tables.now a.values.now (a.word ∷ a.past ∷ [])) (layout_in F) a.marks.now _ _ c.walk_on-monitor.ensures (counted_in F) a.windows.now _ _ c.letters_in-letters.ensures c.monitors_in.ensures _ _ c.tick_mask-mask.ensures
    c.answer_by.ensures

-- `monitor::threads::row_number` meets its contract.
-- Assumes nothing.
use mathlib.Core.Path.{◌∙◌}
use native.Mathlib.Omega.{arith}
use Rattle.monitor.proofs.ThreadSteps.{row_below, row-above}
use Rattle.monitor.proofs.threads.row_number.Goals as goal

pub returns-then-up-row : goal.returns-then-up-row
returns-then-up-row c =
    let a = c.args in
    c.operand_number.ensures ∙ row_below a.table.now a.numbers.now a.row _ c.part3-up.ensures (omega arith)

pub returns : goal.returns
returns c =
    let a = c.args in
    row-above a.table.now a.numbers.now a.row _ c.part3-up.ensures (omega arith)

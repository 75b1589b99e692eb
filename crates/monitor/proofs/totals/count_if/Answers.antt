-- `monitor::totals::count_if` meets its contract.
-- Assumes nothing.
use Rattle.monitor.proofs.TotalSteps.{counted_if}
use Rattle.monitor.proofs.totals.count_if.Goals as goal

pub returns : goal.returns
returns c =
    let a = c.args in
    counted_if a.marks.now a.letter a.totals.now _ c.counted.ensures

-- `monitor::totals::counted` meets its contract.
-- Assumes nothing.
use Rattle.monitor.proofs.TotalSteps.{not-counted, one-counted}
use Rattle.monitor.proofs.totals.counted.Goals as goal

pub returns-then-mark-eq0 : goal.returns-then-mark-eq0
returns-then-mark-eq0 c = let a = c.args in not-counted a.total a.mark c.if-mark-eq0.true

pub returns : goal.returns
returns c = let a = c.args in one-counted a.total a.mark c.if-mark-eq0.false

-- `monitor::busy::shut_row` meets its contract.
-- Assumes nothing.
use native.Mathlib.Omega.{arith}
use Rattle.monitor.proofs.TickSteps.{no-such-row, shut-row}
use Rattle.monitor.proofs.busy.shut_row.Goals as goal

pub returns-then-row-ge1024 : goal.returns-then-row-ge1024
returns-then-row-ge1024 c = let a = c.args in no-such-row a.row a.memory.now c.if-row-ge1024.true

pub returns : goal.returns
returns c = let a = c.args in shut-row a.row _ a.memory.now (omega arith) c.shut_code.ensures

-- `monitor::stray` meets its contract.
-- Assumes nothing.
use native.Mathlib.Omega.{arith}
use Rattle.monitor.proofs.TickSteps.{no_stray, stray-bit}
use Rattle.monitor.proofs.stray.Goals as goal

pub returns-then-wires-ge64 : goal.returns-then-wires-ge64
returns-then-wires-ge64 c = no_stray c.args.wires c.args.word (omega arith) c.if-wires-ge64.true

pub returns : goal.returns
returns c = stray-bit c.args.wires c.args.word

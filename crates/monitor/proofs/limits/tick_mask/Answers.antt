-- `monitor::limits::tick_mask` meets its contract.
-- Assumes nothing.
use mathlib.Core.Path.{refl}
use Rattle.monitor.proofs.LimitSteps.{no-limits, some-limits}
use Rattle.monitor.proofs.limits.tick_mask.Goals as goal

pub returns-then-windows-eq0 : goal.returns-then-windows-eq0
returns-then-windows-eq0 c = no-limits c.args.windows.now _ _ _ c.if-windows-eq0.true refl

pub returns : goal.returns
returns c = some-limits c.args.windows.now _ _ _ c.if-windows-eq0.false c.met_mask_in.ensures

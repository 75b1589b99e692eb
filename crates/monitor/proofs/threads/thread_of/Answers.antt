-- `monitor::threads::thread_of` meets its contract.
-- Assumes nothing.
use mathlib.Core.Path.{◌∙◌}
use Rattle.monitor.proofs.ThreadSteps.{goes_on_lem, ends-here}
use Rattle.monitor.proofs.threads.thread_of.Goals as goal

pub returns-then-number-eq0 : goal.returns-then-number-eq0
returns-then-number-eq0 c = ends-here c.args.number c.if-number-eq0.true

pub returns : goal.returns
returns c = c.from.ensures ∙ goes_on_lem c.args.number c.if-number-eq0.false

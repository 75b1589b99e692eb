-- `monitor::limits::answer_by` meets its contract.
-- Assumes nothing.
use mathlib.Core.Path.{◌∙◌}
use native.Mathlib.Omega.{arith}
use Rattle.monitor.proofs.LimitSteps.{beyond-or-none, monitor-told, limit-told}
use Rattle.monitor.proofs.limits.answer_by.Goals as goal

pub returns-then-monitor-min : goal.returns-then-monitor-min
returns-then-monitor-min c = let a = c.args in monitor-told a.monitor a.monitors _ c.min.ensures a.windows.now a.mask c.if-monitor-min.true

pub returns : goal.returns
returns c = let a = c.args in limit-told a.monitor a.monitors _ c.min.ensures a.windows.now a.mask (omega arith) _ (c.unwrap_or-limit.ensures ∙ beyond-or-none c.first_beyond.result ∙ c.first_beyond.ensures.limit)

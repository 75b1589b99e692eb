-- `monitor::moved_on` meets its contract.
-- Assumes nothing.
use Rattle.monitor.proofs.TickSteps.{one-tick}
use Rattle.monitor.proofs.moved_on.Goals as goal

pub returns : goal.returns
returns c = one-tick c.args.watch c.args.marks c.args.values c.args.totals c.args.windows c.args.word

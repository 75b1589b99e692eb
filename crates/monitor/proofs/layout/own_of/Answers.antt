-- `monitor::layout::own_of` meets its contract.
-- Assumes nothing.
use Rattle.monitor.proofs.Layouts.{word_in}
use Rattle.monitor.proofs.layout.own_of.Goals as goal

pub returns : goal.returns
returns c = word_in c.args.layout.now 256 32 c.args.monitor c.requires

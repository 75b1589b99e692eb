-- `monitor::layout::first_of` meets its contract.
-- Assumes nothing.
use Rattle.monitor.proofs.Layouts.{word_in}
use Rattle.monitor.proofs.layout.first_of.Goals as goal

pub returns : goal.returns
returns c = word_in c.args.layout.now 288 32 c.args.monitor c.requires

-- `monitor::layout::row_of` meets its contract.
-- Assumes nothing.
use mathlib.Core.Path.{sym}
use lib.Seq.{get_or-take}
use Rattle.monitor.proofs.layout.row_of.Goals as goal

pub returns : goal.returns
returns c = sym (get_or-take 256 c.args.layout.now c.args.letter 0 c.requires)

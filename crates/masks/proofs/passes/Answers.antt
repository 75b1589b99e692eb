-- `masks::passes` meets its contract. Assumes nothing.
use Rattle.masks.proofs.ByWires.{by-arithmetic}
use Rattle.masks.proofs.passes.Goals as goal

pub returns : goal.returns
returns c = by-arithmetic c.args.look c.args.want c.args.word c.ranges.look.fits

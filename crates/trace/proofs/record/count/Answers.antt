-- `trace::record::count` meets its contract: the set digits of a number below 2 ^ i are those of its i lowest bits. Assumes nothing.
use native.Mathlib.Omega.{arith}
use Rattle.trace.proofs.Bits.{ones-count}
use Rattle.trace.proofs.record.count.Goals as goal

pub returns : goal.returns
returns c = ones-count c.args.map (omega arith)

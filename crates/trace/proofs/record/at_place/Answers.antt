-- `trace::record::at_place` meets its contract: a byte moved up by at most 56 bits loses none. Assumes nothing.
use native.Mathlib.Omega.{arith}
use Prim.Native.Nat.{◌*◌}
use lib.Pow.{shl_exact}
use Rattle.trace.proofs.record.at_place.Goals as goal

pub returns : goal.returns
returns c = shl_exact 8 (8 * c.args.i) 64 (omega arith) (omega arith)

-- `shape::sets::lowest_in` meets its contract. Assumes nothing.
use Prim.Native.Nat.{◌-◌}
use native.Mathlib.Omega.{arith}
use Rattle.shape.proofs.Bits.{lowest_bit, no_bit}
use Rattle.shape.proofs.sets.lowest_in.Goals as goal

pub returns-then-place-stop : goal.returns-then-place-stop
returns-then-place-stop c = let args = c.args in (lowest_bit args.set args.first c.ranges.set.fits (args.stop - args.first) (omega arith) c.if-place-stop.true, omega arith)

pub returns-else-place-stop : goal.returns-else-place-stop
returns-else-place-stop c = let args = c.args in no_bit args.set args.first c.ranges.set.fits args.stop (omega arith) c.if-place-stop.false

-- `shape::sets::one` meets its contract. Assumes nothing.
use Prim.Native.Nat.{◌+◌}
use native.Mathlib.Omega.{arith}
use Rattle.shape.proofs.Bits.{has_no, has-alone}
use Rattle.shape.proofs.sets.one.Goals as goal

pub returns-then-letter-first : goal.returns-then-letter-first
returns-then-letter-first c = let args = c.args in λ x h s. has_no x args.letter (args.first + x) (λ e. omega arith)

pub returns-then-place-ge64 : goal.returns-then-place-ge64
returns-then-place-ge64 c = let args = c.args in λ x h s. has_no x args.letter (args.first + x) (λ e. omega arith)

pub returns : goal.returns
returns c = let args = c.args in λ x h s. has-alone x args.letter args.first (omega arith) (omega arith)

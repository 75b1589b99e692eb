-- `trace::record::bit` meets its contract. Assumes nothing.
use native.Mathlib.Nat.{one-mul}
use Rattle.trace.specs.Record.{digit}
use Rattle.trace.proofs.record.bit.Goals as goal

pub returns : goal.returns
unfolding digit
returns c = rw one-mul

-- `trace::record::record_length` meets its contract. Assumes nothing.
use native.Mathlib.Omega.{arith}
use Rattle.trace.proofs.Bits.{count-le}
use Rattle.trace.proofs.Writing.{write-long}
use Rattle.trace.proofs.record.record_length.Goals as goal

pub overflow_add-result : goal.overflow_add-result
overflow_add-result c = omega (arith, c.count.ensures, count-le 8 c.changes.result)

pub returns : goal.returns
returns c = write-long _ _ _ _ c.changes.ensures c.count.ensures

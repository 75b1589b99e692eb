-- `trace::record::write_record` meets its contract. Assumes nothing.
use native.Mathlib.Omega.{arith}
use Rattle.trace.proofs.Bits.{count-le}
use Rattle.trace.proofs.Lending.{lend-short, lend-fits}
use Rattle.trace.proofs.Writing.{write-long, write-put}
use Rattle.trace.proofs.record.write_record.Goals as goal

pub overflow_add-length : goal.overflow_add-length
overflow_add-length c = omega (arith, c.count-length.ensures, count-le 8 c.changes-map.result)

pub returns-then-out-length : goal.returns-then-out-length
returns-then-out-length c = lend-short _ _ _ (write-long _ _ _ _ c.changes-map.ensures c.count-length.ensures) c.if-out-length.true

pub returns : goal.returns
returns c =
    lend-fits _ _ _ (write-long _ _ _ _ c.changes-map.ensures c.count-length.ensures) _ c.if-out-length.false
    (write-put _ _ _ _ _ _ c.changes-map.ensures c.count-length.ensures c.put.ensures)

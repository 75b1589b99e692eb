-- `trace::record::put_record` meets its contract. Assumes nothing.
use native.Mathlib.Omega.{arith}
use Rattle.trace.proofs.Bits.{count-le}
use Rattle.trace.proofs.Writing.{put-fits, write-long, write-put}
use Rattle.trace.proofs.record.put_record.Goals as goal

pub put-requires : goal.put-requires
put-requires c = put-fits _ _ _ _ c.changes-map.ensures c.requires

pub overflow_add-result : goal.overflow_add-result
overflow_add-result c = omega (arith, c.count.ensures, count-le 8 c.changes-map.result)

pub returns : goal.returns
returns c =
    let e = c.changes-map.ensures in
    (write-long _ _ _ _ e c.count.ensures, write-put _ _ _ _ _ _ e c.count.ensures c.put.ensures)

-- `trace::whole::write_trace` meets its contract. Assumes nothing.
use Rattle.trace.proofs.Lending.{lend-short, lend-fits}
use Rattle.trace.proofs.whole.write_trace.Goals as goal

pub returns-then-out-length : goal.returns-then-out-length
returns-then-out-length c = lend-short _ _ _ c.trace_length-length.ensures c.if-out-length.true

pub returns : goal.returns
returns c =
    lend-fits _ _ _ c.trace_length-length.ensures _ c.if-out-length.false
    (rw c.trace_length-length.ensures c.put_all.ensures)

-- `trace::record::read_at` meets its contract. Assumes nothing.
use Rattle.trace.proofs.Reading.{at-past}
use Rattle.trace.proofs.record.read_at.Goals as goal

pub returns-then-trace-at : goal.returns-then-trace-at
returns-then-trace-at c = at-past _ _ _ c.if-trace-at.true

-- `monitor::marks::put_marks` meets its contract.
-- Assumes nothing.
use Rattle.monitor.proofs.Marked.{marks-put}
use Rattle.monitor.proofs.marks.put_marks.Goals as goal

pub returns : goal.returns
returns c = marks-put c.args.memory.now _ c.told-memory c.copy_from_slice.ensures.after

-- The answers to the goals of `monitor::marks::quiet`.
use borrow.Author.Count.{below_more}
use Rattle.monitor.proofs.Marked.{or-zero}
use Rattle.monitor.proofs.marks.quiet.Goals as goal

pub loop-step-preserved : goal.loop-step-preserved
loop-step-preserved c z = let (was, here) = or-zero _ _ z in below_more _ _ (c.loop-step.invariant was) here

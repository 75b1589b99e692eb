-- The answers to the goals of `monitor::marks::past_quiet`.
use mathlib.Core.Path.{◌∙◌}
use native.Mathlib.Omega.{arith}
use Rattle.monitor.proofs.Marked.{first_past}
use Rattle.monitor.proofs.marks.past_quiet.Goals as goal

pub loop-start-preserved : goal.loop-start-preserved
loop-start-preserved c =
    let l = c.loop-start in
    let a = c.args in
    l.invariant ∙ first_past a.marks.now 8 a.to l.start (omega arith) (c.quiet.ensures c.if-quiet.true)

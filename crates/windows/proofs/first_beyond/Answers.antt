-- The answers to the goals of `windows::first_beyond`.
use Rattle.std.proofs.Common.{sym, ◌∙◌, arith}
use Rattle.windows.proofs.Steps.{beyond-none, beyond-here, beyond-later}
use Rattle.windows.proofs.first_beyond.Goals as goal

pub returns-then-from-next_count-clause-limit : goal.returns-then-from-next_count-clause-limit
returns-then-from-next_count-clause-limit c =
    let l = c.loop-limit in
    let a = c.args in
    beyond-here a.windows.now a.mask _ l.limit (omega (arith, c.limits_in-limit-end.ensures)) _ _ c.from.ensures c.next_count.ensures c.if-from-next_count.true ∙ sym l.invariant

pub loop-limit-preserved : goal.loop-limit-preserved
loop-limit-preserved c =
    let l = c.loop-limit in
    let a = c.args in
    l.invariant ∙ beyond-later a.windows.now a.mask _ l.limit (omega (arith, c.limits_in-limit-end.ensures)) _ _ c.from.ensures c.next_count.ensures c.if-from-next_count.false

pub returns-clause-limit : goal.returns-clause-limit
returns-clause-limit c =
    let l = c.loop-limit in
    let a = c.args in
    beyond-none a.windows.now a.mask _ l.limit (omega (arith, c.limits_in-limit-end.ensures)) ∙ sym l.invariant

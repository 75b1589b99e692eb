-- The answers to the goals of `monitor::threads::threads_of`.
use mathlib.Core.Path.{refl, ◌∙◌, ap}
use native.Mathlib.Omega.{arith}
use Rattle.monitor.specs.Threads.{row_numbers, threads_from}
use Rattle.monitor.proofs.ThreadSteps.{numbers-next, threads-next}
use Rattle.monitor.proofs.threads.threads_of.Goals as goal

pub loop-row-preserved : goal.loop-row-preserved
loop-row-preserved c =
    let l = c.loop-row in
    let t = c.args.table.now in
    let e = c.row_number-number.ensures in
    (numbers-next t l.numbers l.row _ _ l.invariant.0 e refl, threads-next t l.numbers l.row _ _ l.invariant.0 e refl l.threads _ l.invariant.1 c.put_thread.ensures)

pub returns : goal.returns
returns c =
    let l = c.loop-row in
    let a = c.args in
    l.invariant.1 ∙ ap (threads_from a.table.now) (let e = c.min-count.ensures in omega arith)

pub loop-row-init : goal.loop-row-init
unfolding row_numbers threads_from
loop-row-init c = (refl, refl)

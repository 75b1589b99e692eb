-- The answers to the goals of `monitor::tally::touch_starts`.
use mathlib.Core.List.{[]}
use native.Mathlib.Omega.{arith}
use Rattle.monitor.specs.Ticks.{own_in}
use Rattle.monitor.specs.Tally.{counts_by}
use Rattle.monitor.proofs.TallySteps.{starts_first, start-few, starts-next, starts-all}
use Rattle.monitor.proofs.tally.touch_starts.Goals as goal

pub loop-monitor-init : goal.loop-monitor-init
loop-monitor-init c T P L = let a = c.args in starts_first (counts_by T P a.costs.now L) (own_in a.layout.now) a.marks.now a.monitors

pub more-count-requires : goal.more-count-requires
more-count-requires c =
    let a = c.args in
    ((c.loop-monitor.invariant [] [] []).0, start-few (counts_by [] [] a.costs.now []) (own_in a.layout.now) a.marks.now c.loop-monitor.monitor _ (c.touch_start.ensures [] [] []))

pub loop-monitor-preserved : goal.loop-monitor-preserved
loop-monitor-preserved c T P L =
    let l = c.loop-monitor in
    let a = c.args in
    starts-next (counts_by T P a.costs.now L) (own_in a.layout.now) a.marks.now l.monitor _ a.monitors l.count (l.invariant T P L) _ _ (omega arith) (c.touch_start.ensures T P L) c.more-count.ensures

pub returns : goal.returns
returns c T P L =
    let l = c.loop-monitor in
    let a = c.args in
    starts-all (counts_by T P a.costs.now L) (own_in a.layout.now) a.marks.now l.monitor _ a.monitors l.count (l.invariant T P L) (omega arith)

-- The answers to the goals of `windows::count_tick`.
use Rattle.std.proofs.Common.{refl, arith}
use Rattle.windows.proofs.Steps.{counted-more}
use Rattle.windows.specs.Windows.{counted}
use Rattle.windows.proofs.count_tick.Goals as goal

pub loop-limit-init : goal.loop-limit-init
unfolding counted
loop-limit-init c = refl

pub loop-limit-preserved : goal.loop-limit-preserved
loop-limit-preserved c =
    let l = c.loop-limit in
    let a = c.args in
    counted-more a.windows.now l.windows a.mask l.limit _ _ l.invariant c.next_count.ensures (omega (arith, c.limits_in-limit-end.ensures)) refl

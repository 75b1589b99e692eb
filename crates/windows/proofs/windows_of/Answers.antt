-- The answers to the goals of `windows::windows_of`.
use Rattle.std.proofs.Common.{refl, arith}
use Rattle.windows.proofs.Steps.{limited-more}
use Rattle.windows.specs.Windows.{limited}
use Rattle.windows.proofs.windows_of.Goals as goal

pub loop-limit-init : goal.loop-limit-init
unfolding limited
loop-limit-init c = refl

pub loop-limit-preserved : goal.loop-limit-preserved
loop-limit-preserved c =
    let l = c.loop-limit in
    limited-more c.args.limits.now l.windows l.limit _ _ _ l.invariant c.part1.ensures (omega (arith, c.part2.ensures, c.min.ensures)) refl

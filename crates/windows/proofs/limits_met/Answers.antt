-- The answers to the goals of `windows::limits_met`.
use Rattle.std.proofs.Common.{refl, ◌∙◌}
use Rattle.windows.proofs.Steps.{met-more}
use Rattle.windows.specs.Windows.{met_mask}
use Rattle.windows.proofs.limits_met.Goals as goal

pub loop-letter-init : goal.loop-letter-init
unfolding met_mask
loop-letter-init g c = refl

pub loop-letter-preserved : goal.loop-letter-preserved
loop-letter-preserved g c =
    let l = c.loop-letter in
    let a = c.args in
    c.with_letter-mask.ensures ∙ met-more a.memory.now (g.C.Counted.counted a.counted.now) l.letter _ l.mask _ l.invariant refl refl

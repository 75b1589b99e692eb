-- The answers to the goals of `live::state::count_eight`: letter by letter, from the first of the eight on.
use Rattle.std.proofs.Common.{◌≡◌, ◌∙◌, ◌+◌, ◌-◌, ℕ, ap, arith}
use Rattle.monitor.specs.Ticks.{each_marked}
use Rattle.monitor.proofs.TickSteps.{done-one, done-up}
use Rattle.live.specs.State.{one_more}
use Rattle.live.proofs.state.count_eight.Goals as goal

pub loop-letter-init : goal.loop-letter-init
loop-letter-init c =
    let a = c.args in
    let e : 8 ≡ a.from + 8 - a.from = omega arith in
    ap (λ (n : ℕ). each_marked a.marks.now one_more n a.from a.state.now) e

pub loop-letter-preserved : goal.loop-letter-preserved
loop-letter-preserved c =
    let l = c.loop-letter in
    let a = c.args in
    l.invariant ∙ done-one a.marks.now one_more (a.from + 8) l.letter l.state _ (omega arith) c.count_if.ensures

pub returns : goal.returns
returns c =
    let l = c.loop-letter in
    let a = c.args in
    done-up a.marks.now one_more (a.from + 8) l.letter _ _ (omega arith) l.invariant

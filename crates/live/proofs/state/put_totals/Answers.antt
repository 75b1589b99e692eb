-- The answers to the goals of `live::state::put_totals`: the eights, and then the letters that are left.
use Rattle.std.proofs.Common.{◌≡◌, ◌∙◌, ◌+◌, ◌*◌, ◌/◌, ◌-◌, ℕ, ap, arith}
use Rattle.monitor.specs.Ticks.{each_marked}
use Rattle.monitor.proofs.TickSteps.{done-some, done-one, done-up}
use Rattle.live.specs.State.{one_more, with_totals}
use Rattle.live.proofs.StateSteps.{counts-first}
use Rattle.live.proofs.state.put_totals.Goals as goal

pub loop-eight-init : goal.loop-eight-init
loop-eight-init c = counts-first c.args.marks.now c.args.state.now _

pub loop-eight-preserved : goal.loop-eight-preserved
loop-eight-preserved c =
    let l = c.loop-eight in
    let K = c.args.marks.now in
    let n = c.min-end.result in
    let e : 8 * l.eight + 8 ≡ 8 * (l.eight + 1) = omega arith in
    l.invariant ∙ done-some K one_more 8 n (8 * l.eight) l.state _ (omega arith) c.count_some.ensures ∙ ap (λ (i : ℕ). each_marked K one_more (n - i) i c.count_some.new.state) e

pub loop-letter-init : goal.loop-letter-init
loop-letter-init c =
    let l = c.loop-eight in
    let e : 8 * l.eight ≡ 8 * (c.min-end.result / 8) = omega arith in
    l.invariant ∙ ap (λ (i : ℕ). each_marked c.args.marks.now one_more (c.min-end.result - i) i l.state) e

pub loop-letter-preserved : goal.loop-letter-preserved
loop-letter-preserved c =
    let l = c.loop-letter in
    l.invariant ∙ done-one c.args.marks.now one_more c.min-end.result l.letter l.state _ (omega arith) c.count_if.ensures

pub returns : goal.returns
returns c =
    let l = c.loop-letter in
    let a = c.args in
    done-up a.marks.now one_more c.min-end.result l.letter _ _ (omega arith) l.invariant ∙ ap (λ (n : ℕ). with_totals a.marks.now n a.state.now) c.min-end.ensures

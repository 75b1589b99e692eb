-- The answers to the goals of `monitor::busy::shut_marked`.
use native.Mathlib.Omega.{arith}
use mathlib.Core.Path.{◌≡◌, ◌∙◌, ap}
use Prim.Native.Nat.{ℕ, ◌+◌, ◌-◌, ◌*◌, ◌/◌}
use Rattle.monitor.proofs.TickSteps.{done-to, done-one, done-up}
use Rattle.monitor.specs.Letters.{given}
use Rattle.monitor.specs.Ticks.{each_marked, shut_for}
use Rattle.monitor.proofs.busy.shut_marked.Goals as goal

pub loop-eight-init : goal.loop-eight-init
loop-eight-init c S W =
    let a = c.args in
    let e : a.from ≡ a.from + 0 = omega arith in
    ap (λ (i : ℕ). each_marked a.marks.now (shut_for (given a.tables.now S W)) (a.to - i) i a.memory.now) e

pub loop-eight-preserved : goal.loop-eight-preserved
loop-eight-preserved c S W =
    let l = c.loop-eight in
    let a = c.args in
    l.invariant S W ∙ done-to a.marks.now (shut_for (given a.tables.now S W)) 8 a.to (a.from + 8 * l.eight) (a.from + 8 * (l.eight + 1)) l.memory _ (omega arith) (omega arith) (c.shut_eight.ensures S W)

pub loop-letter-init : goal.loop-letter-init
loop-letter-init c S W =
    let l = c.loop-eight in
    let a = c.args in
    let n = c.saturating_sub-eights.result / 8 in
    let e : l.eight ≡ n = omega arith in
    l.invariant S W ∙ ap (λ (i : ℕ). each_marked a.marks.now (shut_for (given a.tables.now S W)) (a.to - (a.from + 8 * i)) (a.from + 8 * i) l.memory) e

pub loop-letter-preserved : goal.loop-letter-preserved
loop-letter-preserved c S W =
    let l = c.loop-letter in
    let a = c.args in
    l.invariant S W ∙ done-one a.marks.now (shut_for (given a.tables.now S W)) a.to l.letter l.memory _ (omega arith) (c.shut_if.ensures S W)

pub returns : goal.returns
returns c S W =
    let l = c.loop-letter in
    let a = c.args in
    done-up a.marks.now (shut_for (given a.tables.now S W)) a.to l.letter _ _ (omega arith) (l.invariant S W)

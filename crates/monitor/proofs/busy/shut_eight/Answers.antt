-- The answers to the goals of `monitor::busy::shut_eight`.
use Prim.Native.Nat.{ℕ}
use mathlib.Core.Path.{◌≡◌, ◌∙◌, ap}
use native.Mathlib.Omega.{arith}
use Rattle.monitor.proofs.TickSteps.{not-yet, and-next}
use Rattle.monitor.specs.Letters.{given}
use Rattle.monitor.specs.Ticks.{each_marked, shut_for}
use Rattle.monitor.proofs.busy.shut_eight.Goals as goal

pub loop-step-init : goal.loop-step-init
loop-step-init c S W = let a = c.args in not-yet a.marks.now (shut_for (given a.tables.now S W)) a.from a.memory.now

pub loop-step-preserved : goal.loop-step-preserved
loop-step-preserved c S W =
    let l = c.loop-step in
    let a = c.args in
    and-next a.marks.now (shut_for (given a.tables.now S W)) l.step a.from a.memory.now l.memory _ (l.invariant S W) (c.shut_if.ensures S W)

pub returns : goal.returns
returns c S W =
    let l = c.loop-step in
    let a = c.args in
    let e : l.step ≡ 8 = omega arith in
    l.invariant S W ∙ ap (λ (n : ℕ). each_marked a.marks.now (shut_for (given a.tables.now S W)) n a.from a.memory.now) e

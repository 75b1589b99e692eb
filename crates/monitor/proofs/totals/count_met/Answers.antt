-- The answers to the goals of `monitor::totals::count_met`.
use Prim.Native.Nat.{ℕ, ◌+◌, min}
use mathlib.Core.Path.{◌≡◌, ◌∙◌, ap}
use native.Mathlib.Omega.{arith}
use Rattle.monitor.proofs.TickSteps.{not-yet, and-next}
use Rattle.monitor.specs.Ticks.{if_marked, one_more, count_met}
use Rattle.monitor.proofs.totals.count_met.Goals as goal

pub loop-letter-init : goal.loop-letter-init
loop-letter-init c = let a = c.args in not-yet a.marks.now one_more 0 a.totals.now

pub loop-letter-preserved : goal.loop-letter-preserved
loop-letter-preserved c =
    let l = c.loop-letter in
    let a = c.args in
    let e : l.letter ≡ 0 + l.letter = omega arith in
    and-next a.marks.now one_more l.letter 0 a.totals.now l.totals _ l.invariant (c.count_if.ensures ∙ ap (λ (i : ℕ). if_marked a.marks.now one_more i l.totals) e)

pub returns : goal.returns
returns c =
    let l = c.loop-letter in
    let a = c.args in
    let e : l.letter ≡ min a.letters 256 = omega (arith, c.min-letter-end.ensures) in
    l.invariant ∙ ap (λ (n : ℕ). count_met a.marks.now n a.totals.now) e

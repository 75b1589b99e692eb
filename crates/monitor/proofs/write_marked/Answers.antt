-- The answers to the goals of `monitor::write_marked`.
use Prim.Native.Nat.{◌+◌, ◌-◌}
use mathlib.Core.Path.{◌∙◌}
use native.Mathlib.Omega.{arith}
use Rattle.monitor.proofs.Marked.{first_above}
use Rattle.monitor.proofs.TickSteps.{done_first, done_more, done-up}
use Rattle.monitor.specs.Letters.{given, write_letter}
use Rattle.monitor.proofs.write_marked.Goals as goal

pub loop-i-init : goal.loop-i-init
loop-i-init c S =
    let a = c.args in
    let g = given a.tables.now S a.words.now in
    done_first a.marks.now (write_letter g) a.letters a.values.now _ c.first_marked-i.ensures

pub loop-i-smaller : goal.loop-i-smaller
loop-i-smaller c =
    let l = c.loop-i in
    let a = c.args in
    let h = first_above a.marks.now (a.letters - (l.i + 1)) (l.i + 1) in
    omega (arith, h, c.first_marked-i-in-loop-i.ensures)

pub loop-i-preserved : goal.loop-i-preserved
loop-i-preserved c S =
    let l = c.loop-i in
    let a = c.args in
    let g = given a.tables.now S a.words.now in
    l.invariant S ∙ done_more a.marks.now (write_letter g) a.letters l.i l.values _ (omega arith) (c.write_if.ensures S) _ c.first_marked-i-in-loop-i.ensures

pub returns : goal.returns
returns c S =
    let l = c.loop-i in
    let a = c.args in
    done-up a.marks.now (write_letter (given a.tables.now S a.words.now)) a.letters l.i _ _ (omega arith) (l.invariant S)

-- The answers to the goals of `monitor::marks::first_marked`.
use mathlib.Core.Path.{◌≡◌, sym, ◌∙◌}
use native.Mathlib.Omega.{arith}
use Rattle.monitor.proofs.Marked.{first-here, first-none, first_past, one-alone}
use Rattle.monitor.proofs.marks.first_marked.Goals as goal

pub returns-then-marks-letter-ne0 : goal.returns-then-marks-letter-ne0
returns-then-marks-letter-ne0 c =
    let l = c.loop-letter in
    let a = c.args in
    first-here a.marks.now a.to l.letter (omega arith) c.if-marks-letter-ne0.true ∙ sym l.invariant.0

pub loop-letter-preserved : goal.loop-letter-preserved
loop-letter-preserved c =
    let l = c.loop-letter in
    let a = c.args in
    (l.invariant.0 ∙ first_past a.marks.now 1 a.to l.letter (omega arith) (one-alone a.marks.now l.letter c.if-marks-letter-ne0.false), omega arith)

pub returns : goal.returns
returns c =
    let l = c.loop-letter in
    let a = c.args in
    let e : c.max.result ≡ l.letter = omega (arith, c.max.ensures) in
    e ∙ first-none a.marks.now a.to l.letter (omega arith) ∙ sym l.invariant.0

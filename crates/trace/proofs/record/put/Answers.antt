-- The answers to the goals of `trace::record::put`.
use mathlib.Core.Path.{sym, ◌∙◌}
use native.Mathlib.Omega.{arith}
use lib.ListN.{length-set}
use Rattle.trace.proofs.Bits.{count-le}
use Rattle.trace.proofs.Writing.{putting-none, putting-byte, putting-skip, putting-done, put-below}
use Rattle.trace.proofs.record.put.Goals as goal
use Rattle.trace.proofs.record.put.Goals.{then-bit-eq1, else-bit-eq1}

pub loop-i-init : goal.loop-i-init
loop-i-init c = putting-none _ _ c.args.out.now (omega arith)

pub bounds-out-at : goal.bounds-out-at
bounds-out-at c =
    put-below _ _ _ _ _ _ c.loop-i.invariant (omega arith)
    (simp length-set c.requires) (sym c.bit.ensures ∙ c.if-bit-eq1.true)

pub overflow_add-at : goal.overflow_add-at
overflow_add-at c =
    let l = c.loop-i in
    omega (arith, l.invariant.passed, count-le l.i c.args.map)

pub loop-i-preserved : goal.loop-i-preserved
loop-i-preserved c =
    let m = c.loop-i.invariant in
    elim c.if-bit-eq1.branch [
      | then-bit-eq1 w ↦ putting-byte _ _ _ _ _ _ m (omega arith) (simp length-set c.requires) _ _ _ (sym c.bit.ensures ∙ w.if-bit-eq1.true) w.byte.ensures w.out-is w.at-is
      | else-bit-eq1 w ↦ putting-skip _ _ _ _ _ _ m (omega arith) (simp length-set c.requires) _ _ (λ h. w.if-bit-eq1.false (c.bit.ensures ∙ h)) w.out-is w.at-is
    ]

pub returns : goal.returns
returns c = putting-done _ _ _ _ _ _ c.loop-i.invariant (omega arith)

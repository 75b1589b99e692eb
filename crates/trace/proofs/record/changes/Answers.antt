-- The answers to the goals of `trace::record::changes`.
use mathlib.Core.Path.{sym, ◌∙◌, subst, refl}
use Prim.Native.Nat.{◌<◌}
use native.Mathlib.Omega.{arith}
use Rattle.trace.proofs.Writing.{changing-none, changing-differs, changing-same, changing-done, changes-lt}
use Rattle.trace.proofs.record.changes.Goals as goal
use Rattle.trace.proofs.record.changes.Goals.{then-byte, else-byte}

pub loop-i-init : goal.loop-i-init
loop-i-init c = changing-none _ _

pub overflow_add-map : goal.overflow_add-map
overflow_add-map c =
    let m = changing-differs _ _ _ _ c.loop-i.invariant (omega arith) _
    (λ h. c.if-byte.true (c.byte.ensures ∙ h ∙ sym c.byte-in-loop-i.ensures)) refl in
    record { fits = subst (λ n. n < 256) (sym m.so_far) (changes-lt _ _ _ m.within) }

pub loop-i-preserved : goal.loop-i-preserved
loop-i-preserved c =
    let m = c.loop-i.invariant in
    elim c.if-byte.branch [
      | then-byte w ↦ changing-differs _ _ _ _ m (omega arith) _ (λ h. w.if-byte.true (c.byte.ensures ∙ h ∙ sym c.byte-in-loop-i.ensures)) w.map-is
      | else-byte w ↦ changing-same _ _ _ _ m (omega arith) _ (sym c.byte.ensures ∙ w.if-byte.false ∙ c.byte-in-loop-i.ensures) w.map-is
    ]

pub returns : goal.returns
returns c = changing-done _ _ _ _ c.loop-i.invariant (omega arith)

-- The answers to the goals of `trace::record::merge`.
use mathlib.Core.Path.{sym, ◌∙◌, subst}
use Prim.Native.Nat.{◌+◌, ◌^◌, ◌<◌}
use native.Mathlib.Omega.{arith}
use Rattle.trace.proofs.Merge.{Merging, merging-none, merging-given, merging-kept, merging-idle, merging-done, at-below, merged-lt}
use Rattle.trace.proofs.record.merge.Goals as goal
use Rattle.trace.proofs.record.merge.Goals.{then-bit-eq1+else-new-old, else-bit-eq1}

pub loop-i-init : goal.loop-i-init
loop-i-init c = merging-none _ _ _

pub bounds-given-at : goal.bounds-given-at
bounds-given-at c =
    let l = c.loop-i in
    at-below _ _ _ _ _ _ l.invariant (omega arith) (sym c.bit.ensures ∙ c.if-bit-eq1.true) c.requires

pub overflow_add-at : goal.overflow_add-at
overflow_add-at c = omega (arith, (let l = c.loop-i in at-below _ _ _ _ _ _ l.invariant (omega arith) (sym c.bit.ensures ∙ c.if-bit-eq1.true) c.requires))

pub returns-then-new-old : goal.returns-then-new-old
returns-then-new-old c =
    let l = c.loop-i in
    λ n. rw (merging-idle _ _ _ _ _ _ l.invariant (omega arith) (sym c.bit.ensures ∙ c.if-bit-eq1.true)
    (c.if-new-old.true ∙ c.byte-old.ensures))

joined : (c : goal.After-at_place-word)
    → (let s = c.args in
    let l = c.loop-i in
    Merging s.given.now s.before s.map (l.word + c.at_place-word.result) c.if-bit-eq1.at (l.i + 1))
joined c =
    let m = c.loop-i.invariant in
    elim c.if-bit-eq1.branch [
      | then-bit-eq1+else-new-old w ↦ merging-given _ _ _ _ _ _ m (omega arith) _ _ _ (sym c.bit.ensures ∙ w.if-bit-eq1.true) w.new-is
          (λ h. w.if-new-old.false (sym w.new-is ∙ h ∙ sym c.byte-old.ensures)) c.at_place-word.ensures w.at-is
      | else-bit-eq1 w ↦ merging-kept _ _ _ _ _ _ m (omega arith) _ _ _ (λ h. w.if-bit-eq1.false (c.bit.ensures ∙ h))
          (w.new-is ∙ c.byte-old.ensures) c.at_place-word.ensures w.at-is
    ]

pub overflow_add-word : goal.overflow_add-word
overflow_add-word c = record { fits = subst (λ n. n < 2 ^ 64) (sym (joined c).so_far) (merged-lt _ _ _ (λ j. (c.type_inv.given j).fits) _ (joined c).within) }

pub loop-i-preserved : goal.loop-i-preserved
loop-i-preserved c = joined c

pub returns : goal.returns
returns c =
    let d = merging-done _ _ _ _ _ _ c.loop-i.invariant (omega arith) in
    λ n. rw (d.0, d.1)

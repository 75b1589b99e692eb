-- The answers to the goals of `shape::sides::met_with`.
use mathlib.Core.Path.{refl, sym, ◌∙◌}
use Prim.Native.Nat.{◌+◌, ◌-◌}
use native.Mathlib.Omega.{arith}
use Rattle.shape.specs.Sides.{rivals}
use Rattle.shape.proofs.Bits.{has_all, passing-front, passing-from, met, unmasked}
use Rattle.shape.proofs.sides.met_with.Goals as goal

pub loop-i-init : goal.loop-i-init
loop-i-init c =
    let args = c.args in
    let (from, below, beyond) = c.masks_end-end.ensures in (
      from,
      λ x l s. has_all x l
          ∙ sym (unmasked args.look.now args.want.now (c.masks_end-end.result + x) args.letter (omega (arith, beyond (omega arith)))),
    )

pub loop-i-preserved : goal.loop-i-preserved
loop-i-preserved c =
    let args = c.args in
    let at = c.loop-i in (
      (λ h. omega arith),
      passing-front (λ j. rivals args.look.now args.want.now j args.letter) _ _ _ at.invariant.1 _ (omega arith)
          (c.in_front-set.ensures.0 ∙ c.compatible.ensures
          ∙ met args.look.now args.want.now (at.i - 1) args.letter refl refl c.word_at-own_look.ensures c.word_at-own_want.ensures)
          c.in_front-set.ensures.1,
    )

pub returns : goal.returns
returns c =
    let args = c.args in
    let (from, passing) = c.loop-i.invariant in
    passing-from (λ j. rivals args.look.now args.want.now j args.letter) _ _ _ passing _ c.loop-i-test.false from

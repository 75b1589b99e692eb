-- The answers to the goals of `rules::counted::mask_of`.
use mathlib.Core.Path.{◌∙◌}
use native.Mathlib.Omega.{arith}
use Rattle.rules.proofs.Counting.{mask_start, mask_low, mask-more, mask-whole}
use Rattle.rules.proofs.PartLaws.{flag_small, as-flag}
use Rattle.rules.proofs.counted.mask_of.Goals as goal

pub loop-limit-init : goal.loop-limit-init
loop-limit-init c = rw (c.into_iter-limit-iterator.ensures.into_iter_gives, c.rev-limit-items.ensures.source, c.iter.ensures.rest) (mask_start c.args.words.now c.args.limits.now c.args.node)

pub overflow_mul-mask : goal.overflow_mul-mask
overflow_mul-mask c = let l = mask_low c.args.words.now c.args.limits.now c.args.node _ _ c.loop-limit.invariant c.requires.1 c.requires.0 in omega arith

pub overflow_add-mask : goal.overflow_add-mask
overflow_add-mask c = let l = mask_low c.args.words.now c.args.limits.now c.args.node _ _ c.loop-limit.invariant c.requires.1 c.requires.0 in let e = c.from.ensures ∙ as-flag _ in omega (arith, e, flag_small c.came_through.result)

pub loop-limit-preserved : goal.loop-limit-preserved
loop-limit-preserved c = mask-more c.args.words.now c.args.limits.now c.args.node _ _ c.loop-limit.invariant _ _ c.in-Some.ensures.steps _ c.part0.ensures _ c.came_through.ensures _ (c.from.ensures ∙ as-flag _)

pub overflow_cast-result : goal.overflow_cast-result
overflow_cast-result c = let l = mask_low c.args.words.now c.args.limits.now c.args.node _ _ c.loop-limit.invariant c.requires.1 c.requires.0 in omega arith

pub returns : goal.returns
returns c = mask-whole c.args.words.now c.args.limits.now c.args.node _ _ c.loop-limit.invariant c.in-None.ensures.steps.0

-- The answers to the goals of `rules::counted::came_through`.
use native.Mathlib.Omega.{arith}
use mathlib.Core.Path.{sym, ◌∙◌}
use mathlib.Core.Bool.{true}
use Rattle.meaning.specs.Lists.{member}
use Rattle.rules.proofs.Placing.{below-start, below-inside, none_left, below-falls, below_next, found-last}
use Rattle.rules.proofs.Counting.{member-first, member-other}
use Rattle.rules.proofs.counted.came_through.Goals as goal

pub loop-head-init : goal.loop-head-init
loop-head-init c = below-start (member c.args.number) _ _

pub offset_bounds-words-at : goal.offset_bounds-words-at
offset_bounds-words-at c = let l = below-inside (member c.args.number) _ _ _ c.loop-head.invariant c.requires in omega arith

pub bounds-words-at : goal.bounds-words-at
bounds-words-at c = below-inside (member c.args.number) _ _ _ c.loop-head.invariant c.requires

pub offset_bounds-words-at-in-loop-head : goal.offset_bounds-words-at-in-loop-head
offset_bounds-words-at-in-loop-head c = let l = below-inside (member c.args.number) _ _ _ c.loop-head.invariant c.requires in omega arith

pub bounds-words-at-in-loop-head : goal.bounds-words-at-in-loop-head
bounds-words-at-in-loop-head c = below-inside (member c.args.number) _ _ _ c.loop-head.invariant c.requires

pub returns-then-part2-number : goal.returns-then-part2-number
returns-then-part2-number c = found-last (member c.args.number) _ _ _ c.loop-head.invariant (sym c.part0.ensures ∙ c.loop-head-test.true ∙ c.number.ensures) true (member-first _ _ (sym c.part2.ensures ∙ c.if-part2-number.true))

pub loop-head-smaller : goal.loop-head-smaller
loop-head-smaller c = let l = below-falls (member c.args.number) _ _ _ c.loop-head.invariant (sym c.part0.ensures ∙ c.loop-head-test.true ∙ c.number.ensures) c.requires in omega (arith, c.part1-at.ensures)

pub loop-head-preserved : goal.loop-head-preserved
loop-head-preserved c = rw c.part1-at.ensures (below_next (member c.args.number) _ _ _ c.loop-head.invariant (sym c.part0.ensures ∙ c.loop-head-test.true ∙ c.number.ensures) (member-other _ _ (λ z. c.if-part2-number.false (c.part2.ensures ∙ z))))

pub returns : goal.returns
returns c = λ b x s. sym (none_left (member c.args.number) _ _ _ c.loop-head.invariant (λ z. c.loop-head-test.false (c.part0.ensures ∙ z ∙ sym c.number.ensures)) b x s)

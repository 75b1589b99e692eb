-- `rules::counted::count_letters` meets its contract. The measure is the node: an operand's node stands before its operator's.
-- Assumes nothing.
use native.Mathlib.Omega.{arith}
use mathlib.Core.Path.{sym, ◌∙◌}
use Rattle.rules.proofs.Counting.{letters-inside, letters-room, one-letter, letter-counts, first-letters, star-counts, second-letters, two-counts}
use Rattle.rules.proofs.counted.+count_letters.Goals as goal

pub offset_bounds-words-node : goal.offset_bounds-words-node
offset_bounds-words-node t c = let l = letters-inside _ _ _ c.requires.0 in omega arith

pub bounds-words-node : goal.bounds-words-node
bounds-words-node t c = letters-inside _ _ _ c.requires.0

pub mask_of-requires : goal.mask_of-requires
mask_of-requires t c = (one-letter _ c.args.limits.now _ _ _ c.part0-k.ensures (sym c.is_letter.ensures ∙ c.if-is_letter.true) c.requires.0, c.requires.1)

pub bounds-counted-letter : goal.bounds-counted-letter
bounds-counted-letter t c = letters-room _ _ _ c.requires.0

pub overflow_add-result : goal.overflow_add-result
overflow_add-result t c = let l = letters-room _ _ _ c.requires.0 in omega arith

pub returns-then-is_letter : goal.returns-then-is_letter
returns-then-is_letter t c = letter-counts _ _ _ _ _ c.part0-k.ensures (sym c.is_letter.ensures ∙ c.if-is_letter.true) _ c.mask_of.ensures _

pub count_letters-next-requires : goal.count_letters-next-requires
count_letters-next-requires t c = let (l, x) = first-letters _ c.args.limits.now _ _ _ _ c.part0-k.ensures c.part1.ensures (sym c.is_letter.ensures ∙ c.if-is_letter.false) c.requires.0 in (omega (arith, c.decreases), (x, c.requires.1))

pub returns-then-k-number : goal.returns-then-k-number
returns-then-k-number t c = star-counts _ _ _ _ _ _ c.part0-k.ensures c.part1.ensures (c.if-k-number.true ∙ c.number.ensures) _ _ _ c.count_letters-next.ensures

pub count_letters-requires : goal.count_letters-requires
count_letters-requires t c = let (l, x) = second-letters _ _ _ _ _ _ _ c.part0-k.ensures c.part1.ensures c.part2.ensures (sym c.is_letter.ensures ∙ c.if-is_letter.false) (λ z. c.if-k-number.false (z ∙ sym c.number.ensures)) _ _ _ c.count_letters-next.ensures c.requires.0 in (omega (arith, c.decreases), (x, c.requires.1))

pub returns : goal.returns
returns t c = two-counts _ _ _ _ _ _ _ c.part0-k.ensures c.part1.ensures c.part2.ensures (sym c.is_letter.ensures ∙ c.if-is_letter.false) (λ z. c.if-k-number.false (z ∙ sym c.number.ensures)) _ _ _ c.count_letters-next.ensures _ _ c.count_letters.ensures

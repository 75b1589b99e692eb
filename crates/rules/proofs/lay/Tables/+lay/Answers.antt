-- `rules::lay::Tables::lay` meets its contract. The measure is the node: an operand's node stands before its operator's.
-- Assumes nothing.
use native.Mathlib.Omega.{arith}
use mathlib.Core.Path.{sym, ◌∙◌}
use Rattle.rules.proofs.Placing.{node-inside, first-room, some-letter, letter-lays, some_first, star-laid, second-laid, two-laid}
use Rattle.rules.proofs.lay.Tables.+lay.Goals as goal

pub offset_bounds-words-node : goal.offset_bounds-words-node
offset_bounds-words-node t c = let l = node-inside _ _ _ _ c.requires in omega arith

pub bounds-words-node : goal.bounds-words-node
bounds-words-node t c = node-inside _ _ _ _ c.requires

pub put_letter-requires : goal.put_letter-requires
put_letter-requires t c = ((first-room _ _ _ _ c.requires).1, some-letter _ _ _ _ _ c.part0-k.ensures (sym c.is_letter.ensures ∙ c.if-is_letter.true) c.requires)

pub put_row-requires : goal.put_row-requires
put_row-requires t c = (first-room _ _ _ _ c.requires).0

pub overflow_add-result : goal.overflow_add-result
overflow_add-result t c = let x = (first-room _ _ _ _ c.requires).0 in omega arith

pub overflow_add-result-then-is_letter : goal.overflow_add-result-then-is_letter
overflow_add-result-then-is_letter t c = let x = (first-room _ _ _ _ c.requires).1 in omega arith

pub returns-then-is_letter : goal.returns-then-is_letter
returns-then-is_letter t c = letter-lays _ _ _ _ _ c.part0-k.ensures (sym c.is_letter.ensures ∙ c.if-is_letter.true) _ _ _ _ c.put_letter.ensures (rw c.number.ensures at c.put_row.ensures)

pub overflow_add-row : goal.overflow_add-row
overflow_add-row t c = let x = (first-room _ _ _ _ c.requires).0 in omega arith

pub lay-first-requires : goal.lay-first-requires
lay-first-requires t c = let (l, x) = some_first _ _ _ _ _ _ c.part0-k.ensures c.part1.ensures (sym c.is_letter.ensures ∙ c.if-is_letter.false) c.requires in (omega (arith, c.decreases), x)

pub overflow_add-row-then-k-number : goal.overflow_add-row-then-k-number
overflow_add-row-then-k-number t c = let x = (first-room _ _ _ _ c.requires).0 in omega arith

pub put_row-requires-then-k-number : goal.put_row-requires-then-k-number
put_row-requires-then-k-number t c = (first-room _ _ _ _ c.requires).0

pub returns-then-k-number : goal.returns-then-k-number
returns-then-k-number t c = star-laid _ _ _ _ _ _ c.part0-k.ensures c.part1.ensures (c.if-k-number.true ∙ c.number-2.ensures) _ _ _ _ _ c.lay-first.ensures (rw c.number-then-k-number.ensures at c.put_row-then-k-number.ensures)

pub lay-second-requires : goal.lay-second-requires
lay-second-requires t c = let w = second-laid _ _ _ _ _ _ _ c.part0-k.ensures c.part1.ensures c.part2.ensures (sym c.is_letter.ensures ∙ c.if-is_letter.false) (λ z. c.if-k-number.false (z ∙ sym c.number-2.ensures)) _ _ _ c.lay-first.ensures c.requires in (omega (arith, c.decreases, w.falls), w.stands)

pub overflow_add-row-2 : goal.overflow_add-row-2
overflow_add-row-2 t c = let x = (first-room _ _ _ _ c.requires).0 in omega arith

pub put_row-requires-2 : goal.put_row-requires-2
put_row-requires-2 t c = (first-room _ _ _ _ c.requires).0

pub returns : goal.returns
returns t c = two-laid _ _ _ _ _ _ _ c.part0-k.ensures c.part1.ensures c.part2.ensures (sym c.is_letter.ensures ∙ c.if-is_letter.false) (λ z. c.if-k-number.false (z ∙ sym c.number-2.ensures)) _ _ _ c.lay-first.ensures _ _ _ _ c.lay-second.ensures c.put_row-2.ensures

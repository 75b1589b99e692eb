-- `rules::lay::link_word` meets its contract.
-- Assumes nothing.
use mathlib.Core.Path.{sym, ◌∙◌}
use Rattle.rules.proofs.Slots.{number-alone, wires-alone}
use Rattle.rules.proofs.lay.link_word.Goals as goal

pub returns-then-part2-eq0 : goal.returns-then-part2-eq0
returns-then-part2-eq0 c = c.quad.ensures ∙ rw c.part0-store.ensures (number-alone _ _ _ (sym c.part2.ensures ∙ c.if-part2-eq0.true))

pub returns : goal.returns
returns c = c.quad-2.ensures ∙ rw (c.part0-store.ensures, c.part1.ensures) (wires-alone _ _ _ (λ z. c.if-part2-eq0.false (c.part2.ensures ∙ z)))

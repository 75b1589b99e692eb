-- `rules::literals::store_name` meets its contract.
-- Assumes nothing.
use native.Mathlib.Omega.{arith}
use Rattle.rules.proofs.Stepping.{well, past-place, inside-text}
use Rattle.rules.proofs.LiteralSteps.{given-on, test-inside, test-crowded, test_read}
use Rattle.rules.proofs.literals.store_name.Goals as goal

pub returns-then-most-q : goal.returns-then-most-q
returns-then-most-q c = rw (c.refused.ensures.0, c.refused.ensures.1) ((λ n w s. test-crowded _ _ _ _ _ _ c.requires.2.1 c.requires.3 _ _ 0 c.requires.0 c.if-most-q.true n w, λ e h z. absurd (omega arith)))

pub store_literal-requires : goal.store_literal-requires
store_literal-requires c =
    let (l, a, b, d) = test-inside _ _ _ _ _ _ c.requires.2.1 c.requires.3 _ 0 _ c.requires.0 _ _ c.requires.1.2 in
    let p = past-place _ _ _ c.requires.2.1 c.requires.3 in
    (given-on c.requires.0 (omega arith) (inside-text _ _ _ c.requires.2.1).1, rw c.part0.ensures a, rw c.part1.ensures b, rw c.part1.ensures d)

pub returns : goal.returns
returns c = (test_read _ _ _ _ _ _ c.requires.2.1 c.requires.3 _ _ _ c.requires.0 c.if-most-q.false _ _ c.part0.ensures c.part1.ensures _ _ (c.store_literal.ensures _ c.if-most-q.false), λ e h z. let s = (well (c.store_literal.ensures _ c.if-most-q.false).outcome z).spent in s.few)

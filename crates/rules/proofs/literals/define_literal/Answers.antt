-- `rules::literals::define_literal` meets its contract.
-- Assumes nothing.
use native.Mathlib.Omega.{arith}
use Rattle.rules.proofs.LiteralSteps.{define-tests, define-crowded, define-read, link-room}
use mathlib.Core.Path.{refl}
use Rattle.rules.proofs.Stepping.{past-place, inside-text}
use Rattle.rules.proofs.literals.define_literal.Goals as goal

pub returns-then-most-q : goal.returns-then-most-q
returns-then-most-q c = rw (c.refused.ensures.0, c.refused.ensures.1) ((λ ds d. define-crowded _ _ _ _ _ _ c.requires.2.1 c.requires.3 _ _ _ c.requires.0 _ c.part1-tests.ensures ds d c.if-most-q.true, λ e h z. absurd (omega arith)))

pub with_links-l-requires : goal.with_links-l-requires
with_links-l-requires c =
    let (a, b, e, d) = link-room c.requires.0 _ (past-place _ _ _ c.requires.2.1 c.requires.3) (inside-text _ _ _ c.requires.2.1).1 in
    (a, b, e, d, (_, define-tests _ _ _ _ _ _ c.requires.2.1 c.requires.3 _ 0 _ c.requires.0 _ c.requires.1.1 _ _ c.part1-tests.ensures c.part2.ensures))

pub join_held-h-requires : goal.join_held-h-requires
join_held-h-requires c =
    let (ls, k) = c.requires.0.condition in
    let l = c.with_links-l.ensures in
    let p = past-place _ _ _ c.requires.2.1 c.requires.3 in
    let i = (inside-text _ _ _ c.requires.2.1).1 in (
      omega (arith, l.few, l.extends.long, c.requires.0.room.fits, p, i),
      omega (arith, k.helds.low, l.extends.more),
      omega (arith, c.part3.ensures, c.requires.1.1.helds.low, l.extends.more),
    )

pub returns : goal.returns
returns c = (λ ds d. define-read _ _ _ _ _ _ c.requires.2.1 c.requires.3 _ _ _ c.requires.0 _ c.part1-tests.ensures ds d c.if-most-q.false _ _ _ _ _ _ _ _ _ _ c.part2.ensures c.part0.ensures refl refl refl c.both-joined.ensures c.with_links-l.ensures _ _ _ _ c.part3.ensures c.join_held-h.ensures, λ e h z. omega (arith, c.with_links-l.ensures.shared e, c.join_held-h.ensures.shared h))

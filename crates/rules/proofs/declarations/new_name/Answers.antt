-- `rules::declarations::new_name` meets its contract.
-- Assumes nothing.
use borrow.Author.Rules.{rules}
use Rattle.rules.proofs.Stepping.{inside-text}
use Rattle.rules.proofs.Picking.{finds-cell, was-found, not-found}
use Rattle.rules.proofs.NewNames.{new_none, new-known, new-wireless, new-full, new-crowded, new-read}
use Rattle.rules.proofs.declarations.new_name.Goals as goal
use Rattle.rules.proofs.declarations.new_name.Goals.{then-full-via-then-full, then-full-via-else-full+then-scope-ge128}

pub returns-then-ne : goal.returns-then-ne
returns-then-ne c = rw (c.misplaced.ensures.0, c.misplaced.ensures.1) (new_none _ _ _ _ _ _ _ c.see-t.ensures (search rules) _)

pub find-requires : goal.find-requires
find-requires c = let i = inside-text _ _ _ c.see-t.ensures in (i.0, i.1, c.requires)

pub returns-then-is_some : goal.returns-then-is_some
returns-then-is_some c = rw (c.refused.ensures.0, c.refused.ensures.1) (new-known _ _ _ _ _ _ _ c.see-t.ensures (search rules) _ (finds-cell _ _ _ _ _ c.find.ensures) (was-found _ _ _ _ _ c.find.ensures c.if-is_some.ensures) _)

pub returns-then-wireless : goal.returns-then-wireless
returns-then-wireless c = rw (c.refused-then-wireless.ensures.0, c.refused-then-wireless.ensures.1) (new-wireless _ _ _ _ _ _ _ c.see-t.ensures (search rules) _ (finds-cell _ _ _ _ _ c.find.ensures) (not-found _ c.if-is_some.ensures) c.if-wireless.true _)

pub returns-then-full : goal.returns-then-full
returns-then-full c = rw (c.refused-then-full.ensures.0, c.refused-then-full.ensures.1) (elim c.then-full.branch [
  | then-full-via-then-full w ↦ new-full _ _ _ _ _ _ _ c.see-t.ensures (search rules) _ (finds-cell _ _ _ _ _ c.find.ensures) (not-found _ c.if-is_some.ensures) c.if-wireless.false w.if-full.true _
  | then-full-via-else-full+then-scope-ge128 w ↦ new-crowded _ _ _ _ _ _ _ c.see-t.ensures (search rules) _ (finds-cell _ _ _ _ _ c.find.ensures) (not-found _ c.if-is_some.ensures) c.if-wireless.false w.if-full.false w.if-scope-ge128.true _
])

pub returns : goal.returns
returns c = new-read _ _ _ _ _ _ _ c.see-t.ensures (search rules) _ (finds-cell _ _ _ _ _ c.find.ensures) (not-found _ c.if-is_some.ensures) c.if-wireless.false c.if-full.false c.if-scope-ge128.false

-- `rules::lay::Tables::put_links` meets its contract.
-- Assumes nothing.
use borrow.Author.Rules.{rules}
use Rattle.rules.proofs.Slots.{some-slot, no-links, behind-slot, one-stored, both_stored}
use Rattle.rules.proofs.lay.Tables.put_links.Goals as goal

pub put_two-requires : goal.put_two-requires
put_two-requires c = (search rules, some-slot _ _ c.requires.1, no-links _ _ c.requires.1)

pub returns-then-next-eq0 : goal.returns-then-next-eq0
returns-then-next-eq0 c = one-stored _ _ _ _ _ _ c.behind-next.ensures c.if-next-eq0.true c.put_two.ensures

pub put_two-requires-2 : goal.put_two-requires-2
put_two-requires-2 c = (search rules, behind-slot _ _ _ c.requires.1 c.behind-next.ensures, some-slot _ _ c.requires.1)

pub returns : goal.returns
returns c = both_stored _ _ _ _ _ _ c.behind-next.ensures c.if-next-eq0.false c.put_two-2.ensures

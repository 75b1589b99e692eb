-- `rules::literals::with_link` meets its contract.
-- Assumes nothing.
use native.Mathlib.Omega.{arith}
use Rattle.rules.proofs.Put.{link-counted, link-put}
use lib.ListN.{length-set}
use Rattle.rules.proofs.literals.with_link.Goals as goal

pub returns-then-tests-ge2 : goal.returns-then-tests-ge2
returns-then-tests-ge2 c = link-counted _ _ _ _ _ _ _ _ c.requires.0 c.requires.1 c.requires.2 c.requires.3 c.if-tests-ge2.true

pub bounds-words-free-2 : goal.bounds-words-free-2
bounds-words-free-2 c = simp length-set (omega arith)

pub returns : goal.returns
returns c = rw c.quad.ensures (link-put _ _ _ _ _ _ _ _ c.requires.0 c.requires.1 c.requires.2 c.requires.3 (λ l. omega arith) c.requires.4 c.requires.5 c.requires.6)

-- `rules::parts::join` meets its contract.
-- Assumes nothing.
use native.Mathlib.Omega.{arith}
use Rattle.rules.proofs.Summing.{is-operator}
use Rattle.rules.proofs.PartLaws.{within, option-some, join-none, join-some}
use Rattle.rules.proofs.parts.join.Goals as goal

pub returns-in_default : goal.returns-in_default
returns-in_default c = rw c.in_default.is (join-none _ _ _ _)

pub bounds-words-free : goal.bounds-words-free
bounds-words-free c = let p = rw c.in-Some.is at c.requires.0 in omega arith

pub two-requires : goal.two-requires
two-requires c = (within (option-some _ _ _ (rw c.in-Some.is at c.requires.2)).1, within c.requires.3.1)

pub returns : goal.returns
returns c = rw (c.in-Some.is, c.quad.ensures, c.number.ensures) (join-some _ _ _ _ _ (rw c.in-Some.is at c.requires.0) c.requires.1 (is-operator c.args.operator) (option-some _ _ _ (rw c.in-Some.is at c.requires.2)).1.low c.requires.3.1.low _ c.two.ensures)

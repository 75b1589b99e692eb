-- `rules::definitions::write_production` meets its contract.
-- Assumes nothing.
use native.Mathlib.Omega.{arith}
use lib.ListN.{length-set}
use mathlib.Core.Path.{◌∙◌}
use Rattle.rules.proofs.PartLaws.{as-flag}
use Rattle.rules.proofs.Bodies.{production-put}
use Rattle.rules.proofs.definitions.write_production.Goals as goal

pub bounds-words-free-2 : goal.bounds-words-free-2
bounds-words-free-2 c = simp length-set (omega arith)

pub bounds-words-free-3 : goal.bounds-words-free-3
bounds-words-free-3 c = simp length-set (omega arith)

pub returns : goal.returns
returns c = rw (c.quad.ensures, c.quad-2.ensures, c.quad-3.ensures, c.number.ensures) (production-put _ _ _ _ _ c.requires.1 c.requires.2 c.requires.3 c.requires.4 _ c.requires.0 c.requires.5 _ (c.from.ensures ∙ as-flag _))

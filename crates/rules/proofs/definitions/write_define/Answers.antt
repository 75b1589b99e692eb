-- `rules::definitions::write_define` meets its contract.
-- Assumes nothing.
use native.Mathlib.Omega.{arith}
use lib.ListN.{length-set}
use mathlib.Core.Path.{◌∙◌}
use Rattle.rules.proofs.PartLaws.{as-flag}
use Rattle.rules.proofs.Bodies.{define-put}
use Rattle.rules.proofs.definitions.write_define.Goals as goal

pub bounds-words-free-2 : goal.bounds-words-free-2
bounds-words-free-2 c = simp length-set (omega arith)

pub bounds-words-free-3 : goal.bounds-words-free-3
bounds-words-free-3 c = simp length-set (omega arith)

pub bounds-words-free-4 : goal.bounds-words-free-4
bounds-words-free-4 c = simp length-set (omega arith)

pub returns : goal.returns
returns c = rw (c.quad.ensures, c.quad-2.ensures, c.number.ensures) (define-put _ _ _ _ _ c.requires.1 c.requires.2 c.requires.3 c.requires.4 _ c.requires.0 c.requires.5 _ (c.from.ensures ∙ as-flag _))

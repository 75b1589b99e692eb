-- `rules::parts::letter_part` meets its contract.
-- Assumes nothing.
use native.Mathlib.Omega.{arith}
use lib.ListN.{length-set}
use Rattle.rules.proofs.PartLaws.{letter-made}
use Rattle.rules.proofs.parts.letter_part.Goals as goal

pub bounds-words-free-2 : goal.bounds-words-free-2
bounds-words-free-2 c = simp length-set (omega arith)

pub bounds-words-free-3 : goal.bounds-words-free-3
bounds-words-free-3 c = simp length-set (omega arith)

pub returns : goal.returns
returns c = rw (c.quad.ensures, c.number.ensures) (letter-made _ _ _ _ c.requires.0 c.requires.1 c.requires.2 c.requires.3 c.requires.4 _ c.impossible_letter.ensures)

-- `rules::declarations::write_name` meets its contract.
-- Assumes nothing.
use native.Mathlib.Omega.{arith}
use lib.ListN.{length-set}
use Rattle.rules.proofs.Declaring.{name-small, put-name}
use Rattle.rules.proofs.declarations.write_name.Goals as goal

pub bounds-words-free-2 : goal.bounds-words-free-2
bounds-words-free-2 c = simp length-set (omega arith)

pub returns : goal.returns
returns c = rw (c.quad.ensures, c.quad-2.ensures, c.number.ensures) (put-name _ _ _ _ _ _ _ _ c.requires.0 (name-small c.args.kind) c.requires.1 c.requires.2 c.requires.3 c.requires.4 c.requires.5)

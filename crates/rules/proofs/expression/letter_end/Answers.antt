-- `rules::expression::letter_end` meets its contract.
-- Assumes nothing.
use borrow.Author.Rules.{rules}
use mathlib.Core.Path.{refl}
use Rattle.rules.proofs.Misreads.{exit, some}
use Rattle.rules.proofs.LetterSteps.{own_room, letter-bare, writes-given, letter-fails, written-room, letter-written}
use Rattle.rules.proofs.expression.letter_end.Goals as goal

pub put_letter-requires : goal.put_letter-requires
put_letter-requires c = own_room _ _ _ _ _ _ _ c.see-t.ensures c.requires

pub returns-then-ne : goal.returns-then-ne
returns-then-ne c = letter-bare _ _ _ _ _ _ _ c.see-t.ensures c.requires (search rules) _ _ refl c.put_letter.ensures.0 c.put_letter.ensures.1

pub writes-requires : goal.writes-requires
writes-requires c = writes-given _ _ _ _ _ _ _ c.see-t.ensures c.requires (search rules)

pub returns-in_err-w : goal.returns-in_err-w
returns-in_err-w c = rw (exit _ c.from_residual.ensures.1) (letter-fails _ _ _ _ _ _ _ c.see-t.ensures c.requires (search rules) _ _ _ _ _ _ c.in_err-w.ensures (some _) _ _)

pub put_letter-requires-2 : goal.put_letter-requires-2
put_letter-requires-2 c = written-room _ _ _ _ _ _ _ c.see-t.ensures c.requires (search rules) _ _ _ _ _ _ c.in_ok-w.ensures refl

pub returns : goal.returns
returns c = letter-written _ _ _ _ _ _ _ c.see-t.ensures c.requires (search rules) _ _ _ _ _ _ c.in_ok-w.ensures refl _ _ refl c.put_letter-2.ensures.0 c.put_letter-2.ensures.1

-- `rules::statements::read` meets its contract.
-- Assumes nothing.
use native.Mathlib.Omega.{arith}
use mathlib.Core.Path.{refl}
use Rattle.rules.proofs.Misreads.{exit}
use Rattle.rules.proofs.StatementSteps.{text-refused, text-names, text-ok, text-unread}
use Rattle.rules.proofs.statements.read.Goals as goal

pub statements-requires : goal.statements-requires
statements-requires c = (c.requires.0, c.requires.1, c.requires.2, c.requires.3)

pub shape_of-words-in_err-d : goal.shape_of-words-in_err-d
shape_of-words-in_err-d c = c.in_err-d.ensures.words

pub returns-in_err-d : goal.returns-in_err-d
returns-in_err-d c = rw (exit _ c.from_residual.ensures.1) (text-refused _ _ _ _ _ _ c.in_err-d.ensures _, c.in_err-d.ensures.words, c.in_err-d.ensures.values, refl)

pub monitors-requires : goal.monitors-requires
monitors-requires c = (text-names _ _ _ _ c.in_ok-d.ensures.outcome, let l = c.requires.2 in omega (arith, c.in_ok-d.ensures.words), c.requires.4)

pub shape_of-words-in_err-m : goal.shape_of-words-in_err-m
shape_of-words-in_err-m c = c.in_ok-d.ensures.words

pub returns-in_err-m : goal.returns-in_err-m
returns-in_err-m c =
    rw (exit _ c.from_residual-in_err-m.ensures.1) (text-unread _ _ _ _ c.in_ok-d.ensures.outcome _ _ _ _ c.in_err-m.ensures.0, c.in_ok-d.ensures.words, c.in_ok-d.ensures.values, c.in_err-m.ensures.1)

pub shape_of-words : goal.shape_of-words
shape_of-words c = c.in_ok-d.ensures.words

pub returns : goal.returns
returns c = (text-ok _ _ _ _ c.in_ok-d.ensures.outcome _ _ _ c.in_ok-m.ensures.0, c.in_ok-d.ensures.words, c.in_ok-d.ensures.values, c.in_ok-m.ensures.1)

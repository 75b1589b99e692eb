-- `rules::statements::monitors` meets its contract.
-- Assumes nothing.
use borrow.Author.Rules.{rules}
use mathlib.Core.Path.{refl}
use Rattle.rules.proofs.Misreads.{exit, some}
use Rattle.rules.proofs.MonitorSteps.{monitors-refused, monitors-unended, monitors-read}
use Rattle.rules.proofs.statements.monitors.Goals as goal

pub all_monitors-requires : goal.all_monitors-requires
all_monitors-requires c = (c.requires.0, c.requires.1, c.requires.2)

pub returns-in_err-m : goal.returns-in_err-m
returns-in_err-m c = rw (exit _ c.from_residual.ensures.1) ((monitors-refused _ _ _ _ _ _ _ _ c.in_err-m.ensures.0 (some _), c.in_err-m.ensures.1))

pub returns-then-ne : goal.returns-then-ne
returns-then-ne c = rw (c.misplaced.ensures.0, c.misplaced.ensures.1) ((monitors-unended _ _ _ _ _ _ _ _ c.in_ok-m.ensures.0 refl _ c.see-t.ensures (search rules) _, c.in_ok-m.ensures.1))

pub returns : goal.returns
returns c = (monitors-read _ _ _ _ _ _ _ _ c.in_ok-m.ensures.0 refl _ c.see-t.ensures (search rules), c.in_ok-m.ensures.1)

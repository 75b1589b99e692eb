-- `monitor::busy::shut_code` meets its contract.
-- Assumes nothing.
use mathlib.Core.Path.{sym}
use lib.Dec.{eqb}
use borrow.Author.Tests.{eq-eqb, ne_eqb}
use Rattle.lexer.proofs.Bools.{taken, left}
use Rattle.monitor.proofs.busy.shut_code.Goals as goal

pub returns-then-row-eq0 : goal.returns-then-row-eq0
returns-then-row-eq0 c = let a = c.args in sym (taken (eqb a.row 0) a.known 1 (eq-eqb a.row 0 c.if-row-eq0.true))

pub returns : goal.returns
returns c = let a = c.args in sym (left (eqb a.row 0) a.known 1 (ne_eqb a.row 0 c.if-row-eq0.false))

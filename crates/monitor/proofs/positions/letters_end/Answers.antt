-- `monitor::positions::letters_end` meets its contract.
-- Assumes nothing.
use borrow.Author.Rules.{rules}
use native.Mathlib.Omega.{arith}
use Rattle.monitor.proofs.TickSteps.{ends_by}
use Rattle.monitor.proofs.positions.letters_end.Goals as goal

pub offset_bounds-firsts-next_of : goal.offset_bounds-firsts-next_of
offset_bounds-firsts-next_of c = let e = c.next_of.ensures in search rules

pub bounds-firsts-next_of : goal.bounds-firsts-next_of
bounds-firsts-next_of c = let e = c.next_of.ensures in omega arith

pub returns : goal.returns
returns c =
    let a = c.args in
    (ends_by a.monitors a.letters a.monitor _ _ a.firsts.now _ c.next_of.ensures c.from.ensures c.end_by.ensures.0, c.end_by.ensures.1)

-- `monitor::look` meets its contract.
-- Assumes nothing.
use mathlib.Core.Path.{refl}
use Rattle.monitor.specs.Calls.{state_of}
use Rattle.monitor.proofs.TickSteps.{refusal-told, laid-peek, look-refused, look-bad, look-ok}
use Rattle.monitor.proofs.look.Goals as goal

pub returns-in-Some : goal.returns-in-Some
returns-in-Some c = look-refused _ _ _ c.in-Some.ensures (refusal-told _)

pub returns-then-is_bad : goal.returns-then-is_bad
returns-then-is_bad c =
    let a = c.args in
    let s = laid-peek a.watch _ _ c.tables_of-tables.ensures c.layout_of_watch-layout.ensures (state_of a.watch).inner a.word _ c.peek_in-answer.ensures in
    look-bad a.watch a.word 0 c.in_default.ensures refl _ s _ c.is_bad.ensures c.if-is_bad.true

pub returns : goal.returns
returns c =
    let a = c.args in
    let s = laid-peek a.watch _ _ c.tables_of-tables.ensures c.layout_of_watch-layout.ensures (state_of a.watch).inner a.word _ c.peek_in-answer.ensures in
    look-ok a.watch a.word 0 c.in_default.ensures refl _ s _ c.is_bad.ensures c.if-is_bad.false

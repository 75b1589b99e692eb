-- Asking and leaving a row: `ask` and `leave` of `monitor::walk` meet their contracts. The measure is the count of steps left.
-- Assumes nothing.
use Rattle.monitor.proofs.WalkSteps.{ask-blocked, ask-met, ask-passed, ask-spent, leave-far, leave-lost, leave_own, leave-spent, kind-told, thread-blocked, thread-starts, to-alternative, to_end, to-ended, to-letter, to-unknown, to-right, to-star}
use mathlib.Core.List.{[]}
use mathlib.Core.Path.{◌≡◌}
use Prim.Native.Nat.{◌<◌}
use Rattle.words.specs.declared.rows.RowKind.TheVariants.{Letter, Sequence, Alternative, Star, Pipe}
use Rattle.words.specs.Words.{part0}
use lib.ListN.{get_or}
use Rattle.monitor.proofs.walk.+ask_leave.Goals as goal

pub ask-returns-then-steps-eq0 : goal.ask-returns-then-steps-eq0
ask-returns-then-steps-eq0 t c = search ask-spent

pub ask-returns-then-code-eq-MET : goal.ask-returns-then-code-eq-MET
ask-returns-then-code-eq-MET t c = search ask-met

pub ask-returns-then-code-ne-PASSED : goal.ask-returns-then-code-ne-PASSED
ask-returns-then-code-ne-PASSED t c = search ask-blocked

pub ask-returns : goal.ask-returns
ask-returns t c = search ask-passed

pub leave-returns-then-steps-eq0 : goal.leave-returns-then-steps-eq0
leave-returns-then-steps-eq0 t c = search leave-spent

pub leave-returns-then-row-ge1024 : goal.leave-returns-then-row-ge1024
leave-returns-then-row-ge1024 t c = search leave-far

pub leave-returns-then-above-row : goal.leave-returns-then-above-row
leave-returns-then-above-row t c = search leave_own

pub leave-returns-then-above-ge1024 : goal.leave-returns-then-above-ge1024
leave-returns-then-above-ge1024 t c = search leave-lost

pub leave-returns-then-part1-row : goal.leave-returns-then-part1-row
leave-returns-then-part1-row t c =
    let k : part0 (get_or (get_or c.args.tick.now.tables.now 0 []) c.part3-above.result 0) ≡ 1 = kind-told _ Sequence _ c.in-Some-Sequence.ensures c.in-Some-Sequence.field-0-is in
    search to-right

pub leave-returns-else-part1-row : goal.leave-returns-else-part1-row
leave-returns-else-part1-row t c =
    let k : part0 (get_or (get_or c.args.tick.now.tables.now 0 []) c.part3-above.result 0) ≡ 1 = kind-told _ Sequence _ c.in-Some-Sequence.ensures c.in-Some-Sequence.field-0-is in
    search to_end

pub leave-returns-in-Some-Alternative : goal.leave-returns-in-Some-Alternative
leave-returns-in-Some-Alternative t c =
    let k : part0 (get_or (get_or c.args.tick.now.tables.now 0 []) c.part3-above.result 0) ≡ 2 = kind-told _ Alternative _ c.in-Some-Alternative.ensures c.in-Some-Alternative.field-0-is in
    search to-alternative

pub leave-returns-in-Some-Star : goal.leave-returns-in-Some-Star
leave-returns-in-Some-Star t c =
    let k : part0 (get_or (get_or c.args.tick.now.tables.now 0 []) c.part3-above.result 0) ≡ 3 = kind-told _ Star _ c.in-Some-Star.ensures c.in-Some-Star.field-0-is in
    search to-star

pub leave-returns-then-part1-row-2 : goal.leave-returns-then-part1-row-2
leave-returns-then-part1-row-2 t c =
    let k : part0 (get_or (get_or c.args.tick.now.tables.now 0 []) c.part3-above.result 0) ≡ 4 = kind-told _ Pipe _ c.in-Some-Pipe.ensures c.in-Some-Pipe.field-0-is in
    search to-ended

pub leave-returns-then-thread-eq-BLOCKED : goal.leave-returns-then-thread-eq-BLOCKED
leave-returns-then-thread-eq-BLOCKED t c =
    let k : part0 (get_or (get_or c.args.tick.now.tables.now 0 []) c.part3-above.result 0) ≡ 4 = kind-told _ Pipe _ c.in-Some-Pipe.ensures c.in-Some-Pipe.field-0-is in
    search thread-blocked

pub leave-returns-else-thread-eq-BLOCKED : goal.leave-returns-else-thread-eq-BLOCKED
leave-returns-else-thread-eq-BLOCKED t c =
    let k : part0 (get_or (get_or c.args.tick.now.tables.now 0 []) c.part3-above.result 0) ≡ 4 = kind-told _ Pipe _ c.in-Some-Pipe.ensures c.in-Some-Pipe.field-0-is in
    search thread-starts

pub leave-returns-in-Some-Letter : goal.leave-returns-in-Some-Letter
leave-returns-in-Some-Letter t c =
    let k : part0 (get_or (get_or c.args.tick.now.tables.now 0 []) c.part3-above.result 0) ≡ 0 = kind-told _ Letter _ c.in-Some-Letter.ensures c.in-Some-Letter.field-0-is in
    search to-letter

pub leave-returns-in-None : goal.leave-returns-in-None
leave-returns-in-None t c =
    let k : 4 < part0 (get_or (get_or c.args.tick.now.tables.now 0 []) c.part3-above.result 0) = c.in-None.ensures in
    search to-unknown

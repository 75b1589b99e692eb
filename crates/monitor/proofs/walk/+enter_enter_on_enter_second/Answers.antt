-- Entering a row: `enter`, `enter_on` and `enter_second` of `monitor::walk` meet their contracts. The measure is three times the count of steps left, and a little more for what runs at one count: `enter_on` before `enter_second`, and that before `enter`.
-- Assumes nothing.
use Rattle.monitor.proofs.WalkSteps.{enter-far, enter-found, enter-known, enter-spent, first-met, first-letter, first-pipe, first-unknown, kind-told, first-passed, on-letter, on-operands, second-met, second-only, sequence-ends, sequence-goes, star-met, star-passed}
use mathlib.Core.Path.{◌≡◌, sym, ◌∙◌}
use Prim.Native.Nat.{◌<◌}
use Rattle.words.specs.declared.rows.RowKind.TheVariants.{Letter, Sequence, Alternative, Star, Pipe}
use Rattle.words.specs.Words.{part0}
use Rattle.monitor.proofs.walk.+enter_enter_on_enter_second.Goals as goal

pub enter-returns-then-steps-eq0 : goal.enter-returns-then-steps-eq0
enter-returns-then-steps-eq0 t c = search enter-spent

pub enter-returns-then-row-ge1024 : goal.enter-returns-then-row-ge1024
enter-returns-then-row-ge1024 t c = search enter-far

pub enter-returns-then-known-ne0 : goal.enter-returns-then-known-ne0
enter-returns-then-known-ne0 t c = search enter-known

pub enter-returns : goal.enter-returns
enter-returns t c = search enter-found

pub enter_on-returns-then-part0-number : goal.enter_on-returns-then-part0-number
enter_on-returns-then-part0-number t c =
    let k : c.part0.result ≡ 0 = c.if-part0-number.true ∙ c.number.ensures in
    search on-letter

pub enter_on-returns : goal.enter_on-returns
enter_on-returns t c =
    let k : c.part0.result ≡ 0 → ⊥ = λ e. c.if-part0-number.false (e ∙ sym c.number.ensures) in
    search on-operands

pub enter_second-returns-then-first-ne-PASSED : goal.enter_second-returns-then-first-ne-PASSED
enter_second-returns-then-first-ne-PASSED t c =
    let k : part0 c.args.entry ≡ 1 = kind-told _ Sequence _ c.in-Some-Sequence.ensures c.in-Some-Sequence.field-0-is in
    search sequence-ends

pub enter_second-returns-else-first-ne-PASSED : goal.enter_second-returns-else-first-ne-PASSED
enter_second-returns-else-first-ne-PASSED t c =
    let k : part0 c.args.entry ≡ 1 = kind-told _ Sequence _ c.in-Some-Sequence.ensures c.in-Some-Sequence.field-0-is in
    search sequence-goes

pub enter_second-returns-then-first-eq-MET : goal.enter_second-returns-then-first-eq-MET
enter_second-returns-then-first-eq-MET t c =
    let k : part0 c.args.entry ≡ 3 = kind-told _ Star _ c.in-Some-Star.ensures c.in-Some-Star.field-0-is in
    search star-met

pub enter_second-returns-else-first-eq-MET : goal.enter_second-returns-else-first-eq-MET
enter_second-returns-else-first-eq-MET t c =
    let k : part0 c.args.entry ≡ 3 = kind-told _ Star _ c.in-Some-Star.ensures c.in-Some-Star.field-0-is in
    search star-passed

pub enter_second-returns-then-first-eq-MET-2 : goal.enter_second-returns-then-first-eq-MET-2
enter_second-returns-then-first-eq-MET-2 t c =
    let k : part0 c.args.entry ≡ 2 = kind-told _ Alternative _ c.in-Some-Alternative.ensures c.in-Some-Alternative.field-0-is in
    search first-met

pub enter_second-returns-then-second-eq-MET : goal.enter_second-returns-then-second-eq-MET
enter_second-returns-then-second-eq-MET t c =
    let k : part0 c.args.entry ≡ 2 = kind-told _ Alternative _ c.in-Some-Alternative.ensures c.in-Some-Alternative.field-0-is in
    search second-met

pub enter_second-returns-then-first-eq-PASSED : goal.enter_second-returns-then-first-eq-PASSED
enter_second-returns-then-first-eq-PASSED t c =
    let k : part0 c.args.entry ≡ 2 = kind-told _ Alternative _ c.in-Some-Alternative.ensures c.in-Some-Alternative.field-0-is in
    search first-passed

pub enter_second-returns-else-first-eq-PASSED : goal.enter_second-returns-else-first-eq-PASSED
enter_second-returns-else-first-eq-PASSED t c =
    let k : part0 c.args.entry ≡ 2 = kind-told _ Alternative _ c.in-Some-Alternative.ensures c.in-Some-Alternative.field-0-is in
    search second-only

pub enter_second-returns-in-Some-Letter : goal.enter_second-returns-in-Some-Letter
enter_second-returns-in-Some-Letter t c =
    let k : part0 c.args.entry ≡ 0 = kind-told _ Letter _ c.in-Some-Letter.ensures c.in-Some-Letter.field-0-is in
    search first-letter

pub enter_second-returns-in-Some-Pipe : goal.enter_second-returns-in-Some-Pipe
enter_second-returns-in-Some-Pipe t c =
    let k : part0 c.args.entry ≡ 4 = kind-told _ Pipe _ c.in-Some-Pipe.ensures c.in-Some-Pipe.field-0-is in
    search first-pipe

pub enter_second-returns-in-None : goal.enter_second-returns-in-None
enter_second-returns-in-None t c =
    let k : 4 < part0 c.args.entry = c.in-None.ensures in
    search first-unknown

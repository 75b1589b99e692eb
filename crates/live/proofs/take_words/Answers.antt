-- `live::take_words` meets its contract.
-- Assumes nothing.
use mathlib.Core.Path.{refl, ◌∙◌}
use Rattle.monitor.proofs.TickSteps.{refusal-told}
use Rattle.live.proofs.CallSteps.{tick-read, touched-read, words-room, take-refused, take-bad, take-ok}
use Rattle.live.proofs.take_words.Goals as goal

pub returns-in-Some : goal.returns-in-Some
returns-in-Some c = let a = c.args in take-refused a.words.now a.word _ c.in-Some.ensures (refusal-told _) _ _ (c.from.ensures ∙ c.number.ensures) c.quad.ensures

pub returns-then-is_bad : goal.returns-then-is_bad
returns-then-is_bad c =
    let a = c.args in
    let W = a.words.now in
    let m = c.marks_in-marks.ensures in
    let s = c.step_on-answer.ensures ∙ tick-read W a.word _ _ _ m c.values_in-values.ensures c.windows_in-windows.ensures in
    let t = touched-read W _ _ m c.touched_on-rows.ensures in
    take-bad W a.word 0 c.in_default.ensures refl _ _ _ _ _ s t _ c.is_bad.ensures c.if-is_bad.true _ c.quad-then-is_bad.ensures _ c.halt.ensures

pub move_on-requires : goal.move_on-requires
move_on-requires c = let a = c.args in words-room a.words.now a.word 0 c.in_default.ensures refl

pub returns : goal.returns
returns c =
    let a = c.args in
    let W = a.words.now in
    let m = c.marks_in-marks.ensures in
    let s = c.step_on-answer.ensures ∙ tick-read W a.word _ _ _ m c.values_in-values.ensures c.windows_in-windows.ensures in
    let t = touched-read W _ _ m c.touched_on-rows.ensures in
    take-ok W a.word 0 c.in_default.ensures refl _ _ _ _ _ s t _ c.is_bad.ensures c.if-is_bad.false _ c.quad-2.ensures _ c.move_on.ensures

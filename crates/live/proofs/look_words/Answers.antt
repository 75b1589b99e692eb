-- `live::look_words` meets its contract.
-- Assumes nothing.
use mathlib.Core.Path.{refl, ◌∙◌, ap}
use Rattle.monitor.specs.Limited.{Stepped}
use Rattle.monitor.proofs.TickSteps.{refusal-told}
use Rattle.live.proofs.CallSteps.{tick-read, look-refused, look-bad, look-ok}
use Rattle.live.proofs.look_words.Goals as goal

pub returns-in-Some : goal.returns-in-Some
returns-in-Some c = let a = c.args in look-refused a.words.now a.word _ c.in-Some.ensures (refusal-told _) _ _ (c.from.ensures ∙ c.number.ensures) c.quad.ensures

pub returns-then-is_bad : goal.returns-then-is_bad
returns-then-is_bad c =
    let a = c.args in
    let W = a.words.now in
    let s = c.peek_on-answer.ensures ∙ ap (λ (t : Stepped). t.answer) (tick-read W a.word _ _ _ c.marks_in-marks.ensures c.values_in-values.ensures c.windows_in-windows.ensures) in
    look-bad W a.word 0 c.in_default.ensures refl _ s _ c.is_bad.ensures c.if-is_bad.true _ c.quad-then-is_bad.ensures

pub returns : goal.returns
returns c =
    let a = c.args in
    let W = a.words.now in
    let s = c.peek_on-answer.ensures ∙ ap (λ (t : Stepped). t.answer) (tick-read W a.word _ _ _ c.marks_in-marks.ensures c.values_in-values.ensures c.windows_in-windows.ensures) in
    look-ok W a.word 0 c.in_default.ensures refl _ s _ c.is_bad.ensures c.if-is_bad.false _ c.quad-2.ensures

-- The answer and the words, whether the text is accepted or not, in `live::open_words`.
use Rattle.std.proofs.Common.{◌∙◌, sym, ap}
use Rattle.meaning.specs.Opening.{open_text}
use Rattle.live.specs.Codes.{open_code, is_open}
use Rattle.live.proofs.CallSteps.{refused-left, opened-filled}
use Rattle.live.proofs.open_words.Goals as goal
use Rattle.live.proofs.open_words.Goals.{then-is_open, else-is_open}

pub returns : goal.returns
returns c =
    let o = c.open-start.ensures in
    let a = c.args in (
      c.open_code.ensures ∙ ap open_code o.0,
      elim c.if-is_open.branch [
        | then-is_open w ↦ w.words-is ∙ opened-filled (open_text a.text.now) _ a.words.now _ (sym (ap is_open o.0) ∙ sym c.is_open.ensures ∙ w.if-is_open.true) o.1 w.fill.ensures
        | else-is_open w ↦ w.words-is ∙ refused-left (open_text a.text.now) a.words.now (sym (ap is_open o.0) ∙ sym c.is_open.ensures ∙ w.if-is_open.false)
      ],
    )

-- The answers to the goals of `sheet::page::Page::bad`.
use native.Mathlib.Omega.{arith}
use Rattle.sheet.proofs.PageSteps.{both, printed_as}
use Rattle.sheet.proofs.LineSteps.{bad-line}
use Rattle.sheet.proofs.LaidSteps.{front-line, front-short}
use Rattle.sheet.proofs.page.Page.bad.Goals as goal

pub returns-clause-printed : goal.returns-clause-printed
returns-clause-printed c =
    printed_as (bad-line c.args.t c.args.word c.args.monitor)
    (both (front-line c.requires.0.laid c.args.word _ c.store_word.ensures c.text.ensures) (both c.text-2.ensures (both c.number.ensures.printed c.byte.ensures)))

pub returns-clause-short : goal.returns-clause-short
returns-clause-short c =
    let m = c.requires.0.laid in
    let e = c.store_word.ensures in
    let front = front-line m c.args.word _ e c.text.ensures in
    omega (arith, front.behind, front-short m c.args.word _ e)

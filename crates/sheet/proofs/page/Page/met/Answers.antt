-- The answers to the goals of `sheet::page::Page::met`.
use native.Mathlib.Omega.{arith}
use Rattle.sheet.proofs.Lengths.{met-short}
use Rattle.sheet.proofs.PageSteps.{both, printed_as}
use Rattle.sheet.proofs.LineSteps.{met-line}
use Rattle.sheet.proofs.page.Page.met.Goals as goal

pub returns-clause-printed : goal.returns-clause-printed
returns-clause-printed c =
    printed_as (met-line c.args.monitor c.args.letter c.args.count)
    (both c.text.ensures (both c.number.ensures.printed (both c.number-2.ensures.printed (both c.number-3.ensures.printed c.byte.ensures))))

pub returns-clause-short : goal.returns-clause-short
returns-clause-short c =
    let a = c.args in
    omega (arith, (returns-clause-printed c).behind, met-short a.monitor a.letter a.count c.requires.0 c.requires.1 c.requires.2)

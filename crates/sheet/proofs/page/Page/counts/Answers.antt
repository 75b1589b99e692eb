-- The answers to the goals of `sheet::page::Page::counts`.
use Rattle.sheet.proofs.PageSteps.{both, printed_as}
use Rattle.sheet.proofs.LineSteps.{counts-line}
use Rattle.sheet.proofs.page.Page.counts.Goals as goal

pub returns-clause-printed : goal.returns-clause-printed
returns-clause-printed c = printed_as (counts-line c.args.rows c.args.letters) (both c.text.ensures (both c.number.ensures.printed (both c.text-2.ensures (both c.number-2.ensures.printed c.byte.ensures))))

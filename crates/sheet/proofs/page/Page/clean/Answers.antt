-- The answers to the goals of `sheet::page::Page::clean`.
use Rattle.sheet.proofs.PageSteps.{both, printed_as}
use Rattle.sheet.proofs.LineSteps.{clean-pieces}
use Rattle.sheet.proofs.page.Page.clean.Goals as goal

pub returns-clause-printed : goal.returns-clause-printed
returns-clause-printed c = printed_as (clean-pieces c.args.ticks) (both c.text.ensures (both c.number.ensures.printed c.byte.ensures))

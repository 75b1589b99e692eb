-- The answers to the goals of `sheet::page::Page::foot`.
use Rattle.monitor.specs.Calls.{totals_of}
use Rattle.sheet.proofs.PageSteps.{both, printed_as}
use Rattle.sheet.proofs.LineSteps.{foot-lines}
use Rattle.sheet.proofs.page.Page.foot.Goals as goal

pub returns-clause-printed : goal.returns-clause-printed
returns-clause-printed c =
    printed_as (foot-lines (totals_of c.args.watch.now) _ c.monitors-sum.ensures.summed) (both c.monitors-sum.ensures.printed (both c.text.ensures (both c.number.ensures.printed c.byte.ensures)))

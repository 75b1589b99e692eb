-- The answers to the goals of `sheet::page::Page::number`.
use mathlib.Core.Path.{◌∙◌}
use Rattle.sheet.proofs.PageSteps.{as-std, both, printed_as}
use Rattle.sheet.proofs.page.Page.number.Goals as goal

pub returns-clause-printed : goal.returns-clause-printed
returns-clause-printed c = both c.byte.ensures (printed_as (c.as_bytes.ensures.value ∙ c.format.ensures.text ∙ as-std c.args.number c.ranges.number.fits) c.text.ensures)

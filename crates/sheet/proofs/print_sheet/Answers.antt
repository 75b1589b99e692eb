-- The answers to the goals of `sheet::print_sheet`.
use Rattle.sheet.proofs.PageSteps.{both}
use Rattle.sheet.proofs.print_sheet.Goals as goal

pub returns-clause-printed : goal.returns-clause-printed
returns-clause-printed c = both c.put_first.ensures.printed c.print_rest.ensures

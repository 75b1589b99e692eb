-- `sheet::refused` meets its contract. Assumes nothing.
use Rattle.std.proofs.Common.{◌∙◌}
use Rattle.sheet.proofs.SheetSteps.{refused-is}
use Rattle.sheet.proofs.refused.Goals as goal

pub returns : goal.returns
returns c = c.is_err.ensures.value ∙ refused-is _

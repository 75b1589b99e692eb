-- `live::is_open` meets its contract. Assumes nothing.
use Rattle.std.proofs.Common.{◌∙◌}
use Rattle.live.proofs.CallSteps.{open-is}
use Rattle.live.proofs.is_open.Goals as goal

pub returns : goal.returns
returns c = c.is_ok.ensures.value ∙ open-is _

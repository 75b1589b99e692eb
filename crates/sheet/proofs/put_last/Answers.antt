-- The answers to the goals of `sheet::put_last`.
use mathlib.Core.Path.{ap, sym}
use Rattle.sheet.specs.Lines.{closing}
use Rattle.sheet.proofs.PageSteps.{both, printed_as}
use Rattle.sheet.proofs.put_last.Goals as goal

pub returns-then-left-eq0 : goal.returns-then-left-eq0
returns-then-left-eq0 c = printed_as (ap (closing c.args.watch.now) (sym c.if-left-eq0.true)) (both c.clean.ensures.printed c.foot.ensures.printed)

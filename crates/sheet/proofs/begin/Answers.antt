-- The answers to the goals of `sheet::begin`.
use borrow.Author.Rules.{rules}
use native.Mathlib.Omega.{arith}
use Rattle.sheet.proofs.SheetSteps.{first-told, first-printed, first-long}
use Rattle.sheet.proofs.begin.Goals as goal

pub returns : goal.returns
returns c =
    let a = c.open-start.ensures in
    let p = c.put_first.ensures.printed in
    let e = first-printed _ _ a.0 _ _ p.wrote in
    (search rules, first-long _ _ a.0 _ (omega (arith, p.behind)), first-told _ _ a.0 _ c.refused-ended.ensures, a.1, omega (arith, c.put_first.ensures.short))

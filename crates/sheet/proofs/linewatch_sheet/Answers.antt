-- The answers to the goals of `sheet::linewatch_sheet`.
use borrow.Author.Rules.{rules}
use borrow.Author.Tests.{leb-true}
use mathlib.Core.Path.{◌∙◌, ap, sym}
use native.Mathlib.Omega.{arith}
use lib.ListN.{length}
use Rattle.sheet.proofs.PageSteps.{printed_as}
use Rattle.sheet.proofs.SheetSteps.{sheet-lines, sheet-bound, sheet-short, sheet-fits}
use Rattle.sheet.proofs.linewatch_sheet.Goals as goal
use Rattle.sheet.proofs.linewatch_sheet.Goals.{then-not-surely_fits+else-sheet-long, else-not-surely_fits}

pub returns-then-sheet-long : goal.returns-then-sheet-long
returns-then-sheet-long c =
    let o = c.open-start.ensures in
    sheet-short _ _ _ _ (c.sheet_length-long.ensures ∙ ap length (sheet-lines _ c.args.records.now _ _ o.0 o.1)) c.if-sheet-long.true

pub returns : goal.returns
returns c =
    let o = c.open-start.ensures in
    let lines = sheet-lines c.args.text.now c.args.records.now _ _ o.0 o.1 in
    let p = printed_as lines c.print_sheet.ensures.printed in
    let q =
    sheet-fits c.args.text.now c.args.records.now c.args.sheet.now
    (elim c.if-not-surely_fits.branch [
      | then-not-surely_fits+else-sheet-long w ↦ omega (arith, ap length lines)
      | else-not-surely_fits w ↦ omega (arith, leb-true _ _ (sym w.if-not-surely_fits.ensures), sheet-bound _ c.args.records.now _ _ o.0 o.1 c.print_sheet.ensures.short)
    ]) _ _ p.wrote p.behind
    in
    let e = q.1 in
    (q.0, search rules)

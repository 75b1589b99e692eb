-- The answers to the goals of `sheet::print_rest`.
use Rattle.rules.specs.Watches.{shown_outcome}
use Rattle.sheet.specs.Lines.{run, run_over}
use Rattle.sheet.proofs.SheetSteps.{rest-closed, rest-opened}
use Rattle.sheet.proofs.print_rest.Goals as goal

pub returns : goal.returns
returns c =
    let a = c.args in
    rest-opened (shown_outcome a.start.now.outcome) (run_over (run a.start.now.watch 0) a.records.now) c.if-refused.ensures (rest-closed c.run_from-ran.ensures c.if-ran.false c.put_last.ensures)

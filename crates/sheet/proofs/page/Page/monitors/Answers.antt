-- The answers to the goals of `sheet::page::Page::monitors`.
use Prim.Native.Nat.{◌+◌, ◌-◌, min}
use native.Mathlib.Omega.{arith}
use Rattle.meaning.specs.Sheet.{all_met_lines}
use Rattle.monitor.specs.Calls.{totals_from}
use Rattle.sheet.proofs.PageSteps.{remains-more, remains-none}
use Rattle.sheet.proofs.FootSteps.{monitors-more, monitors-end, sums-more, sums-end}
use Rattle.sheet.proofs.page.Page.monitors.Goals as goal

pub loop-monitor-preserved : goal.loop-monitor-preserved
loop-monitor-preserved c =
    let l = c.loop-monitor in
    let v = c.args.watch.now in
    let q = c.letters_end-to.ensures.0 in
    let j = c.from-from.ensures in
    let p = c.letters-sum.ensures in
    record {
      lines =
          remains-more l.invariant.lines (all_met_lines (l.monitor + 1) (totals_from v.firsts v.totals (min v.monitors 32) (min v.letters 256) (min v.monitors 32 - (l.monitor + 1)) (l.monitor + 1)))
          (monitors-more v.firsts v.totals (min v.monitors 32) (min v.letters 256) (min v.monitors 32) l.monitor (omega arith) _ _ j q) p.printed;
      summed = sums-more v.firsts v.totals (min v.monitors 32) (min v.letters 256) (min v.monitors 32) l.monitor (omega arith) _ _ l.sum _ _ j q p.summed l.invariant.summed;
      place = omega (arith, l.invariant.place, p.short);
      small = omega (arith, l.invariant.small, p.small);
    }

pub returns-clause-printed : goal.returns-clause-printed
returns-clause-printed c =
    let l = c.loop-monitor in
    let v = c.args.watch.now in
    remains-none l.invariant.lines (monitors-end v.firsts v.totals (min v.monitors 32) (min v.letters 256) (min v.monitors 32) l.monitor (omega arith))

pub returns-clause-summed : goal.returns-clause-summed
returns-clause-summed c =
    let l = c.loop-monitor in
    let v = c.args.watch.now in
    sums-end v.firsts v.totals (min v.monitors 32) (min v.letters 256) (min v.monitors 32) l.monitor (omega arith) l.sum _ l.invariant.summed

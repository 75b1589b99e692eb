-- `sheet::page::Page::monitors` meets its contract: what is still to be printed and summed. Assumes nothing.
use Prim.Native.Nat.{◌+◌, ◌-◌, ◌*◌, ◌≤◌, min}
use mathlib.Core.Path.{◌≡◌}
use Rattle.meaning.specs.Totals.{sum as sum_of}
use Rattle.meaning.specs.Sheet.{all_met_lines}
use Rattle.monitor.specs.Calls.{totals_from, totals_of}
use Rattle.sheet.proofs.PageSteps.{Remains}
use Rattle.sheet.proofs.page.Page.monitors.Given as goal

abbrev pub invariant-loop-monitor : goal.invariant-loop-monitor
invariant-loop-monitor l =
    let v = l.watch in
    record {
      lines : Remains l.initial.self l.self (all_met_lines 0 (totals_of v)) (all_met_lines l.monitor (totals_from v.firsts v.totals (min v.monitors 32) (min v.letters 256) (min v.monitors 32 - l.monitor) l.monitor));
      summed : sum_of (totals_of v) ≡ l.sum + sum_of (totals_from v.firsts v.totals (min v.monitors 32) (min v.letters 256) (min v.monitors 32 - l.monitor) l.monitor);
      place : l.self.at ≤ l.initial.self.at + 6144 * l.monitor;
      small : l.sum ≤ 1099511627776 * l.monitor;
    }

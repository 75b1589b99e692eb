-- `sheet::page::Page::letters` meets its contract: what is still to be printed and summed. Assumes nothing.
use Prim.Native.Nat.{◌+◌, ◌-◌, ◌*◌, ◌≤◌}
use mathlib.Core.Path.{◌≡◌}
use Rattle.meaning.specs.Lists.{total}
use Rattle.meaning.specs.Sheet.{met_lines}
use Rattle.monitor.specs.Calls.{stretch}
use Rattle.sheet.proofs.PageSteps.{Remains}
use Rattle.sheet.proofs.page.Page.letters.Given as goal

abbrev pub invariant-loop-letter : goal.invariant-loop-letter
invariant-loop-letter l =
    record {
      lines : Remains l.initial.self l.self (met_lines l.monitor 0 (stretch l.totals (l.to - l.from) l.from)) (met_lines l.monitor (l.letter - l.from) (stretch l.totals (l.to - l.letter) l.letter));
      summed : total (λ n. n) (stretch l.totals (l.to - l.from) l.from) ≡ l.sum + total (λ n. n) (stretch l.totals (l.to - l.letter) l.letter);
      few : l.letter - l.from ≤ l.to - l.from;
      place : l.self.at ≤ l.initial.self.at + 24 * (l.letter - l.from);
      small : l.sum ≤ 4294967296 * (l.letter - l.from);
    }

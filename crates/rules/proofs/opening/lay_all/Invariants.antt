-- `rules::opening::lay_all` meets its contract. The invariant: with the monitors ahead stored behind what there is, all are stored; and each before was accepted.
-- Assumes nothing.
use lib.ListN.{length}
use Rattle.rules.specs.Monitors.{ArraysIn, lists_in}
use Rattle.rules.proofs.AllMonitors.{AllGoing}
use Rattle.rules.proofs.opening.lay_all.Given as goal

abbrev pub invariant-loop-i : goal.invariant-loop-i
invariant-loop-i l =
    ArraysIn l.tables × AllGoing l.words l.monitors (length l.monitors) (lists_in l.initial.tables l.initial.starts) (lists_in l.tables l.starts) l.i-counter l.row l.first

-- The invariant of the loop of `counts::costs_of`: the rows from this one on are laid out.
use Rattle.std.proofs.Common.{◌≡◌, ◌-◌}
use Rattle.counts.specs.Counts.{costs_down}
use Rattle.counts.proofs.costs_of.Given as goal

abbrev pub invariant-loop-row : goal.invariant-loop-row
invariant-loop-row l = l.costs ≡ costs_down l.table l.rows (l.rows - l.row)

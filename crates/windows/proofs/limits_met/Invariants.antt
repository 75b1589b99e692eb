-- `windows::limits_met` meets its contract.
-- Assumes nothing.
use Rattle.std.proofs.Common.{◌≡◌}
use Rattle.windows.specs.Windows.{met_mask}
use Rattle.windows.proofs.limits_met.Given as goal

abbrev pub invariant-loop-letter : goal.invariant-loop-letter
invariant-loop-letter g l = l.mask ≡ met_mask l.memory (g.C.Counted.counted l.counted) l.letter

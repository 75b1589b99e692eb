-- `windows::first_beyond` meets its contract.
-- Assumes nothing.
use Rattle.std.proofs.Common.{◌≡◌, ◌-◌}
use Rattle.windows.specs.Windows.{limits_in, beyond_from, first_beyond}
use Rattle.windows.proofs.first_beyond.Given as goal

abbrev pub invariant-loop-limit : goal.invariant-loop-limit
invariant-loop-limit l = first_beyond l.windows l.mask ≡ beyond_from l.windows l.mask (limits_in l.windows - l.limit) l.limit

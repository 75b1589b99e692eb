-- `windows::count_tick` meets its contract.
-- Assumes nothing.
use Rattle.std.proofs.Common.{◌≡◌}
use Rattle.windows.specs.Windows.{counted}
use Rattle.windows.proofs.count_tick.Given as goal

abbrev pub invariant-loop-limit : goal.invariant-loop-limit
invariant-loop-limit l = l.windows ≡ counted l.initial.windows l.mask l.limit

-- What the loop of `live::state::windows_in` keeps.
use Rattle.std.proofs.Common.{◌≡◌}
use Rattle.live.specs.State.{windows_from}
use Rattle.live.proofs.state.windows_in.Given as goal

abbrev pub invariant-loop-i : goal.invariant-loop-i
invariant-loop-i l = l.windows ≡ windows_from l.state l.i

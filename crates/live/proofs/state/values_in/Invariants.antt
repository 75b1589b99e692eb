-- What the loop of `live::state::values_in` keeps.
use Rattle.std.proofs.Common.{◌≡◌}
use Rattle.live.specs.State.{values_from}
use Rattle.live.proofs.state.values_in.Given as goal

abbrev pub invariant-loop-i : goal.invariant-loop-i
invariant-loop-i l = l.values ≡ values_from l.state l.i

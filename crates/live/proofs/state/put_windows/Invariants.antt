-- What the loop of `live::state::put_windows` keeps.
use Rattle.std.proofs.Common.{◌≡◌, ◌*◌}
use Rattle.live.specs.State.{stored, gather}
use Rattle.live.proofs.state.put_windows.Given as goal

abbrev pub invariant-loop-i : goal.invariant-loop-i
invariant-loop-i l = l.state ≡ stored (λ j. gather l.windows (4 * j)) 576 l.i l.initial.state

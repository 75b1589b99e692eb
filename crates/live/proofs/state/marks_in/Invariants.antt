-- What the loop of `live::state::marks_in` keeps.
use Rattle.std.proofs.Common.{◌≡◌}
use Rattle.live.specs.State.{marks_from}
use Rattle.live.proofs.state.marks_in.Given as goal

abbrev pub invariant-loop-i : goal.invariant-loop-i
invariant-loop-i l = l.marks ≡ marks_from l.state l.i

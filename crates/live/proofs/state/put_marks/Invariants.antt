-- What the loop of `live::state::put_marks` keeps.
use Rattle.std.proofs.Common.{◌≡◌, ◌*◌}
use Rattle.live.specs.State.{stored, joined}
use Rattle.live.proofs.state.put_marks.Given as goal

abbrev pub invariant-loop-i : goal.invariant-loop-i
invariant-loop-i l = l.state ≡ stored (λ j. joined 8 l.marks (8 * j)) 32 l.i l.initial.state

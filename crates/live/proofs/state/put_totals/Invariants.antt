-- What the loop of `live::state::put_totals` keeps.
use Rattle.std.proofs.Common.{◌≡◌, ◌*◌, ◌-◌}
use Rattle.monitor.specs.Ticks.{each_marked}
use Rattle.live.specs.State.{one_more, with_totals}
use Rattle.live.proofs.state.put_totals.Given as goal

abbrev pub invariant-loop-eight : goal.invariant-loop-eight
invariant-loop-eight l = with_totals l.marks l.end l.initial.state ≡ each_marked l.marks one_more (l.end - 8 * l.eight) (8 * l.eight) l.state

abbrev pub invariant-loop-letter : goal.invariant-loop-letter
invariant-loop-letter l = with_totals l.marks l.end l.fn.state ≡ each_marked l.marks one_more (l.end - l.letter) l.letter l.state

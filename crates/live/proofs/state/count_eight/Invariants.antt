-- What the loop of `live::state::count_eight` keeps.
use Rattle.std.proofs.Common.{◌≡◌, ◌+◌, ◌-◌}
use Rattle.monitor.specs.Ticks.{each_marked}
use Rattle.live.specs.State.{one_more}
use Rattle.live.proofs.state.count_eight.Given as goal

abbrev pub invariant-loop-letter : goal.invariant-loop-letter
invariant-loop-letter l = each_marked l.marks one_more 8 l.from l.initial.state ≡ each_marked l.marks one_more (l.from + 8 - l.letter) l.letter l.state

-- Measures of `enter`, `enter_on` and `enter_second` of `monitor::walk`, which call one another.
use Prim.Native.Nat.{◌*◌, ◌+◌}
use Rattle.monitor.proofs.walk.+enter_enter_on_enter_second.Given as goal

abbrev pub decreases-enter : goal.decreases-enter
decreases-enter l = 3 * l.steps

abbrev pub decreases-enter_on : goal.decreases-enter_on
decreases-enter_on l = 3 * l.steps + 2

abbrev pub decreases-enter_second : goal.decreases-enter_second
decreases-enter_second l = 3 * l.steps + 1

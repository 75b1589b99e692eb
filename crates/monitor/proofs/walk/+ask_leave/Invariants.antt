-- Measures of `ask` and `leave` of `monitor::walk`, which call one another.
use Rattle.monitor.proofs.walk.+ask_leave.Given as goal

abbrev pub decreases-ask : goal.decreases-ask
decreases-ask l = l.steps

abbrev pub decreases-leave : goal.decreases-leave
decreases-leave l = l.steps

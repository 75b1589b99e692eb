-- Measures of `walk` of `shape::walk`, which calls itself.
use Rattle.shape.proofs.walk.+walk.Given as goal

abbrev pub decreases-walk : goal.decreases-walk
decreases-walk g l = l.fuel

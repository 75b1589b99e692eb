-- `vectors::cases::walk` is safe and ends: each case has a byte or more, and no more cases differ than there were.
-- Assumes nothing.
use Rattle.std.proofs.Common.{◌+◌, ◌≤◌, length}
use Rattle.vectors.proofs.cases.walk.Given as goal

abbrev pub invariant-loop-rest : goal.invariant-loop-rest
invariant-loop-rest g l = (l.differ ≤ l.cases) × (l.cases + length l.rest ≤ length l.file)

abbrev pub decreases-loop-rest : goal.decreases-loop-rest
decreases-loop-rest g l = length l.rest

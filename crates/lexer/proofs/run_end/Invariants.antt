-- `lexer::run_end` meets its contract. The loop's invariant: the run from `from` ends where the run from `i` on ends.
-- Assumes nothing.
use mathlib.Core.Path.{◌≡◌}
use mathlib.Core.Bool.{Bool}
use Prim.Native.Nat.{ℕ, ◌+◌}
use lib.ListN.{length, drop}
use Rattle.lexer.specs.Bytes.{run}
use Rattle.lexer.specs.Inner.{Computes}
use Rattle.lexer.proofs.run_end.Given as goal

abbrev pub invariant-loop-i : goal.invariant-loop-i
invariant-loop-i g l = (test : ℕ → Bool) → Computes (goal.P-post g l.passes) test
    → l.i + length (run test (drop l.i (drop l.from l.text))) ≡ length (run test (drop l.from l.text))

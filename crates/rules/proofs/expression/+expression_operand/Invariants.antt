-- Measures of `expression` and `operand` of `rules::expression`, which call one another.
use Prim.Native.Nat.{◌*◌, ◌+◌, ◌-◌}
use lib.ListN.{length}
use Rattle.rules.proofs.Expressing.{Loop}
use Rattle.rules.proofs.expression.+expression_operand.Given as goal

abbrev pub decreases-expression : goal.decreases-expression
decreases-expression l = 2 * l.levels + 1

abbrev pub decreases-operand : goal.decreases-operand
decreases-operand l = 2 * l.levels

abbrev pub invariant-expression-loop-p : goal.invariant-expression-loop-p
invariant-expression-loop-p l = Loop l.text l.initial.words l.at l.free l.last l.levels l.words l.level l.pos l.used

abbrev pub decreases-expression-loop-p : goal.decreases-expression-loop-p
decreases-expression-loop-p l = length l.text - l.pos

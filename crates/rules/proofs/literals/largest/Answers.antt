-- `rules::literals::largest` meets its contract.
-- Assumes nothing.
use Prim.Native.Nat.{ℕ, ◌-◌}
use mathlib.Core.Path.{ap}
use Rattle.rules.proofs.Numbers.{ones, ones-some}
use Rattle.rules.proofs.literals.largest.Goals as goal

pub returns-then-width-eq64 : goal.returns-then-width-eq64
returns-then-width-eq64 c = rw c.if-width-eq64.true

pub overflow_sub-result : goal.overflow_sub-result
overflow_sub-result c = rw (ones c.args.width c.requires c.if-width-eq64.false) (ones-some _)

pub returns : goal.returns
returns c = ap (λ (n : ℕ). n - 1) (ones c.args.width c.requires c.if-width-eq64.false)

-- `rules::parts::nullable_two` meets its contract.
-- Assumes nothing.
use mathlib.Core.Path.{ap}
use native.Mathlib.Omega.{arith}
use Rattle.rules.specs.Parts.{operator_number}
use Rattle.rules.proofs.Summing.{is-operator, null-sequence, null-choice, null-pipe}
use Rattle.rules.proofs.parts.nullable_two.Goals as goal

pub returns-in-Sequence : goal.returns-in-Sequence
returns-in-Sequence c = λ e f g h. null-sequence _ _ _ e f g h (ap operator_number c.in-Sequence.is)

pub returns-in-Choice : goal.returns-in-Choice
returns-in-Choice c = λ e f g h. null-choice _ _ _ e f g h (ap operator_number c.in-Choice.is)

pub returns-in-Pipe : goal.returns-in-Pipe
returns-in-Pipe c =
    let q = ap operator_number c.in-Pipe.is in
    λ e f g h. null-pipe _ _ _ e f g h (is-operator c.args.operator) (λ z. omega (arith, q, z)) (λ z. omega (arith, q, z))

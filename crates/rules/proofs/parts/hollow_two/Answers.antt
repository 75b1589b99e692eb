-- `rules::parts::hollow_two` meets its contract.
-- Assumes nothing.
use borrow.Author.Rules.{rules}
use mathlib.Core.Path.{◌≡◌, ap}
use Rattle.rules.specs.Parts.{operator_number}
use Rattle.rules.specs.declared.parts.Operator.TheVariants.{Pipe}
use Rattle.rules.proofs.Summing.{is-operator, no-pipe, hollow-later, hollow-operands}
use Rattle.rules.proofs.parts.hollow_two.Goals as goal

pub returns-then-ne : goal.returns-then-ne
returns-then-ne c = hollow-later _ (is-operator c.args.operator) _ _ (no-pipe c.args.operator (search rules)) _ c.or_later.ensures

pub returns : goal.returns
returns c =
    let q : c.args.operator ≡ Pipe = search rules in
    hollow-operands _ (is-operator c.args.operator) _ _ (ap operator_number q) _ _ _ c.unless_nullable-first.ensures.1 c.unless_nullable-second.ensures.1 c.or_later-2.ensures

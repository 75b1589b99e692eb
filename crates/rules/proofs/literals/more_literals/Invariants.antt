-- `rules::literals::more_literals` meets its contract.
-- Assumes nothing.
use Prim.Native.Nat.{◌-◌}
use lib.ListN.{length}
use Rattle.meaning.specs.Reading.{literal_more}
use Rattle.rules.specs.Reads.{read_from}
use Rattle.rules.specs.Conditions.{Added}
use Rattle.rules.proofs.literals.more_literals.Given as goal

abbrev pub invariant-loop-t : goal.invariant-loop-t
invariant-loop-t l = Added l.text (λ ns x ls. read_from l.text l.at ns (literal_more x ls)) l.initial.words l.at l.free l.last l.initial.r.condition l.most (record { fault = 0; at = l.r.at; free = l.r.free; condition = l.r.condition }) l.words

abbrev pub decreases-loop-t : goal.decreases-loop-t
decreases-loop-t l = length l.text - l.r.at

-- `rules::counted::mask_of` meets its contract. The invariant: the mask is that of the limits behind those that are still to come.
-- Assumes nothing.
use Rattle.rules.proofs.Counting.{Masked}
use Rattle.rules.proofs.counted.mask_of.Given as goal

abbrev pub invariant-loop-limit : goal.invariant-loop-limit
invariant-loop-limit l = Masked l.words l.limits l.node l.limit-iterator.iter.rest.now l.mask

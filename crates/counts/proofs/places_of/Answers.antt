-- A turn of the loop of `counts::places_of`.
use Rattle.std.proofs.Common.{arith}
use Rattle.std.proofs.lemmas.Bool.Decides.{nat_tests}
use Rattle.counts.proofs.CountSteps.{letters_next, places_next}
use Rattle.counts.proofs.places_of.Goals as goal

pub loop-row-preserved : goal.loop-row-preserved
loop-row-preserved c =
    let l = c.loop-row in
    let a = c.args in
    record {
      few = grind (arith, nat_tests);
      laid = places_next a.table.now l.row l.letters l.invariant.counted a.costs.now l.places _ l.invariant.laid c.row_place.ensures;
      counted = letters_next a.table.now l.row l.letters l.invariant.counted _ c.letters_with-letters.ensures;
    }

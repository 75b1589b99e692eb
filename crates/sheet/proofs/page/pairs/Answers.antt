-- The answers to the goals of `sheet::page::pairs`.
use native.Mathlib.Omega.{arith}
use lib.ListN.{length-set}
use Rattle.sheet.proofs.PageSteps.{pairs-more}
use Rattle.sheet.proofs.page.pairs.Goals as goal

pub loop-i-preserved : goal.loop-i-preserved
loop-i-preserved c =
    let l = c.loop-i in
    (simp length-set l.invariant.0, pairs-more l.pair-items l.i c.pair_of.result (omega arith) l.invariant.1 c.pair_of.ensures)

-- `rules::parts::production_part` meets its contract.
-- Assumes nothing.
use Rattle.rules.proofs.PartLaws.{production-is}
use Rattle.rules.proofs.parts.production_part.Goals as goal

pub returns : goal.returns
returns c = λ d e x. production-is _ d _ e x _ _ _ _ _ c.part0.ensures c.part0-2.ensures c.part1.ensures c.part2.ensures c.part3.ensures

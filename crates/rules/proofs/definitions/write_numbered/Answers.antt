-- `rules::definitions::write_numbered` meets its contract.
-- Assumes nothing.
use native.Mathlib.Omega.{arith}
use Rattle.rules.proofs.Bodies.{numbered-put}
use Rattle.rules.proofs.definitions.write_numbered.Goals as goal

pub production_of-made-requires : goal.production_of-made-requires
production_of-made-requires c = let (a, b, d, e, f, g, h) = c.requires in (omega arith, b, g, h)

pub write_production-requires : goal.write_production-requires
write_production-requires c = let (a, b, d, e, f, g, h) = c.requires in let m = c.production_of-made.ensures in (omega (arith, m.few, m.extends.long), omega (arith, m.extends.long), d, e, f, (_, m.part h.0 h.1))

pub returns : goal.returns
returns c = numbered-put _ _ _ _ _ _ _ _ _ _ _ c.production_of-made.ensures c.write_production.ensures

-- `rules::parts::starred` meets its contract.
-- Assumes nothing.
use Rattle.rules.proofs.PartLaws.{within, star-made}
use Rattle.rules.proofs.parts.starred.Goals as goal

pub unless_nullable-requires : goal.unless_nullable-requires
unless_nullable-requires c = (within c.requires.2.1).hollow

pub returns : goal.returns
returns c = rw (c.quad.ensures, c.number.ensures) (star-made _ _ _ c.requires.0 c.requires.1 c.requires.2.1.low _ c.unless_nullable.ensures.1)

-- `rules::expression::sequenced` meets its contract.
-- Assumes nothing.
use native.Mathlib.Omega.{arith}
use mathlib.Core.Path.{refl, ◌∙◌}
use Rattle.rules.proofs.Operating.{join-given, joined-more}
use Rattle.rules.proofs.expression.sequenced.Goals as goal

pub join-requires : goal.join-requires
join-requires c =
    let j = c.piped-m.ensures in
    let (level, part) = join-given _ _ _ _ _ _ _ _ _ j c.requires.2 c.requires.3 in
    (omega (arith, j.few, j.extends.long), omega (arith, j.extends.long), (level.0.seqs, level.1.seqs), part)

pub shape_of-words : goal.shape_of-words
shape_of-words c = c.join.ensures.extends.long ∙ c.piped-m.ensures.extends.long

pub returns : goal.returns
returns c = joined-more _ _ _ _ _ _ _ _ _ _ _ c.piped-m.ensures 1 _ (λ L. L.seqs) (λ R e L k. k.seqs) (λ L e. refl) _ _ _ c.join.ensures (omega arith)

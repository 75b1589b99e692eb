-- The proof of the cycle of calls {walk}. The measure is the fuel. Assumes nothing.
use borrow.Author.Rules.{rules}
use mathlib.Core.Path.{◌≡◌, refl, sym, ◌∙◌}
use Rattle.words.specs.Words.{part0, part1, part2}
use Rattle.words.specs.declared.rows.RowKind.TheVariants.{Letter, Star}
use Rattle.shape.proofs.ByKind.{part_at, counted, is_two, is_pipe, walk_none, walk-letter, walk-star, walk-two, by-seq, by-alt, by-pipe}
use Rattle.shape.proofs.walk.+walk.Goals as goal

pub returns-then-fuel-eq0 : goal.returns-then-fuel-eq0
returns-then-fuel-eq0 g t c = λ x own h. c.nothing.ensures x ∙ sym (walk_none _ _ _ _ _ _ _ _ _ c.if-fuel-eq0.true)

pub returns-then-eq : goal.returns-then-eq
returns-then-eq g t c =
    let table = c.args.table.now in
    let row = c.args.row in
    let is : c.kind_of-kind.result ≡ Letter = search rules in
    λ x own h. h _ _ c.letter.ensures
    ∙ sym (walk-letter _ _ _ _ _ _ _ _ _ c.if-fuel-eq0.false (part_at part0 refl table row c.word_at-head.ensures refl)
    (part_at part1 refl table row c.word_at-head.ensures c.part1-left.ensures) (counted _ _ _ c.kind_of-kind.ensures is))

pub returns-then-eq-2 : goal.returns-then-eq-2
returns-then-eq-2 g t c =
    let table = c.args.table.now in
    let row = c.args.row in
    let is : c.kind_of-kind.result ≡ Star = search rules in
    λ x own h. c.star.ensures x
    ∙ sym (walk-star _ _ _ _ _ _ _ _ _ c.if-fuel-eq0.false (part_at part0 refl table row c.word_at-head.ensures refl)
    (part_at part1 refl table row c.word_at-head.ensures c.part1-left.ensures) (counted _ _ _ c.kind_of-kind.ensures is) (c.walk-e.ensures x own h))

pub returns-in-Sequence : goal.returns-in-Sequence
returns-in-Sequence g t c =
    let table = c.args.table.now in
    let row = c.args.row in
    let no-letter : c.kind_of-kind.result ≡ Letter → ⊥ = search rules in
    let no-star : c.kind_of-kind.result ≡ Star → ⊥ = search rules in
    let two = is_two _ _ c.kind_of-kind.ensures no-letter no-star in
    λ x own h. c.seq.ensures x
    ∙ sym (walk-two _ _ _ _ _ _ _ _ _ c.if-fuel-eq0.false (part_at part0 refl table row c.word_at-head.ensures refl)
    (part_at part1 refl table row c.word_at-head.ensures c.part1-left.ensures) two.0 two.1
    (part_at part2 refl table row c.word_at-head.ensures c.part2-right.ensures) (c.walk-e.ensures x own h) (c.walk-f.ensures x own h)
    ∙ by-seq _ _ _ _ (counted _ _ _ c.kind_of-kind.ensures c.in-Sequence.is))

pub returns-in-Alternative : goal.returns-in-Alternative
returns-in-Alternative g t c =
    let table = c.args.table.now in
    let row = c.args.row in
    let no-letter : c.kind_of-kind.result ≡ Letter → ⊥ = search rules in
    let no-star : c.kind_of-kind.result ≡ Star → ⊥ = search rules in
    let two = is_two _ _ c.kind_of-kind.ensures no-letter no-star in
    λ x own h. c.alt.ensures x
    ∙ sym (walk-two _ _ _ _ _ _ _ _ _ c.if-fuel-eq0.false (part_at part0 refl table row c.word_at-head.ensures refl)
    (part_at part1 refl table row c.word_at-head.ensures c.part1-left.ensures) two.0 two.1
    (part_at part2 refl table row c.word_at-head.ensures c.part2-right.ensures) (c.walk-e.ensures x own h) (c.walk-f.ensures x own h)
    ∙ by-alt _ _ _ _ (counted _ _ _ c.kind_of-kind.ensures c.in-Alternative.is))

pub returns-in_default : goal.returns-in_default
returns-in_default g t c =
    let table = c.args.table.now in
    let row = c.args.row in
    let no-letter : c.kind_of-kind.result ≡ Letter → ⊥ = search rules in
    let no-star : c.kind_of-kind.result ≡ Star → ⊥ = search rules in
    let kind = is_pipe _ _ c.kind_of-kind.ensures no-letter c.in_default.not-Sequence c.in_default.not-Alternative no-star in
    λ x own h. c.pipe.ensures x
    ∙ sym (walk-two _ _ _ _ _ _ _ _ _ c.if-fuel-eq0.false (part_at part0 refl table row c.word_at-head.ensures refl)
    (part_at part1 refl table row c.word_at-head.ensures c.part1-left.ensures) kind.0 kind.3
    (part_at part2 refl table row c.word_at-head.ensures c.part2-right.ensures) (c.walk-e.ensures x own h) (c.walk-f.ensures x own h)
    ∙ by-pipe _ _ _ _ kind.1 kind.2)

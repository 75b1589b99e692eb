-- `trace::record::read_record` meets its contract. Assumes nothing.
use Rattle.std.specs.Prelude.{Some, None}
use Rattle.trace.proofs.Reading.{read-none, read-torn, read-merged}
use Rattle.trace.proofs.record.read_record.Goals as goal

pub returns-in_default : goal.returns-in_default
returns-in_default c = read-none _ _ c.in_default.ensures.cases

pub returns-then-given-follow : goal.returns-then-given-follow
returns-then-given-follow c = read-torn _ _ _ _ _ c.in-Some.ensures.cases.0 c.count-follow.ensures c.if-given-follow.true

pub returns-in_default-merge : goal.returns-in_default-merge
returns-in_default-merge c =
    read-merged _ _ _ _ _ c.in-Some.ensures.cases.0 c.count-follow.ensures None c.if-given-follow.false c.in_default-merge.ensures

pub returns : goal.returns
returns c =
    read-merged _ _ _ _ _ c.in-Some.ensures.cases.0 c.count-follow.ensures (Some c.in-Some-merge.word) c.if-given-follow.false c.in-Some-merge.ensures

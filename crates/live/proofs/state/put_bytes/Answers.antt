-- The bytes of a word, copied as a part, in `live::state::put_bytes`.
use Rattle.std.proofs.Common.{◌∙◌, ap, ◌+◌, ◌-◌, arith}
use borrow.Rule.Slice.PartMut.{put_mid}
use Rattle.live.proofs.StateSteps.{bytes-put}
use Rattle.live.proofs.state.put_bytes.Goals as goal

pub returns : goal.returns
returns c =
    let a = c.args in
    ap (put_mid a.at (a.at + 8 - a.at) a.marks.now) (c.copy_from_slice.ensures.after ∙ c.to_le_bytes.ensures) ∙ bytes-put a.marks.now a.word a.at (omega arith)

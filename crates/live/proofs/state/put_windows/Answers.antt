-- All windows are stored, in `live::state::put_windows`.
use Rattle.std.proofs.Common.{arith}
use Rattle.live.proofs.StateSteps.{windows-stored}
use Rattle.live.proofs.state.put_windows.Goals as goal

pub returns : goal.returns
returns c =
    let l = c.loop-i in
    let a = c.args in
    windows-stored a.windows.now a.state.now l.state l.i c.if-windows-eq0.false l.invariant (omega arith)

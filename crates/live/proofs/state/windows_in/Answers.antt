-- All windows are read, in `live::state::windows_in`.
use Rattle.std.proofs.Common.{arith}
use Rattle.live.proofs.StateSteps.{all-windows}
use Rattle.live.proofs.state.windows_in.Goals as goal

pub returns : goal.returns
returns c =
    let l = c.loop-i in
    all-windows c.args.state.now _ c.part1.ensures c.if-part1-eq0.false l.windows l.i l.invariant (omega arith)

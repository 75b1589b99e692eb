-- The answers to the goals of `monitor::layout::place_bytes`.
use Prim.Native.Nat.{◌+◌}
use native.Mathlib.Omega.{arith}
use Rattle.monitor.proofs.Layouts.{own-bytes}
use Rattle.monitor.proofs.Stored.{put-end}
use Rattle.monitor.proofs.layout.place_bytes.Goals as goal

pub returns : goal.returns
returns c =
    let l = c.loop-i in
    let a = c.args in
    (put-end a.layout.now l.layout a.bytes.now a.at (a.at + l.i) l.i (omega arith) l.invariant.0, own-bytes a.bytes.now (λ j h. l.invariant.1 j (omega (arith, h))))

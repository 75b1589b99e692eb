-- `rules::writes::write_value` meets its contract.
-- Assumes nothing.
use native.Mathlib.Omega.{arith}
use Rattle.rules.proofs.Misreads.{exit, some}
use Rattle.rules.proofs.Stepping.{since, past, inside-text}
use Rattle.rules.proofs.WriteSteps.{fails-too, writing-on, write-room, value-wires, value-large, value_written}
use Rattle.rules.proofs.writes.write_value.Goals as goal

pub write_wire-requires : goal.write_wire-requires
write_wire-requires c = (writing-on c.requires.0 (since _ _ _ c.see-t.ensures c.requires.0.room.inside) (omega (arith, inside-text _ _ _ c.see-t.ensures)), c.requires.1, c.requires.2, c.requires.3, (_, c.see-t.ensures))

pub returns-in_default : goal.returns-in_default
returns-in_default c = value-wires _ _ _ _ _ _ c.see-t.ensures _ _ _ _ c.requires.0.room.inside c.in_default.not-Number _ _ _ _ _ _ c.write_wire.ensures

pub returns-then-largest-value : goal.returns-then-largest-value
returns-then-largest-value c = rw (c.refused.ensures.0, c.refused.ensures.1) (value-large _ _ _ _ _ _ c.see-t.ensures _ _ _ _ c.requires.0.room.inside _ c.in-Number.is _ c.largest.ensures c.if-largest-value.true)

pub with_link-l-requires : goal.with_link-l-requires
with_link-l-requires c =
    let p = past _ _ _ c.see-t.ensures c.in-Number.is tt in
    let (a, b, e, d) = write-room c.requires.0 _ p.0 p.1 in
    (a, b, e, d, omega arith, omega arith, omega arith)

pub returns-in_err-end : goal.returns-in_err-end
returns-in_err-end c = rw (exit _ c.from_residual.ensures.1) (fails-too _ _ _ _ _ _ _ _ _ _ _ _ _ _ _ _ _ _ _ _ _ (value_written _ _ _ _ _ _ c.see-t.ensures _ _ _ _ c.requires.0.room.inside _ c.in-Number.is _ c.largest.ensures c.if-largest-value.false _ _ _ _ c.with_link-l.ensures c.requires.1 _ _ c.in_err-end.ensures) (some _))

pub returns : goal.returns
returns c = value_written _ _ _ _ _ _ c.see-t.ensures _ _ _ _ c.requires.0.room.inside _ c.in-Number.is _ c.largest.ensures c.if-largest-value.false _ _ _ _ c.with_link-l.ensures c.requires.1 _ _ c.in_ok-end.ensures

-- `monitor::tables::place` meets its contract.
-- Assumes nothing.
use native.Mathlib.Omega.{arith}
use Rattle.monitor.proofs.Stored.{put-whole}
use Rattle.monitor.proofs.tables.place.Goals as goal

pub returns : goal.returns
returns c =
    let a = c.args in
    let e = c.requires.1 in
    put-whole a.table.now _ a.words.now a.at _ (omega (arith, e, c.told-table)) (omega (arith, e)) c.copy_from_slice.ensures.after

-- `monitor::positions::monitor_goes` meets its contract.
-- Assumes nothing.
use native.Mathlib.Omega.{arith}
use Rattle.monitor.proofs.TickSteps.{ends_by, monitor-stops, monitor-on}
use Rattle.monitor.specs.Letters.{given}
use Rattle.monitor.specs.Ticks.{firsts_in, layout_with}
use Rattle.monitor.proofs.positions.monitor_goes.Goals as goal

pub returns-then-not-start_goes : goal.returns-then-not-start_goes
returns-then-not-start_goes c =
    let a = c.args in
    monitor-stops (given a.tick.now.tables.now a.tick.now.values.now a.tick.now.words) (layout_with a.layout.now a.monitors a.letters) a.marks.now a.monitor a.memory.now _ _ c.start_goes.ensures c.if-not-start_goes.true

pub first_of-next-requires : goal.first_of-next-requires
first_of-next-requires c = let e = c.next_of.ensures in omega arith

pub returns : goal.returns
returns c =
    let a = c.args in
    let to = ends_by a.monitors a.letters a.monitor _ _ (firsts_in a.layout.now) _ c.next_of.ensures c.first_of-next.ensures c.end_by-to.ensures.0 in
    monitor-on (given a.tick.now.tables.now a.tick.now.values.now a.tick.now.words) (layout_with a.layout.now a.monitors a.letters) a.marks.now a.monitor a.memory.now _ _ _ _ _ c.start_goes.ensures c.if-not-start_goes.false c.first_of-from.ensures (omega arith) (omega arith) to c.letters_go.ensures

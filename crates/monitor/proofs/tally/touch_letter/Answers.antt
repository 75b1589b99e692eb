-- `monitor::tally::touch_letter` meets its contract.
-- Assumes nothing.
use mathlib.Core.List.{[]}
use native.Mathlib.Omega.{arith}
use lib.ListN.{get_or}
use Rattle.monitor.specs.Ticks.{places_in}
use Rattle.monitor.specs.Tally.{counts_by}
use Rattle.monitor.proofs.TallySteps.{letter-behind, letter-alone}
use Rattle.monitor.proofs.tally.touch_letter.Goals as goal

pub more-requires : goal.more-requires
more-requires c = let x = c.part1.ensures in let n = (c.ask_threads.ensures []).1 in (omega (arith, x), omega (arith, n))

pub returns-then-asked-key_of-ne0 : goal.returns-then-asked-key_of-ne0
returns-then-asked-key_of-ne0 c =
    let a = c.args in
    letter-behind (counts_by (get_or a.tables.now 0 []) a.places.now a.costs.now (places_in a.layout.now)) a.letter _ _ _ _ _ _ _ a.asked.now _ c.row_of.ensures c.word_at-place.ensures c.key_of.ensures c.part2.ensures (c.ask_threads.ensures (places_in a.layout.now)) c.more.ensures c.if-asked-key_of-ne0.true c.part1.ensures

pub more-requires-2 : goal.more-requires-2
more-requires-2 c = let x = c.part0.ensures in let n = (c.ask_threads-2.ensures []).1 in (omega (arith, x), omega (arith, n))

pub returns : goal.returns
returns c =
    let a = c.args in
    letter-alone (counts_by (get_or a.tables.now 0 []) a.places.now a.costs.now (places_in a.layout.now)) a.letter _ _ _ _ _ _ _ a.asked.now _ c.row_of.ensures c.word_at-place.ensures c.key_of.ensures c.part2-2.ensures (c.ask_threads-2.ensures (places_in a.layout.now)) c.more-2.ensures c.if-asked-key_of-ne0.false c.part0.ensures

-- `monitor::tally::ask_thread` meets its contract.
-- Assumes nothing.
use mathlib.Core.List.{[]}
use lib.ListN.{get_or}
use Rattle.monitor.specs.Tally.{counts_by}
use Rattle.monitor.proofs.TallySteps.{asked-before, asked-now}
use Rattle.monitor.proofs.tally.ask_thread.Goals as goal

pub returns-then-asked-key-ne0 : goal.returns-then-asked-key-ne0
returns-then-asked-key-ne0 c L =
    let a = c.args in
    asked-before (counts_by (get_or a.tables.now 0 []) a.places.now a.costs.now L) a.row _ _ _ _ a.asked.now c.word_at.ensures c.part2-thread.ensures c.word_at-2.ensures c.key_of-key.ensures c.if-asked-key-ne0.true

pub returns : goal.returns
returns c L =
    let a = c.args in
    asked-now (counts_by (get_or a.tables.now 0 []) a.places.now a.costs.now L) a.row _ _ _ _ a.asked.now c.word_at.ensures c.part2-thread.ensures c.word_at-2.ensures c.key_of-key.ensures c.if-asked-key-ne0.false _ _ c.word_at-3.ensures c.count_in.ensures

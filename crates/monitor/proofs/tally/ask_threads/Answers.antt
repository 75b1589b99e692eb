-- The answers to the goals of `monitor::tally::ask_threads`.
use mathlib.Core.List.{[]}
use native.Mathlib.Omega.{arith}
use lib.ListN.{get_or}
use Rattle.monitor.specs.Tally.{counts_by, ask_threads}
use Rattle.monitor.proofs.TallySteps.{thread-few, chain_first, chain-few, chain_next, chain-cut, chain-end}
use Rattle.monitor.proofs.tally.ask_threads.Goals as goal

pub loop-chain-init : goal.loop-chain-init
loop-chain-init c L = let a = c.args in chain_first (counts_by (get_or a.tables.now 0 []) a.places.now a.costs.now L) a.first a.asked.now

pub more-count-requires : goal.more-count-requires
more-count-requires c =
    let l = c.loop-chain in
    let a = c.args in
    let n = counts_by (get_or a.tables.now 0 []) a.places.now a.costs.now [] in
    (chain-few n _ l.count l.chain l.asked (l.invariant []), thread-few n _ _ l.asked _ (c.ask_thread.ensures []))

pub returns-then-chain-next : goal.returns-then-chain-next
returns-then-chain-next c L =
    let l = c.loop-chain in
    let a = c.args in
    let n = counts_by (get_or a.tables.now 0 []) a.places.now a.costs.now L in
    chain-cut n (ask_threads n a.first a.first a.asked.now) l.count l.chain l.asked _ _ _ _ _ (omega arith) (c.ask_thread.ensures L) c.more-count.ensures c.word_at.ensures c.part2-next.ensures (omega arith) (l.invariant L)

pub loop-chain-preserved : goal.loop-chain-preserved
loop-chain-preserved c L =
    let l = c.loop-chain in
    let a = c.args in
    let n = counts_by (get_or a.tables.now 0 []) a.places.now a.costs.now L in
    chain_next n (ask_threads n a.first a.first a.asked.now) l.count l.chain l.asked _ _ _ _ _ (omega arith) (c.ask_thread.ensures L) c.more-count.ensures c.word_at.ensures c.part2-next.ensures (omega arith) (l.invariant L)

pub returns : goal.returns
returns c L =
    let l = c.loop-chain in
    let a = c.args in
    let n = counts_by (get_or a.tables.now 0 []) a.places.now a.costs.now L in
    chain-end n (ask_threads n a.first a.first a.asked.now) l.count l.chain l.asked (omega arith) (l.invariant L)

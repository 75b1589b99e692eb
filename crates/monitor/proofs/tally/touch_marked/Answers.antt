-- The answers to the goals of `monitor::tally::touch_marked`.
use mathlib.Core.List.{[]}
use Prim.Native.Nat.{◌+◌, ◌-◌}
use native.Mathlib.Omega.{arith}
use lib.ListN.{get_or}
use Rattle.monitor.specs.Ticks.{places_in}
use Rattle.monitor.specs.Tally.{counts_by}
use Rattle.monitor.proofs.Marked.{first_above}
use Rattle.monitor.proofs.TallySteps.{marked-first, marked-few, marked_next, marked_all}
use Rattle.monitor.proofs.tally.touch_marked.Goals as goal

pub loop-letter-init : goal.loop-letter-init
loop-letter-init c =
    let a = c.args in
    marked-first (counts_by (get_or a.tables.now 0 []) a.places.now a.costs.now (places_in a.layout.now)) a.marks.now a.letters _ a.asked.now c.first_marked-letter.ensures

pub more-count-requires : goal.more-count-requires
more-count-requires c =
    let l = c.loop-letter in
    let a = c.args in
    let n = c.touch_letter.ensures.1 in
    (marked-few (counts_by (get_or a.tables.now 0 []) a.places.now a.costs.now (places_in a.layout.now)) a.marks.now _ a.letters l.count l.letter l.asked l.invariant, omega (arith, n))

pub loop-letter-smaller : goal.loop-letter-smaller
loop-letter-smaller c =
    let a = c.args in
    let h = first_above a.marks.now (a.letters - (c.loop-letter.letter + 1)) (c.loop-letter.letter + 1) in
    omega (arith, h, c.first_marked-letter-in-loop-letter.ensures)

pub loop-letter-preserved : goal.loop-letter-preserved
loop-letter-preserved c =
    let l = c.loop-letter in
    let a = c.args in
    marked_next (counts_by (get_or a.tables.now 0 []) a.places.now a.costs.now (places_in a.layout.now)) a.marks.now _ a.letters l.count l.letter l.asked (omega arith) l.invariant _ _ _ _ c.touch_letter.ensures c.more-count.ensures c.first_marked-letter-in-loop-letter.ensures

pub returns : goal.returns
returns c =
    let l = c.loop-letter in
    let a = c.args in
    marked_all (counts_by (get_or a.tables.now 0 []) a.places.now a.costs.now (places_in a.layout.now)) a.marks.now _ a.letters l.count l.letter l.asked (omega arith) l.invariant

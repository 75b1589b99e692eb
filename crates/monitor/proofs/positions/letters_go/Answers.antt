-- The answers to the goals of `monitor::positions::letters_go`.
use Prim.Native.Nat.{◌+◌, ◌-◌}
use mathlib.Core.Path.{◌∙◌}
use native.Mathlib.Omega.{arith}
use Rattle.monitor.proofs.Marked.{first_above}
use Rattle.monitor.proofs.TickSteps.{letters-first, letters-more, letters-stop, letters-all}
use Rattle.monitor.specs.Letters.{given}
use Rattle.monitor.specs.Ticks.{places_in}
use Rattle.monitor.proofs.positions.letters_go.Goals as goal

pub loop-letter-init : goal.loop-letter-init
loop-letter-init c =
    let a = c.args in
    let g = given a.tick.now.tables.now a.tick.now.values.now a.tick.now.words in
    letters-first g (places_in a.layout.now) a.marks.now a.to a.from a.memory.now _ c.first_marked-letter.ensures

pub returns-then-not-letter_goes : goal.returns-then-not-letter_goes
returns-then-not-letter_goes c =
    let a = c.args in
    letters-stop (given a.tick.now.tables.now a.tick.now.values.now a.tick.now.words) (places_in a.layout.now) a.marks.now a.to _ _ _ _ _ (omega arith) c.letter_goes.ensures c.if-not-letter_goes.true c.loop-letter.invariant

pub loop-letter-smaller : goal.loop-letter-smaller
loop-letter-smaller c =
    let l = c.loop-letter in
    let a = c.args in
    let h = first_above a.marks.now (a.to - (l.letter + 1)) (l.letter + 1) in
    omega (arith, h, c.first_marked-letter-in-loop-letter.ensures)

pub loop-letter-preserved : goal.loop-letter-preserved
loop-letter-preserved c =
    let l = c.loop-letter in
    let a = c.args in
    let g = given a.tick.now.tables.now a.tick.now.values.now a.tick.now.words in
    l.invariant ∙ letters-more g (places_in a.layout.now) a.marks.now a.to l.letter l.memory _ _ (omega arith) c.letter_goes.ensures c.if-not-letter_goes.false _ c.first_marked-letter-in-loop-letter.ensures

pub returns : goal.returns
returns c =
    let a = c.args in
    letters-all (given a.tick.now.tables.now a.tick.now.values.now a.tick.now.words) (places_in a.layout.now) a.marks.now a.to _ _ _ (omega arith) c.loop-letter.invariant

-- The answers to the goals of `monitor::tables::writers_of`.
use Prim.Native.Nat.{◌-◌}
use mathlib.Core.Path.{refl, sym, ◌∙◌}
use native.Mathlib.Omega.{arith}
use Rattle.monitor.proofs.Writers.{first-writes, second-writes, none-writes, no-writers}
use Rattle.monitor.proofs.tables.writers_of.Goals as goal
use Rattle.monitor.proofs.tables.writers_of.Goals.{then-links-letter-ne0-via-then-links-letter-ne0, then-links-letter-ne0-via-else-links-letter-ne0+then-links-letter-ne0-2}

pub returns-then-links-letter-ne0 : goal.returns-then-links-letter-ne0
returns-then-links-letter-ne0 c =
    let l = c.loop-letter in
    let t = c.args.links.now in
    elim c.then-links-letter-ne0.branch [
      | then-links-letter-ne0-via-then-links-letter-ne0 w ↦ first-writes t l.letter (l.letter - 1) (omega arith) refl w.if-links-letter-ne0.true
      | then-links-letter-ne0-via-else-links-letter-ne0+then-links-letter-ne0-2 w ↦ second-writes t l.letter (l.letter - 1) (omega arith) refl w.if-links-letter-ne0.false w.if-links-letter-ne0-2.true
    ]
    ∙ sym l.invariant

pub loop-letter-preserved : goal.loop-letter-preserved
loop-letter-preserved c =
    let l = c.loop-letter in
    l.invariant ∙ none-writes c.args.links.now l.letter (l.letter - 1) (omega arith) refl c.if-links-letter-ne0.false c.if-links-letter-ne0-2.false

pub returns : goal.returns
returns c =
    let l = c.loop-letter in
    sym (l.invariant ∙ no-writers c.args.links.now l.letter (omega arith))

-- `monitor::walk_on` meets its contract.
-- Assumes nothing.
use mathlib.Core.Path.{◌∙◌, ap}
use Prim.Native.Nat.{ℕ, min}
use lib.ListN.{get_or}
use Rattle.monitor.proofs.TickSteps.{walk-within}
use Rattle.monitor.specs.Letters.{given}
use Rattle.monitor.specs.Ticks.{places_in, own_in, firsts_in}
use Rattle.monitor.proofs.walk_on.Goals as goal

pub returns : goal.returns
returns c =
    let a = c.args in
    let F = a.layout.now in
    walk-within (given a.tick.now.tables.now a.tick.now.values.now a.tick.now.words) (places_in F) (own_in F) (firsts_in F) (get_or F 576 0) (get_or F 577 0) a.marks.now a.memory.now _ _ _ _ _ _ _
    (c.min-count.ensures ∙ ap (λ (n : ℕ). min n 32) c.monitors_in.ensures) (c.min-end.ensures ∙ ap (λ (n : ℕ). min n 256) c.letters_in.ensures) c.part3-from.ensures
    c.part2.ensures c.min-to.ensures (c.shut_marked.ensures a.tick.now.values.now a.tick.now.words) c.monitors_go.ensures

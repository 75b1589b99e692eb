-- `monitor::tally::touched_in` meets its contract.
-- Assumes nothing.
use mathlib.Core.List.{[]}
use mathlib.Core.Path.{◌∙◌, ap}
use Prim.Native.Nat.{ℕ, min}
use native.Mathlib.Omega.{arith}
use lib.ListN.{get_or}
use Rattle.monitor.specs.Ticks.{places_in, own_in}
use Rattle.monitor.specs.Tally.{counts_by}
use Rattle.monitor.proofs.TallySteps.{both-touched}
use Rattle.monitor.proofs.tally.touched_in.Goals as goal

pub more-requires : goal.more-requires
more-requires c =
    let x = c.touch_starts.ensures [] [] [] in
    let y = c.touch_marked.ensures in
    (omega (arith, x), omega (arith, y))

pub returns : goal.returns
returns c =
    let a = c.args in
    let F = a.layout.now in
    both-touched (counts_by (get_or a.tables.now 0 []) a.places.now a.costs.now (places_in F)) (own_in F) a.marks.now (get_or F 576 0) (get_or F 577 0) _ _ _ _ _
    (c.min-monitors.ensures ∙ ap (λ (n : ℕ). min n 32) c.monitors_in.ensures) (c.min-letters.ensures ∙ ap (λ (n : ℕ). min n 256) c.letters_in.ensures) (c.touch_starts.ensures _ _ _)
    c.touch_marked.ensures c.more.ensures

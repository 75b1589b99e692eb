-- `monitor::positions::letter_at` meets its contract.
-- Assumes nothing.
use mathlib.Core.Path.{◌∙◌, ap, ap₂}
use Prim.Native.Nat.{ℕ, min}
use native.Mathlib.Omega.{arith}
use Rattle.monitor.proofs.TickSteps.{ends_by}
use Rattle.monitor.proofs.Layouts.{no-monitor, a-monitor, no-letter, a-letter}
use Rattle.monitor.specs.Ticks.{firsts_in, letters_end}
use Rattle.monitor.proofs.positions.letter_at.Goals as goal

pub returns-then-min-monitor-clause-place : goal.returns-then-min-monitor-clause-place
returns-then-min-monitor-clause-place c =
    let a = c.args in
    no-monitor a.layout.now a.monitor a.letter _ (c.min.ensures ∙ ap (λ (k : ℕ). min k 32) c.monitors_in-monitors.ensures) (omega arith)

pub first_of-next-requires : goal.first_of-next-requires
first_of-next-requires c = let e = c.next_of.ensures in omega arith

pub returns-then-to-from-clause-place : goal.returns-then-to-from-clause-place
returns-then-to-from-clause-place c =
    let a = c.args in
    let F = a.layout.now in
    let x = a-monitor F a.monitor a.letter _ (c.min.ensures ∙ ap (λ (c : ℕ). min c 32) c.monitors_in-monitors.ensures) (omega arith) _ _ c.first_of-from.ensures
    (ends_by _ _ a.monitor _ _ (firsts_in F) _ c.next_of.ensures c.first_of-next.ensures c.end_by-to.ensures.0
    ∙ ap₂ (λ (m l : ℕ). letters_end (firsts_in F) (min m 32) (min l 256) a.monitor) c.monitors_in-monitors.ensures c.letters_in.ensures) in
    no-letter _ a.letter _ _ x (omega arith)

pub returns-then-to-from-2-clause-place : goal.returns-then-to-from-2-clause-place
returns-then-to-from-2-clause-place c =
    let a = c.args in
    let F = a.layout.now in
    let x = a-monitor F a.monitor a.letter _ (c.min.ensures ∙ ap (λ (c : ℕ). min c 32) c.monitors_in-monitors.ensures) (omega arith) _ _ c.first_of-from.ensures
    (ends_by _ _ a.monitor _ _ (firsts_in F) _ c.next_of.ensures c.first_of-next.ensures c.end_by-to.ensures.0
    ∙ ap₂ (λ (m l : ℕ). letters_end (firsts_in F) (min m 32) (min l 256) a.monitor) c.monitors_in-monitors.ensures c.letters_in.ensures) in
    no-letter _ a.letter _ _ x (omega arith)

pub returns-clause-place : goal.returns-clause-place
returns-clause-place c =
    let a = c.args in
    let F = a.layout.now in
    let x = a-monitor F a.monitor a.letter _ (c.min.ensures ∙ ap (λ (c : ℕ). min c 32) c.monitors_in-monitors.ensures) (omega arith) _ _ c.first_of-from.ensures
    (ends_by _ _ a.monitor _ _ (firsts_in F) _ c.next_of.ensures c.first_of-next.ensures c.end_by-to.ensures.0
    ∙ ap₂ (λ (m l : ℕ). letters_end (firsts_in F) (min m 32) (min l 256) a.monitor) c.monitors_in-monitors.ensures c.letters_in.ensures) in
    a-letter _ a.letter _ _ x (omega arith) c.end_by-to.ensures.1

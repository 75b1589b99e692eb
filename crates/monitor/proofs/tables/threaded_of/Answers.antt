-- `monitor::tables::threaded_of` meets its contract.
-- Assumes nothing.
use Prim.Native.Nat.{ℕ, ◌-◌, ◌<◌, ◌≤◌}
use borrow.Author.Rules.{rules}
use borrow.Author.Tests.{eq-eqb, ne_eqb}
use lib.Dec.{eqb}
use lib.ListN.{get_or}
use mathlib.Core.Path.{◌≡◌}
use Rattle.monitor.proofs.Writers.{up-to-is}
use Rattle.monitor.proofs.tables.threaded_of.Goals as goal

pub returns : goal.returns
returns c =
    let t = c.args.threads.now in
    let r = c.map_or.result in
    let low : r ≤ 256 = search rules in
    let behind : (i : ℕ) → r ≤ i → i < 256 → get_or t i 0 ≡ 0 = search rules in
    let last : 0 < r → get_or t (r - 1) 0 ≡ 0 → ⊥ = search rules in
    up-to-is (λ i. eqb (get_or t i 0) 0) 256 r low (λ i h k. eq-eqb (get_or t i 0) 0 (behind i h k)) (λ h. ne_eqb (get_or t (r - 1) 0) 0 (last h))

-- `monitor::tables::unthreaded_of` meets its contract.
-- Assumes nothing.
use Prim.Native.Nat.{ℕ, ◌<◌, ◌≤◌}
use borrow.Author.Rules.{rules}
use lib.ListN.{get_or}
use mathlib.Core.Path.{◌≡◌}
use Rattle.monitor.proofs.Marked.{first-of}
use Rattle.monitor.proofs.tables.unthreaded_of.Goals as goal

pub returns : goal.returns
returns c =
    let t = c.args.threads.now in
    let r = c.unwrap_or.result in
    let low : r ≤ 256 = search rules in
    let before : (j : ℕ) → j < r → get_or t j 0 ≡ 0 = search rules in
    let here : r < 256 → get_or t r 0 ≡ 0 → ⊥ = search rules in
    first-of t 256 r low before here

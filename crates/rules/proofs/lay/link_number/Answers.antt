-- `rules::lay::link_number` meets its contract.
-- Assumes nothing.
use native.Mathlib.Omega.{arith}
use Prim.Native.Nat.{ℕ, ◌-◌, ◌^◌}
use mathlib.Core.Path.{◌≡◌, ◌∙◌, ap}
use Prim.Native.Nat.{min}
use Rattle.rules.proofs.Slots.{number-kept, ones-kept}
use Rattle.rules.proofs.lay.link_number.Goals as goal

pub returns-then-width-eq0 : goal.returns-then-width-eq0
returns-then-width-eq0 c = number-kept _ _ c.if-width-eq0.true

pub returns : goal.returns
returns c =
    let e : c.min.result ≡ min c.args.width 64 = omega (arith, c.min.ensures) in
    c.largest.ensures ∙ ap (λ (n : ℕ). 2 ^ n - 1) e ∙ ones-kept _ _ c.if-width-eq0.false

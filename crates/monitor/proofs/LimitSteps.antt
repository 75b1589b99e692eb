-- The limits at a tick, by the code's branches. Assumes nothing.
use mathlib.Core.Path.{◌≡◌, refl, sym, ◌∙◌, ap}
use mathlib.Core.Bool.{cond}
use mathlib.Core.List.{List}
use Prim.Native.Nat.{ℕ, ◌+◌, ◌<◌, ◌≤◌, min}
use native.Mathlib.Omega.{arith}
use borrow.Author.Tests.{eq-eqb, ne_eqb, lt-ltb, le-ltb}
use lib.ListN.{get_or}
use Rattle.lexer.proofs.Bools.{taken, left}
use Rattle.std.specs.Prelude.{Option, None, Some}
use Rattle.std.specs.Option.{unwrap_or}
use Rattle.windows.specs.Windows.{limits_at, first_beyond, shown_limit}
use Rattle.monitor.specs.Ticks.{stuck_at}
use Rattle.monitor.specs.Limited.{unlimited, answer_by}

-- there are no limits, or some
module _ {A : Type 0} (W : List ℕ) (x y z : A) where
  pub no-limits : get_or W limits_at 0 ≡ 0 → z ≡ x → z ≡ cond (unlimited W) x y
  no-limits h e = e ∙ sym (taken (unlimited W) x y (eq-eqb (get_or W limits_at 0) 0 h))

  pub some-limits : (get_or W limits_at 0 ≡ 0 → ⊥) → z ≡ y → z ≡ cond (unlimited W) x y
  some-limits h e = e ∙ sym (left (unlimited W) x y (ne_eqb (get_or W limits_at 0) 0 h))

-- the lowest limit that a tick is beyond, and 8 for none
pub beyond-or-none : (o : Option ℕ) → unwrap_or o 8 ≡ shown_limit o
beyond-or-none None = refl
beyond-or-none (Some n) = refl

-- the monitor reached, or a limit
module _ (i m n : ℕ) (e : n ≡ min m 32) (W : List ℕ) (x : ℕ) where
  pub monitor-told : i < n → i ≡ answer_by i m W x
  monitor-told h = sym (taken (stuck_at i m) i (32 + first_beyond W x) (lt-ltb i (min m 32) (omega (arith, e, h))))

  pub limit-told : n ≤ i → (k : ℕ) → k ≡ first_beyond W x → 32 + k ≡ answer_by i m W x
  limit-told h k d = ap (λ (j : ℕ). 32 + j) d ∙ sym (left (stuck_at i m) i (32 + first_beyond W x) (le-ltb i (min m 32) (omega (arith, e, h))))

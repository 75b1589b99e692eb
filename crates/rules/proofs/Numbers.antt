-- Numbers of ones. Assumes nothing.
use mathlib.Core.Path.{◌≡◌, ◌∙◌}
use Prim.Native.Nat.{ℕ, ◌*◌, ◌%◌, ◌^◌, ◌≤◌}
use native.Mathlib.Omega.{arith}
use lib.Pow.{pow_pos, shl_exact}

-- one bit moved up and lessened by one
pub ones : (width : ℕ) → width ≤ 64 → (width ≡ 64 → ⊥) → (1 * 2 ^ width) % 2 ^ 64 ≡ 2 ^ width
ones width l n = shl_exact 1 width 64 (omega arith) (omega arith) ∙ (let e : 1 * 2 ^ width ≡ 2 ^ width = omega arith in e)

pub ones-some : (width : ℕ) → 1 ≤ 2 ^ width
ones-some width = pow_pos width

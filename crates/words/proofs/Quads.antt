-- A word's parts are the numbers that it was made of. Assumes nothing.
use mathlib.Core.Path.{◌≡◌}
use Prim.Native.Nat.{ℕ, ◌<◌}
use native.Mathlib.Omega.{arith}
use Rattle.words.specs.Words.{quad, part0, part1, part2, part3}

module _ (a b c d : ℕ) where
  pub quad-0 : a < 65536 → part0 (quad a b c d) ≡ a
  quad-0 h = omega arith

  pub quad-1 : b < 65536 → part1 (quad a b c d) ≡ b
  quad-1 h = omega arith

  pub quad-2 : c < 65536 → part2 (quad a b c d) ≡ c
  quad-2 h = omega arith

  pub quad-3 : d < 65536 → part3 (quad a b c d) ≡ d
  quad-3 h = omega arith

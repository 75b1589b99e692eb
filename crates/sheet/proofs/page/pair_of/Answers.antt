-- `sheet::page::pair_of` meets its contract. Assumes nothing.
use native.Mathlib.Omega.{arith}
use Rattle.sheet.specs.Digits.{pair_of}
use Rattle.sheet.proofs.page.pair_of.Goals as goal

pub returns : goal.returns
unfolding pair_of
returns c = omega arith

-- A range that is too short for a watch, and one that is not. Assumes nothing.
use mathlib.Core.Path.{◌≡◌, sym, ◌∙◌}
use mathlib.Core.List.{List}
use borrow.Author.Tests.{eq-eqb, ne_eqb}
use lib.Dec.{eqb}
use lib.ListN.{length}
use Rattle.lexer.proofs.Bools.{taken, left}
use Rattle.live.specs.Calls.{Words}
use Rattle.live.specs.Ranges.{of_first}

module _ {A : Type 0} (R : List Words) (short a : A) where
  pub too_short : length R ≡ 0 → short ≡ of_first R short a
  too_short e = sym (taken (eqb (length R) 0) short a (eq-eqb (length R) 0 e))

  pub by_first : (length R ≡ 0 → ⊥) → (x : A) → x ≡ a → x ≡ of_first R short a
  by_first n x e = e ∙ sym (left (eqb (length R) 0) short a (ne_eqb (length R) 0 n))

-- How often letters were met, by the code's loops and branches. Assumes nothing.
use mathlib.Core.Path.{◌≡◌, refl, sym, ◌∙◌, ap}
use mathlib.Core.Bool.{Bool, true, false, cond}
use mathlib.Core.List.{List}
use Prim.Native.Nat.{ℕ, suc, ◌+◌, ◌%◌}
use native.Mathlib.Omega.{arith}
use borrow.Author.Tests.{eq-eqb, ne_eqb}
use lib.Dec.{eqb}
use lib.ListN.{get_or, set}
use lib.Seq.{set-get_or}
use Rattle.monitor.specs.Ticks.{if_marked, one_more}
use Rattle.lexer.proofs.Bools.{taken, left}

pub not-counted : (n k : ℕ) → k ≡ 0 → n ≡ cond (eqb k 0) n (suc n % 4294967296)
not-counted n k z = sym (taken (eqb k 0) n _ (eq-eqb k 0 z))

pub one-counted : (n k : ℕ) → (k ≡ 0 → ⊥) → (n + 1) % 4294967296 ≡ cond (eqb k 0) n (suc n % 4294967296)
one-counted n k z =
    let e : n + 1 ≡ suc n = omega arith in
    ap (λ (m : ℕ). m % 4294967296) e ∙ sym (left (eqb k 0) n _ (ne_eqb k 0 z))

-- a letter that is not marked is stored as it was
pub counted_if : (K : List ℕ) (l : ℕ) (ns : List ℕ) (n : ℕ) → n ≡ cond (eqb (get_or K l 0) 0) (get_or ns l 0) (suc (get_or ns l 0) % 4294967296) → set ns l n ≡ if_marked K one_more l ns
counted_if K l ns n e = ap (set ns l) e ∙ by (eqb (get_or K l 0) 0)
  where
    by : (b : Bool) → set ns l (cond b (get_or ns l 0) (suc (get_or ns l 0) % 4294967296)) ≡ cond b ns (one_more l ns)
    by true = set-get_or ns l 0
    by false = refl

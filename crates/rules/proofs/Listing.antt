-- Monitors that are listed one by one. Assumes nothing.
use mathlib.Core.Path.{◌≡◌, refl, subst, sym, ◌∙◌, ap}
use mathlib.Core.List.{List, [], ◌∷◌, ◌++◌}
use Prim.Native.Nat.{ℕ, suc, ◌+◌, ◌<◌, ◌≤◌}
use native.Mathlib.Omega.{arith}
use lib.ListN.{length, get_or, set, length-append}
use lib.Seq.{get_or-set_same, get_or-set_other}
use Rattle.meaning.specs.Expression.{Exp}
use Rattle.rules.specs.Cells.{ProductionAt}
use Rattle.rules.specs.Monitors.{Listed, MonitorsAre}

module _ (P : List ℕ) (c : ℕ) (M : List ℕ) where
  pub monitors-none : c ≤ length P → MonitorsAre P c M 0 []
  unfolding Listed
  monitors-none l = record { within = l; number = refl; few = omega arith; cells = tt }

  -- one more, behind those from number i on
  module _ (m : Exp) (cell n : ℕ) (l : n < length M) (p : ProductionAt P c cell m) where
    listed_more : (i : ℕ) (ms : List Exp) → n ≡ i + length ms → Listed P c M i ms → Listed P c (set M n cell) i (ms ++ (m ∷ []))
    unfolding Listed
    listed_more i [] e k =
        let q : i ≡ n = omega arith in
        (subst (λ (h : ℕ). ProductionAt P c h m) (sym (ap (λ (j : ℕ). get_or (set M n cell) j 0) q ∙ get_or-set_same M n cell 0 l)) p, tt)
    listed_more i (x ∷ xs) e (h, k) = (
      subst (λ (h : ℕ). ProductionAt P c h x) (sym (get_or-set_other M n i cell 0 (λ (z : i ≡ n). omega arith))) h,
      listed_more (suc i) xs (omega arith) k,
    )

    pub monitors-more : (ms : List Exp) → MonitorsAre P c M n ms → n < 32 → MonitorsAre P c (set M n cell) (n + 1) (ms ++ (m ∷ []))
    monitors-more ms w b = record {
      within = w.within;
      number = omega (arith, w.number, length-append ms (m ∷ []));
      few = omega arith;
      cells = listed_more 0 ms (omega (arith, w.number)) w.cells;
    }

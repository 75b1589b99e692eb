-- Accepted monitors of at most 256 letters have fewer than 1,024 rows: no star is directly the body of a star.
use mathlib.Core.List.{List, [], ◌∷◌, map}
use mathlib.Core.Bool.{Bool, true, false, not, cond}
use mathlib.Core.Option.{Option, none, some}
use mathlib.Core.Path.{◌≡◌, refl, sym, subst}
use Prim.Native.Nat.{ℕ, ◌+◌, ◌*◌, ◌≤◌, ◌<◌}
use native.Mathlib.Omega.{arith}
use lib.Dec.{T}
use Rattle.meaning.specs.Lists.{◌∈◌, total}
use Rattle.meaning.specs.Expression.{Exp, letter, seq, alt, star, pipe, size, rows, renumbered}
use Rattle.meaning.specs.Shape.{nullable}
use Rattle.meaning.specs.ShapeTests.{accepted, shape}
use Rattle.meaning.specs.Summary.{or_later, unless_nullable, hollow_at}
use Rattle.meaning.proofs.ListLaws.{here, there, map-∈, clash}
use Rattle.meaning.proofs.Step.{Solid}
use Rattle.meaning.proofs.Numbering.{renumbered-size, renumbered-rows}
use Rattle.meaning.proofs.Accept.{accept-solid}

-- the second for parts that are not nullable
bounds : (e : Exp) → Solid e → (rows e + 2 ≤ 4 * size e) × (T (not (nullable e)) → rows e + 3 ≤ 4 * size e)
unfolding rows size nullable
bounds (letter l) s = (omega arith, λ t. omega arith)
bounds (seq e f) s = let (a, b) = bounds e s.0 in let (c, d) = bounds f s.1 in (omega arith, λ t. omega arith)
bounds (alt e f) s = let (a, b) = bounds e s.0 in let (c, d) = bounds f s.1 in (omega arith, λ t. omega arith)
bounds (star e) s = let h = (bounds e s.1).1 s.0 in (omega arith, λ t. absurd t)
bounds (pipe e f) s = let (a, b) = bounds e s.2 in let (c, d) = bounds f s.3 in (omega arith, λ t. omega arith)

-- one monitor
pub rows_bound : (m : Exp) → shape m ≡ accepted → rows m + 3 ≤ 4 * size m
rows_bound m p = let s = accept-solid m p in (bounds m s.1).1 s.0

-- ---- the same from a monitor's summary, before rules 11 and 12 are asked

neither : (a b : Option ℕ) (k : ℕ) → or_later a k b ≡ none → (a ≡ none) × (b ≡ none)
neither none none k h = (refl, refl)
neither none (some b) k h = clash (cc)
neither (some a) b k h = clash (cc)

kept : (e : Exp) (o : Option ℕ) → unless_nullable e o ≡ none → T (not (nullable e)) × (o ≡ none)
kept e o h = by (nullable e) h
  where
    by : (b : Bool) → cond b (some 0) o ≡ none → T (not b) × (o ≡ none)
    by true h = clash (cc)
    by false h = (tt, h)

solid-summary : (e : Exp) → hollow_at e ≡ none → Solid e
unfolding hollow_at
solid-summary (letter l) h = tt
solid-summary (seq e f) h = let (a, b) = neither (hollow_at e) (hollow_at f) (size e) h in (solid-summary e a, solid-summary f b)
solid-summary (alt e f) h = let (a, b) = neither (hollow_at e) (hollow_at f) (size e) h in (solid-summary e a, solid-summary f b)
solid-summary (star e) h = let (t, a) = kept e (hollow_at e) h in (t, solid-summary e a)
solid-summary (pipe e f) h =
    let (a, b) = neither (unless_nullable e (hollow_at e)) (unless_nullable f (hollow_at f)) (size e) h in
    let (t, x) = kept e (hollow_at e) a in
    let (u, y) = kept f (hollow_at f) b in
    (t, u, solid-summary e x, solid-summary f y)

pub rows-summary : (m : Exp) → unless_nullable m (hollow_at m) ≡ none → rows m + 3 ≤ 4 * size m
rows-summary m h = let (t, a) = kept m (hollow_at m) h in (bounds m (solid-summary m a)).1 t

abbrev AllShaped : List Exp → Type 0
AllShaped ms = (m : Exp) → m ∈ ms → shape m ≡ accepted

total-bound : (ms : List Exp) → AllShaped ms → total rows ms ≤ 4 * total size ms
total-bound [] h = omega arith
total-bound (m ∷ ms) h = omega (arith, rows_bound m (h m (here refl)), total-bound ms (λ n i. h n (there i)))

-- all monitors together
pub rows-below-1024 : (ms : List Exp) → ((m : Exp) → m ∈ ms → shape m ≡ accepted) → total size ms ≤ 256 → total rows ms < 1024
rows-below-1024 [] h b = omega arith
rows-below-1024 (m ∷ ms) h b = omega (arith, rows_bound m (h m (here refl)), total-bound ms (λ n i. h n (there i)))

pub total-renumbered : (f : Exp → ℕ) → ((e : Exp) → f (renumbered 0 e) ≡ f e) → (ms : List Exp) → total f (map (renumbered 0) ms) ≡ total f ms
total-renumbered f same [] = refl
total-renumbered f same (m ∷ ms) = rw (same m, total-renumbered f same ms)

-- the same where the letters have yet to be numbered
pub renumbered-below-1024 : (ms : List Exp) → ((m : Exp) → m ∈ ms → shape (renumbered 0 m) ≡ accepted) → total size ms ≤ 256 → total rows ms < 1024
renumbered-below-1024 ms h b =
    subst (λ n. n < 1024) (total-renumbered rows (renumbered-rows 0) ms)
    (rows-below-1024 (map (renumbered 0) ms)
    (λ m i. let (e, j, p) = map-∈ (renumbered 0) ms i in subst (λ z. shape z ≡ accepted) p (h e j))
    (subst (λ n. n ≤ 256) (sym (total-renumbered size (renumbered-size 0) ms)) b))

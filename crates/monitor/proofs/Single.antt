-- F17 in a watch's marks: where these are the machine's positions, each thread has at most one letter of its own marked. Assumes nothing.
use mathlib.Core.Path.{◌≡◌, refl, sym, ap, ◌∙◌, subst}
use mathlib.Core.Bool.{Bool}
use mathlib.Core.List.{List, [], ◌∷◌}
use mathlib.Core.Logic.{⊎_elim}
use Prim.Native.Nat.{ℕ, suc, ◌+◌, ◌≤◌}
use native.Mathlib.Omega.{arith}
use lib.Dec.{T}
use lib.ListN.{get_or}
use Rattle.meaning.specs.Lists.{◌∈◌, count}
use Rattle.meaning.specs.Expression.{Letter, Exp, own, size, renumbered, Ordered}
use Rattle.meaning.specs.Shape.{threads}
use Rattle.meaning.specs.Fit.{Tick, among}
use Rattle.meaning.specs.Numbered.{numbered_from}
use Rattle.meaning.specs.Positions.{Positions, at_start, on}
use Rattle.meaning.proofs.ListLaws.{here, there, cons-∈, no-∈, map-∈}
use Rattle.meaning.proofs.Threads.{among-to, among-from, own-letters, threads-letters}
use Rattle.meaning.proofs.Monitor.{Accepted}
use Rattle.meaning.proofs.Sets.{Alike}
use Rattle.meaning.proofs.Occupied.{counted-one, Steady, steady-after}
use Rattle.meaning.proofs.Watch.{Tracked}
use Rattle.meaning.proofs.Numbering.{between}
use Rattle.meaning.proofs.Shifted.{shift_letter, shift_positions, shifted, renumbered-shifted, own-shifted, threads-shifted}
use Rattle.monitor.proofs.Going.{MarksAre}
use Rattle.monitor.proofs.Moves.{in_shift, MarksAll}
use Rattle.monitor.proofs.Monitors.{active}
use Rattle.monitor.proofs.ShutRows.{in-marked, marks-active}

-- ---- one monitor's positions

-- where at most one of a list is counted, two that are counted are the same
one_of : (c : ℕ → Bool) (ns : List ℕ) → count c ns ≤ 1 → (a b : ℕ) → a ∈ ns → b ∈ ns → T (c a) → T (c b) → a ≡ b
one_of c [] h a b i j p q = absurd (no-∈ i)
one_of c (n ∷ ns) h a b i j p q = ⊎_elim
    (λ x. ⊎_elim (λ y. x ∙ sym y) (λ y. absurd (two a b x y p q)) (cons-∈ j))
    (λ x. ⊎_elim (λ y. absurd (two b a y x q p)) (λ y. one_of c ns (omega (arith, h)) a b x y p q) (cons-∈ j))
    (cons-∈ i)
  where
    two : (a b : ℕ) → a ≡ n → b ∈ ns → T (c a) → T (c b) → ⊥
    two a b x j p q = let u = counted-one c a (n ∷ []) (here x) p in let v = counted-one c b ns j q in omega (arith, h, u, v)

-- x is the same set as y, in which a thread has one letter at most: two active letters of x that are one thread's own are the same
one_each : (m : Exp) (x y : Positions) → Alike x y → Steady m y → (f : Exp) → f ∈ threads m → (a b : ℕ) → a ∈ active x → b ∈ active x → T (among (own f) a) → T (among (own f) b) → a ≡ b
one_each m at_start y h s f k a b i j p q = absurd (no-∈ i)
one_each m (on ns) at_start h s f k a b i j p q = absurd h
one_each m (on ns) (on ms) h s f k a b i j p q = one_of (among (own f)) ms (s.1.each f k) a b (h.0 a i) (h.0 b j) p q

-- ---- a monitor numbered from l on

module _ (l : ℕ) where
  active-shifted : (x : Positions) (n : ℕ) → l + n ∈ active (shift_positions l x) → n ∈ active x
  active-shifted at_start n i = absurd (no-∈ i)
  active-shifted (on ns) n i = in_shift l n ns i

module _ (K : List ℕ) where
  -- each thread of m has at most one letter of its own marked
  abbrev OneMarked : Exp → Type 0
  OneMarked m = (f : Exp) → f ∈ threads m → (a b : ℕ) → T (among (own f) a) → T (among (own f) b) → (get_or K a 0 ≡ 0 → ⊥) → (get_or K b 0 ≡ 0 → ⊥) → a ≡ b

  -- a marked letter that is an own letter of a thread is active, but for its number
  own-active : (i l : ℕ) (m : Exp) (x : Positions) → Ordered 0 m → MarksAre K i (size m) l (shift_positions l x) → (f : Exp) → f ∈ threads m
      → (a : ℕ) → T (among (own (shifted l f)) a) → (get_or K a 0 ≡ 0 → ⊥) → (n : ℕ) × (l + n ≡ a) × (n ∈ active x) × T (among (own f) n)
  own-active i l m x o h f k a p u =
      let (z, j, e) = among-to (own (shifted l f)) a p in
      let (y, w, d) = map-∈ (shift_letter l) (own f) (subst (λ ls. z ∈ ls) (own-shifted l f) j) in
      let (_, s) = between 0 m o y (threads-letters m f k y (own-letters f y w)) in
      let q : l + y.number ≡ a = ap (λ (t : Letter). t.number) d ∙ e in (
        y.number,
        q,
        active-shifted l x y.number
            (subst (λ ns. l + y.number ∈ ns) (marks-active K i (size m) l (shift_positions l x) h)
            (in-marked K (size m) l (l + y.number) (omega arith) (omega (arith, s)) (λ z. u (ap (λ (t : ℕ). get_or K t 0) (sym q) ∙ z)))),
        among-from (own f) y w,
      )

  -- so at most one of them is marked, in a monitor whose marks are x
  one_monitor : (i l : ℕ) (m : Exp) (x y : Positions) → Ordered 0 m → MarksAre K i (size m) l (shift_positions l x) → Alike x y → Steady m y → OneMarked (renumbered l m)
  one_monitor i l m x y o h r s = subst OneMarked (sym (renumbered-shifted l l 0 m (omega arith) o)) (λ f k a b p q u v.
      let (g, j, e) = map-∈ (shifted l) (threads m) (subst (λ fs. f ∈ fs) (threads-shifted l m) k) in
      let (n, c, d, w) = own-active i l m x o h g j a (subst (λ (z : Exp). T (among (own z) a)) (sym e) p) u in
      let (n', c', d', w') = own-active i l m x o h g j b (subst (λ (z : Exp). T (among (own z) b)) (sym e) q) v in
      sym c ∙ ap (λ (z : ℕ). l + z) (one_each m x y r s g j n n' d d' w w') ∙ c')

  -- ---- all monitors

  pub one-marked : (ts : List Tick) (i l : ℕ) (ms : List Exp) (xs : List Positions) → ((m : Exp) → m ∈ ms → Ordered 0 m × Accepted m) → MarksAll K i l ms xs → Tracked ms ts xs
      → (m : Exp) → m ∈ numbered_from l ms → OneMarked m
  unfolding numbered_from MarksAll
  one-marked ts i l [] xs o h t m j = absurd (no-∈ j)
  one-marked ts i l (k ∷ ms) [] o h t m j = absurd h
  one-marked ts i l (k ∷ ms) (x ∷ xs) o h t m j = ⊎_elim
      (λ e. let (y, p, r) = t.0 in
      let (a, b) = o k (here refl) in
      subst OneMarked (sym e) (one_monitor i l k x y a h.0 r (steady-after k b ts at_start y tt p)))
      (λ e. one-marked ts (suc i) (l + size k) ms xs (λ n u. o n (there u)) h.1 t.1 m e)
      (cons-∈ j)

-- What `shape` answers: each rule exactly at the lowest letter at fault, where the rules before it find none.
use mathlib.Core.List.{List, [], ◌∷◌}
use mathlib.Core.Path.{◌≡◌, refl, sym, ap, ◌∙◌, subst}
use mathlib.Core.Logic.{◌⊎◌, inl, inr, ⊎_elim, ◌↔◌}
use Prim.Native.Nat.{ℕ, ◌≤◌, ◌<◌, min}
use native.Mathlib.Omega.{arith}
use native.Mathlib.Decide.{dec_lt}
use Rattle.meaning.specs.Lists.{◌∈◌}
use Rattle.meaning.specs.Expression.{Exp}
use Rattle.meaning.specs.Shape.{UnsatisfiableAt, NullableAt, OpenEndAt, AmbiguousAt, Never, Lowest}
use Rattle.meaning.specs.ShapeTests.{SizedLetters, unsatisfiable, nullables, open_ends, ambiguous, least, Shape, accepted, turned_away, first_of, shape}
use Rattle.meaning.proofs.ListLaws.{here, there, cons-∈, no-∈, ∈-cast, clash}
use Rattle.meaning.proofs.Rules.{unsatisfiable-at, nullable-at, open-end-at, ambiguous-at}

-- ---- the least of a list ----

min-either : (a b : ℕ) → (min a b ≡ a) ⊎ (min a b ≡ b)
min-either a b = elim (dec_lt a b) [ yes l ↦ inl (omega arith) | no g ↦ inr (omega arith) ]

least-below : (a : ℕ) (bs : List ℕ) → least a bs ≤ a
least-below a [] = omega arith
least-below a (b ∷ bs) = omega (arith, least-below (min a b) bs)

pub least-le : (a : ℕ) (bs : List ℕ) (k : ℕ) → k ∈ a ∷ bs → least a bs ≤ k
least-le a [] k i = ⊎_elim (λ p. omega arith) (λ j. absurd (no-∈ j)) (cons-∈ i)
least-le a (b ∷ bs) k i = ⊎_elim
    (λ p. omega (arith, least-below (min a b) bs))
    (λ j. ⊎_elim (λ p. omega (arith, least-below (min a b) bs)) (λ l. least-le (min a b) bs k (there l)) (cons-∈ j))
    (cons-∈ i)

pub least-in : (a : ℕ) (bs : List ℕ) → least a bs ∈ a ∷ bs
least-in a [] = here refl
least-in a (b ∷ bs) = ⊎_elim
    (λ p. ⊎_elim (λ q. here (p ∙ q)) (λ q. there (here (p ∙ q))) (min-either a b))
    (λ i. there (there i))
    (cons-∈ (least-in (min a b) bs))

-- ---- one rule after the other ----

-- s names no rule up to r
abbrev Above : ℕ → Shape → Type 0
Above r s = (k n : ℕ) → s ≡ turned_away k n → r < k

above-accepted : (r : ℕ) → Above r accepted
above-accepted r k n p = clash (cc)

above-first : (r rule : ℕ) (ns : List ℕ) (s : Shape) → r < rule → Above r s → Above r (first_of rule ns s)
above-first r rule [] s lt h k n p = h k n p
above-first r rule (m ∷ ms) s lt h k n p = let q : rule ≡ k = cc in omega arith

module _ (rule : ℕ) (ns : List ℕ) (s : Shape) {P : ℕ → Type 0} (exactly : (n : ℕ) → n ∈ ns ↔ P n) where
  -- this rule
  here-exactly : Above rule s → (n : ℕ) → first_of rule ns s ≡ turned_away rule n ↔ Lowest P n
  here-exactly above n = (to ns refl, from ns refl)
    where
      to : (ms : List ℕ) → ms ≡ ns → first_of rule ms s ≡ turned_away rule n → Lowest P n
      to [] q p = absurd (let lt = above rule n p in omega arith)
      to (a ∷ bs) q p =
          let e : least a bs ≡ n = cc in (
            (exactly n).0 (subst (λ l. n ∈ l) q (∈-cast (sym e) (least-in a bs))),
            λ k h. let le = least-le a bs k (subst (λ l. k ∈ l) (sym q) ((exactly k).1 h)) in omega arith,
          )

      from : (ms : List ℕ) → ms ≡ ns → Lowest P n → first_of rule ms s ≡ turned_away rule n
      from [] q (h, low) = absurd (no-∈ (subst (λ l. n ∈ l) (sym q) ((exactly n).1 h)))
      from (a ∷ bs) q (h, low) =
          let le = least-le a bs n (subst (λ l. n ∈ l) (sym q) ((exactly n).1 h)) in
          let ge = low (least a bs) ((exactly (least a bs)).0 (subst (λ l. least a bs ∈ l) q (least-in a bs))) in
          let e : least a bs ≡ n = omega arith in
          ap (turned_away rule) e

  -- what comes after it
  later-exactly : {Q : Type 0} (u : Shape) → ((n : ℕ) → u ≡ turned_away rule n → ⊥) → (s ≡ u ↔ Q) → first_of rule ns s ≡ u ↔ (Never P × Q)
  later-exactly {Q} u other rest = (to ns refl, from ns refl)
    where
      to : (ms : List ℕ) → ms ≡ ns → first_of rule ms s ≡ u → Never P × Q
      to [] q p = ((λ k h. no-∈ (subst (λ l. k ∈ l) (sym q) ((exactly k).1 h))), rest.0 p)
      to (a ∷ bs) q p = absurd (other (least a bs) (sym p))

      from : (ms : List ℕ) → ms ≡ ns → Never P × Q → first_of rule ms s ≡ u
      from [] q (h, x) = rest.1 x
      from (a ∷ bs) q (h, x) = absurd (h a ((exactly a).0 (subst (λ l. a ∈ l) q (here refl))))

-- ---- the answers ----

module _ (m : Exp) (sized : SizedLetters m) where
  -- past a rule, to an answer that is not this rule's
  past-9 : {s : Shape} {Q : Type 0} (u : Shape) → ((n : ℕ) → u ≡ turned_away 9 n → ⊥) → (s ≡ u ↔ Q)
      → first_of 9 (unsatisfiable m) s ≡ u ↔ (Never (UnsatisfiableAt m) × Q)
  past-9 {s} u = later-exactly 9 (unsatisfiable m) s (unsatisfiable-at m sized) u

  past-10 : {s : Shape} {Q : Type 0} (u : Shape) → ((n : ℕ) → u ≡ turned_away 10 n → ⊥) → (s ≡ u ↔ Q)
      → first_of 10 (nullables m) s ≡ u ↔ (Never (NullableAt m) × Q)
  past-10 {s} u = later-exactly 10 (nullables m) s (nullable-at m) u

  past-11 : {s : Shape} {Q : Type 0} (u : Shape) → ((n : ℕ) → u ≡ turned_away 11 n → ⊥) → (s ≡ u ↔ Q)
      → first_of 11 (open_ends m) s ≡ u ↔ (Never (OpenEndAt m) × Q)
  past-11 {s} u = later-exactly 11 (open_ends m) s (open-end-at m) u

  above-12 : (r : ℕ) → r < 12 → Above r (first_of 12 (ambiguous m) accepted)
  above-12 r lt = above-first r 12 (ambiguous m) accepted lt (above-accepted r)

  above-11 : (r : ℕ) → r < 11 → Above r (first_of 11 (open_ends m) (first_of 12 (ambiguous m) accepted))
  above-11 r lt = above-first r 11 (open_ends m) _ lt (above-12 r (omega arith))

  pub shape-9 : (n : ℕ) → shape m ≡ turned_away 9 n ↔ Lowest (UnsatisfiableAt m) n
  unfolding shape
  shape-9 n = here-exactly 9 (unsatisfiable m) _ (unsatisfiable-at m sized) (above-first 9 10 (nullables m) _ (omega arith) (above-11 9 (omega arith))) n

  pub shape-10 : (n : ℕ) → shape m ≡ turned_away 10 n ↔ (Never (UnsatisfiableAt m) × Lowest (NullableAt m) n)
  unfolding shape
  shape-10 n = past-9 (turned_away 10 n) (λ k p. clash (cc)) (here-exactly 10 (nullables m) _ (nullable-at m) (above-11 10 (omega arith)) n)

  pub shape-11 : (n : ℕ) → shape m ≡ turned_away 11 n ↔ (Never (UnsatisfiableAt m) × Never (NullableAt m) × Lowest (OpenEndAt m) n)
  unfolding shape
  shape-11 n = (λ p. let (a, (b, c)) = nested.0 p in (a, b, c), λ (a, b, c). nested.1 (a, (b, c)))
    where
      nested : shape m ≡ turned_away 11 n ↔ (Never (UnsatisfiableAt m) × (Never (NullableAt m) × Lowest (OpenEndAt m) n))
      nested = past-9 (turned_away 11 n) (λ k p. clash (cc)) (past-10 (turned_away 11 n) (λ k p. clash (cc))
          (here-exactly 11 (open_ends m) _ (open-end-at m) (above-12 11 (omega arith)) n))

  pub shape-12 : (n : ℕ) → shape m ≡ turned_away 12 n ↔ (Never (UnsatisfiableAt m) × Never (NullableAt m) × Never (OpenEndAt m) × Lowest (AmbiguousAt m) n)
  unfolding shape
  shape-12 n = (λ p. let (a, (b, (c, d))) = nested.0 p in (a, b, c, d), λ (a, b, c, d). nested.1 (a, (b, (c, d))))
    where
      nested : shape m ≡ turned_away 12 n ↔ (Never (UnsatisfiableAt m) × (Never (NullableAt m) × (Never (OpenEndAt m) × Lowest (AmbiguousAt m) n)))
      nested = past-9 (turned_away 12 n) (λ k p. clash (cc)) (past-10 (turned_away 12 n) (λ k p. clash (cc)) (past-11 (turned_away 12 n) (λ k p. clash (cc))
          (here-exactly 12 (ambiguous m) accepted (ambiguous-at m sized) (above-accepted 12) n)))

  pub shape-accepted : shape m ≡ accepted ↔ (Never (UnsatisfiableAt m) × Never (NullableAt m) × Never (OpenEndAt m) × Never (AmbiguousAt m))
  unfolding shape
  shape-accepted = (λ p. let (a, (b, (c, (d, q)))) = nested.0 p in (a, b, c, d), λ (a, b, c, d). nested.1 (a, (b, (c, (d, refl)))))
    where
      nested : shape m ≡ accepted ↔ (Never (UnsatisfiableAt m) × (Never (NullableAt m) × (Never (OpenEndAt m) × (Never (AmbiguousAt m) × (accepted ≡ accepted)))))
      nested = past-9 accepted (λ k p. clash (cc)) (past-10 accepted (λ k p. clash (cc)) (past-11 accepted (λ k p. clash (cc))
          (later-exactly 12 (ambiguous m) accepted (ambiguous-at m sized) accepted (λ k p. clash (cc)) (λ x. x, λ x. x))))

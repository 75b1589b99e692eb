-- What the rules' tests let through keeps the rules, so the watch is right.
use mathlib.Core.List.{List, [], ◌∷◌, map}
use mathlib.Core.Bool.{not}
use mathlib.Core.Path.{◌≡◌, refl, subst}
use Prim.Native.Nat.{ℕ}
use native.Mathlib.Decide.{ℕ_discrete}
use lib.Dec.{T, not_T}
use Rattle.meaning.specs.Lists.{◌∈◌}
use Rattle.meaning.specs.Expression.{Letter, Exp, letter, seq, alt, star, pipe, letters, renumbered, Ordered}
use Rattle.meaning.specs.Shape.{nullable, last, follow, threads, parts, head}
use Rattle.meaning.specs.ShapeTests.{unsatisfiable, nullables, open_ends, ambiguous, Shape, accepted, first_of, shape, AllRead}
use Rattle.meaning.proofs.ListLaws.{here, there, no-∈, ∈-left, ∈-right, map-∈, none_in, clash}
use Rattle.meaning.proofs.Numbering.{numbered, renumbered-ordered}
use Rattle.meaning.proofs.Step.{Solid}
use Rattle.meaning.proofs.OneWay.{Closed}
use Rattle.meaning.proofs.Monitor.{Accepted, Unambiguous}
use Rattle.meaning.proofs.Watch.{AllAccepted}
use Rattle.meaning.proofs.Rules.{nullable-at, open-end-at, ambiguous-by}

a-letter : (e : Exp) → (l : Letter) × (l ∈ letters e)
unfolding letters
a-letter (letter l) = (l, here refl)
a-letter (seq e f) = let (l, i) = a-letter e in (l, ∈-left (letters f) i)
a-letter (alt e f) = let (l, i) = a-letter e in (l, ∈-left (letters f) i)
a-letter (star e) = a-letter e
a-letter (pipe e f) = let (l, i) = a-letter e in (l, ∈-left (letters f) i)

a-head : (ls : List Letter) (l : Letter) → l ∈ ls → (n : ℕ) × (n ∈ head ls)
a-head [] l i = absurd (no-∈ i)
a-head (x ∷ ls) l i = (x.number, here refl)

-- rule 10
not-nullable : (m : Exp) → nullables m ≡ [] → (p : Exp) → p ∈ m ∷ parts m → T (not (nullable p))
not-nullable m h p i = not_T (nullable p) (λ t.
    let (l, j) = a-letter p in
    let (n, k) = a-head (letters p) l j in
    none_in h ((nullable-at m n).1 (p, i, t, k)))

solid-if : (e : Exp) → ((p : Exp) → p ∈ parts e → T (not (nullable p))) → Solid e
unfolding parts
solid-if (letter l) h = tt
solid-if (seq e f) h = (solid-if e (λ p i. h p (∈-left (parts f) i)), solid-if f (λ p i. h p (∈-right (parts e) i)))
solid-if (alt e f) h = (solid-if e (λ p i. h p (∈-left (parts f) i)), solid-if f (λ p i. h p (∈-right (parts e) i)))
solid-if (star e) h = (h e (here refl), solid-if e (λ p i. h p (there i)))
solid-if (pipe e f) h = (
  h e (here refl),
  h f (there (here refl)),
  solid-if e (λ p i. h p (there (there (∈-left (parts f) i)))),
  solid-if f (λ p i. h p (there (there (∈-right (parts e) i)))),
)

-- rule 11
closed-if : (e : Exp) → ((f : Exp) → f ∈ threads e → (n : ℕ) (x : Letter) → T (last n f) → x ∈ follow n f → ⊥) → Closed e
unfolding threads
closed-if (letter l) h = tt
closed-if (seq e f) h = (closed-if e (λ g i. h g (∈-left (threads f) i)), closed-if f (λ g i. h g (∈-right (threads e) i)))
closed-if (alt e f) h = (closed-if e (λ g i. h g (∈-left (threads f) i)), closed-if f (λ g i. h g (∈-right (threads e) i)))
closed-if (star e) h = closed-if e h
closed-if (pipe e f) h =
    (h f (here refl), closed-if e (λ g i. h g (there (∈-left (threads f) i))), closed-if f (λ g i. h g (there (∈-right (threads e) i))))

-- rule 12
unambiguous-if : (m : Exp) → ambiguous m ≡ [] → Unambiguous m
unambiguous-if m h x y s w = elim (ℕ_discrete x.number y.number) [
  | yes p ↦ p
  | no d ↦ absurd (none_in h ((ambiguous-by m x.number).1 (x, y, refl, d, s, w)))
]

passed : (rule : ℕ) (ns : List ℕ) (s : Shape) → first_of rule ns s ≡ accepted → (ns ≡ []) × (s ≡ accepted)
passed rule [] s p = (refl, p)
passed rule (n ∷ ns) s p = clash (cc)

-- accepted: none of the four tests names a letter
pub all-passed : (m : Exp) → shape m ≡ accepted → (unsatisfiable m ≡ []) × (nullables m ≡ []) × (open_ends m ≡ []) × (ambiguous m ≡ [])
unfolding shape
all-passed m p =
    let (a, q) = passed 9 (unsatisfiable m) _ p in
    let (b, r) = passed 10 (nullables m) _ q in
    let (c, s) = passed 11 (open_ends m) _ r in
    (a, b, c, (passed 12 (ambiguous m) _ s).0)

pub accept-solid : (m : Exp) → shape m ≡ accepted → Solid (star m)
accept-solid m p =
    let b = (all-passed m p).1 in
    (not-nullable m b m (here refl), solid-if m (λ q i. not-nullable m b q (there i)))

pub accept : (m : Exp) → Ordered 0 m → shape m ≡ accepted → Accepted m
accept m o p =
    let (a, b, c, d) = all-passed m p in
    record {
      solid = accept-solid m p;
      closed = closed-if m (λ f i n x t j. none_in c ((open-end-at m n).1 (f, x, i, t, j)));
      unambiguous = unambiguous-if m d;
      numbered = numbered 0 m o;
    }

-- monitors that are accepted once they are numbered
pub all_read : (es : List Exp) → ((e : Exp) → e ∈ es → shape (renumbered 0 e) ≡ accepted) → AllRead (map (renumbered 0) es)
all_read es h m i =
    let (e, j, p) = map-∈ (renumbered 0) es i in
    (subst (Ordered 0) p (renumbered-ordered 0 e), subst (λ z. shape z ≡ accepted) p (h e j))

pub accept-all : (ms : List Exp) → AllRead ms → AllAccepted ms
accept-all [] h = tt
accept-all (m ∷ ms) h =
    let (o, p) = h m (here refl) in
    (accept m o p, accept-all ms (λ n i. h n (there i)))

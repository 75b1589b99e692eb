-- The rules' tests are the rules: each list of letters at fault has exactly the letters that the rule's words name.
use mathlib.Core.List.{List, [], ◌∷◌, map}
use mathlib.Core.Bool.{Bool, not, ◌&&◌}
use mathlib.Core.Path.{◌≡◌, refl, sym, ap, ◌∙◌, subst}
use mathlib.Core.Logic.{inl, inr, ⊎_elim, ◌↔◌}
use Prim.Native.Nat.{ℕ}
use lib.Dec.{T, T_not, not_T, eqb, eqb→eq, eqb_refl}
use Rattle.meaning.specs.Lists.{◌∈◌, any, null, only}
use Rattle.meaning.specs.Expression.{Letter, Exp, star, letters}
use Rattle.meaning.specs.Shape.{nullable, first, last, follow, threads, Together, parts, head, UnsatisfiableAt, NullableAt, OpenEndAt, SideBySide, AmbiguousAt}
use Rattle.meaning.specs.ShapeTests.{SizedLetters, groups, agree, together, numbers, unsatisfiable, nullables, open_ends, ambiguous}
use Rattle.meaning.proofs.ListLaws.{here, there, cons-∈, append-∈, ∈-left, ∈-right, ∈-map, map-∈, ∈-cast, one-∈, ∈-each, each-∈, ∈-only, only-∈, T_and, and_T, any-from, any-to}
use Rattle.meaning.proofs.OneWay.{first-letters, last_has, follow-in}
use Rattle.meaning.proofs.Threads.{threads-letters}
use Rattle.meaning.proofs.Bits.{unsatisfiable-exactly, together-exactly}

numbers-exactly : (test : Letter → Bool) (ls : List Letter) (n : ℕ) → n ∈ numbers test ls ↔ ((l : Letter) × (l ∈ ls) × (l.number ≡ n) × T (test l))
numbers-exactly test ls n = (
  λ i.
      let (l, j, k) = each-∈ ls (λ l. only (test l) (l.number ∷ [])) i in
      let (t, a) = only-∈ (test l) k in
      (l, j, sym (one-∈ a), t),
  λ (l, j, p, t). ∈-each (λ l. only (test l) (l.number ∷ [])) j (∈-only (test l) t (here (sym p))),
)

-- ---- rule 9 ----

pub unsatisfiable-at : (m : Exp) → SizedLetters m → (n : ℕ) → n ∈ unsatisfiable m ↔ UnsatisfiableAt m n
unfolding unsatisfiable
unsatisfiable-at m sized n = (
  λ i. let (l, j, p, t) = (numbers-exactly test (letters m) n).0 i in (l, j, p, (unsatisfiable-exactly l (sized l j)).0 t),
  λ (l, j, p, u). (numbers-exactly test (letters m) n).1 (l, j, p, (unsatisfiable-exactly l (sized l j)).1 u),
)
  where
    test : Letter → Bool
    test l = not (agree l.literals)

-- ---- rule 10 ----

pub nullable-at : (m : Exp) (n : ℕ) → n ∈ nullables m ↔ NullableAt m n
unfolding nullables
nullable-at m n = (
  λ i.
      let (p, j, k) = each-∈ (m ∷ parts m) (λ p. only (nullable p) (head (letters p))) i in
      let (t, a) = only-∈ (nullable p) k in
      (p, j, t, a),
  λ (p, j, t, a). ∈-each (λ p. only (nullable p) (head (letters p))) j (∈-only (nullable p) t a),
)

-- ---- rule 11 ----

pub some_in : (xs : List Letter) → T (not (null xs)) → (x : Letter) × (x ∈ xs)
some_in [] t = absurd t
some_in (x ∷ xs) t = (x, here refl)

pub in_some : {x : Letter} {xs : List Letter} → x ∈ xs → T (not (null xs))
in_some (here p) = tt
in_some (there i) = tt

pub open-end-at : (m : Exp) (n : ℕ) → n ∈ open_ends m ↔ OpenEndAt m n
unfolding open_ends
open-end-at m n = (
  λ i.
      let (f, j, k) = each-∈ (threads m) (λ f. numbers (test f) (letters f)) i in
      let (l, a, p, t) = (numbers-exactly (test f) (letters f) n).0 k in
      let (e, s) = and_T (last n f) (not (null (follow n f))) (subst (λ z. T (last z f && not (null (follow z f)))) p t) in
      let (x, b) = some_in (follow n f) s in
      (f, x, j, e, b),
  λ (f, x, j, e, b).
      let (l, a, p) = last_has n f e in
      ∈-each (λ f. numbers (test f) (letters f)) j
      ((numbers-exactly (test f) (letters f) n).1
      (l, a, p, subst (λ z. T (last z f && not (null (follow z f)))) (sym p) (T_and (last n f) (not (null (follow n f))) e (in_some b)))),
)
  where
    test : Exp → Letter → Bool
    test f l = last l.number f && not (null (follow l.number f))

-- ---- rule 12 ----

pub beside-letters : (m : Exp) (x y : Letter) → SideBySide m x y → (x ∈ letters m) × (y ∈ letters m)
unfolding letters
beside-letters m x y = ⊎_elim
    (λ (i, j). (first-letters m x i, first-letters m y j))
    (⊎_elim
    (λ (f, k, i, j). (threads-letters m f k x (first-letters f x i), threads-letters m f k y (first-letters f y j)))
    (λ (n, i, j). ((follow-in n (star m) x i).1, (follow-in n (star m) y j).1)))

-- side by side: in one group
pub side_by_side : (m : Exp) (x y : Letter) → SideBySide m x y ↔ ((g : List Letter) × (g ∈ groups m) × (x ∈ g) × (y ∈ g))
unfolding letters
side_by_side m x y = (
  ⊎_elim
      (λ (i, j). (first m, here refl, i, j))
      (⊎_elim
      (λ (f, k, i, j). (first f, there (∈-left follows (∈-map first k)), i, j))
      (λ (n, i, j).
      let (l, k, p) = (follow-in n (star m) x i).0 in
      (follow n (star m), ∈-right firsts (∈-cast (ap (λ z. follow z (star m)) (sym p)) (∈-map (λ l. follow l.number (star m)) k)), i, j))),
  λ (g, k, i, j). ⊎_elim
      (λ a. let (f, b, p) = map-∈ first (m ∷ threads m) a in ⊎_elim
      (λ q. inl (moved g (first m) (sym p ∙ ap first q) x i, moved g (first m) (sym p ∙ ap first q) y j))
      (λ c. inr (inl (f, c, moved g (first f) (sym p) x i, moved g (first f) (sym p) y j)))
      (cons-∈ b))
      (λ a. let (l, b, p) = map-∈ (λ l. follow l.number (star m)) (letters m) a in
      inr (inr (l.number, moved g (follow l.number (star m)) (sym p) x i, moved g (follow l.number (star m)) (sym p) y j)))
      (append-∈ firsts k),
)
  where
    firsts : List (List Letter)
    firsts = map first (m ∷ threads m)

    follows : List (List Letter)
    follows = map (λ l. follow l.number (star m)) (letters m)

    moved : (g h : List Letter) → g ≡ h → (z : Letter) → z ∈ g → z ∈ h
    moved g h p z i = subst (λ l. z ∈ l) p i

-- the letters that the test of rule 12 names, whatever it says of words
pub ambiguous-by : (m : Exp) (n : ℕ)
    → n ∈ ambiguous m ↔ ((x : Letter) × (y : Letter) × (x.number ≡ n) × (x.number ≡ y.number → ⊥) × SideBySide m x y × T (together x y))
unfolding ambiguous
ambiguous-by m n = (
  λ i.
      let (g, j, k) = each-∈ (groups m) (λ g. numbers (test g) g) i in
      let (x, a, p, t) = (numbers-exactly (test g) g n).0 k in
      let (y, b, u) = any-to (pair x) g t in
      let (d, w) = and_T (not (eqb x.number y.number)) (together x y) u in (
        x,
        y,
        p,
        (λ e. T_not (eqb x.number y.number) d (subst (λ z. T (eqb x.number z)) e (eqb_refl x.number))),
        (side_by_side m x y).1 (g, j, a, b),
        w,
      ),
  λ (x, y, p, d, s, w).
      let (g, j, a, b) = (side_by_side m x y).0 s in
      ∈-each (λ g. numbers (test g) g) j
      ((numbers-exactly (test g) g n).1
      (x, a, p, any-from (pair x) b (T_and (not (eqb x.number y.number)) (together x y) (not_T (eqb x.number y.number) (λ e. d (eqb→eq x.number y.number e))) w))),
)
  where
    pair : Letter → Letter → Bool
    pair x y = not (eqb x.number y.number) && together x y

    test : List Letter → Letter → Bool
    test g x = any (pair x) g

pub ambiguous-at : (m : Exp) → SizedLetters m → (n : ℕ) → n ∈ ambiguous m ↔ AmbiguousAt m n
ambiguous-at m sized n = (
  λ i. let (x, y, p, d, s, w) = (ambiguous-by m n).0 i in (x, y, p, d, s, (exactly x y s).0 w),
  λ (x, y, p, d, s, w). (ambiguous-by m n).1 (x, y, p, d, s, (exactly x y s).1 w),
)
  where
    exactly : (x y : Letter) → SideBySide m x y → T (together x y) ↔ Together x y
    exactly x y s = let (i, j) = beside-letters m x y s in together-exactly x y (sized x i) (sized y j)

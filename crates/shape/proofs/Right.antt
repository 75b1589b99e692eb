-- What `judge` answers of rows that hold a monitor is what rules 11 and 12 say of it. Assumes nothing.
use mathlib.Core.List.{List, [], ◌∷◌, ◌++◌}
use mathlib.Core.Bool.{Bool, true, false, not, cond, ◌&&◌}
use mathlib.Core.Path.{◌≡◌, refl, sym, ap, ap₂, ◌∙◌, subst}
use mathlib.Core.Logic.{inl, inr, ⊎_elim, ◌↔◌}
use Prim.Native.Nat.{ℕ, zero, suc, ◌+◌, ◌-◌, ◌≤◌, ◌<◌}
use native.Mathlib.Omega.{arith}
use native.Mathlib.Decide.{dec_lt}
use lib.Dec.{T, T_not, not_T, eqb, eqb→eq, eqb_refl}
use lib.ListN.{get_or}
use borrow.Author.Tests.{lt-ltb, le-ltb, eqb-true, eqb-false, eq-eqb, ne_eqb}
use Rattle.meaning.specs.Lists.{◌∈◌, any, null, only}
use Rattle.refusals.specs.Numbers.{open_end, fork}
use Rattle.meaning.specs.Expression.{Letter, Exp, letter, seq, alt, star, pipe, letters, size, rows, Ordered}
use Rattle.masks.specs.Masks.{look, want, compatible}
use Rattle.meaning.specs.Shape.{last, follow, threads, SideBySide}
use Rattle.meaning.specs.ShapeTests.{Shape, accepted, agree, together, SizedLetters, unsatisfiable, open_ends, ambiguous, least, turned_away, first_of}
use Rattle.meaning.proofs.ListLaws.{here, append-∈, one-∈, ∈-each, ∈-only, T_and, and_T, any-from, any-to, none_in}
use Rattle.meaning.proofs.OneWay.{Numbered, last_has}
use Rattle.meaning.proofs.Numbering.{between, numbered}
use Rattle.masks.proofs.Masks.{agree-compatible, compatible-agree}
use Rattle.meaning.proofs.Rules.{some_in, in_some, open-end-at, beside-letters, ambiguous-by}
use Rattle.meaning.proofs.Threads.{threads-letters}
use Rattle.meaning.proofs.Shaped.{least-in, least-le}
use Rattle.meaning.proofs.Summary.{rules11and12}
use Rattle.shape.specs.Ends.{Ends, letter_ends, star_ends, joined_ends, open_at}
use Rattle.shape.specs.Sides.{Sides, letter_sides, star_sides, joined_sides, rivals, fork_at}
use Rattle.shape.specs.Lowest.{lowest}
use Rattle.shape.specs.Judge.{or_rest, judge_of}
use Rattle.shape.specs.Held.{RowsHold}
use Rattle.shape.proofs.Walked.{behind, walk-held}
use Rattle.shape.proofs.EndsRight.{ends_open, ends-right}
use Rattle.shape.proofs.SidesRight.{made, forks-right, first-forks}

-- ---- the lowest letter at fault

-- the search finds the lowest of n numbers from i on that passes, or none passes
data Searched (test : ℕ → Bool) (i n r : ℕ) : Type 0 where
  found : (k : ℕ) → k < n → r ≡ i + k → T (test (i + k)) → ((j : ℕ) → j < k → T (test (i + j)) → ⊥) → Searched test i n r
  missing : r ≡ i + n → ((j : ℕ) → j < n → T (test (i + j)) → ⊥) → Searched test i n r

searched : (test : ℕ → Bool) (i n : ℕ) → Searched test i n (lowest test i n)
unfolding lowest
searched test i zero = missing (omega arith) (λ j l t. omega arith)
searched test i (suc n) = by (test i) refl (searched test (suc i) n)
  where
    -- one more in front, which does not pass
    moved : (j : ℕ) → suc i + j ≡ i + suc j
    moved j = omega arith

    before : (k : ℕ) → test i ≡ false → ((j : ℕ) → j < k → T (test (suc i + j)) → ⊥) → (j : ℕ) → j < suc k → T (test (i + j)) → ⊥
    before k p h zero l t = let e : i + 0 ≡ i = omega arith in subst T (ap test e ∙ p) t
    before k p h (suc j) l t = h j (omega arith) (subst (λ (z : ℕ). T (test z)) (sym (moved j)) t)

    by : (b : Bool) → test i ≡ b → Searched test (suc i) n (lowest test (suc i) n) → Searched test i (suc n) (cond b i (lowest test (suc i) n))
    by true p s = let e : i ≡ i + 0 = omega arith in found 0 (omega arith) e (subst T (sym p ∙ ap test e) tt) (λ j l t. omega arith)
    by false p (found k l e t h) = found (suc k) (omega arith) (e ∙ moved k) (subst (λ (z : ℕ). T (test z)) (moved k) t) (before k p h)
    by false p (missing e h) = missing (e ∙ moved n) (before n p h)

-- a rule that has exactly the numbers that pass
module _ (number : ℕ) (rest : Shape)
    (test : ℕ → Bool) (i n : ℕ) (ns : List ℕ) (exactly : (k : ℕ) → k < n → T (test (i + k)) ↔ k ∈ ns) (inside : (k : ℕ) → k ∈ ns → k < n) where
  lowest-of : (k : ℕ) (ms : List ℕ) → k ∈ ms → ((j : ℕ) → j ∈ ms → k ≤ j) → first_of number ms rest ≡ turned_away number k
  lowest-of k [] h low = absurd (none_in refl h)
  lowest-of k (a ∷ bs) h low =
      let e : least a bs ≡ k = omega (arith, least-le a bs k h, low (least a bs) (least-in a bs)) in ap (turned_away number) e

  none_of : (ms : List ℕ) → ((j : ℕ) → j ∈ ms → ⊥) → first_of number ms rest ≡ rest
  none_of [] h = refl
  none_of (a ∷ bs) h = absurd (h a (here refl))

  rule-right : (r : ℕ) → Searched test i n r → or_rest i (i + n) number r rest ≡ first_of number ns rest
  rule-right r (found k l e t h) =
      let below : r < i + n = omega arith in
      let own : r - i ≡ k = omega arith in
      ap (λ (b : Bool). cond b (turned_away number (r - i)) rest) (lt-ltb r (i + n) below) ∙ ap (turned_away number) own
      ∙ sym (lowest-of k ns ((exactly k l).0 t) (λ j m. not-below j (λ s. h j s ((exactly j (inside j m)).1 m))))
    where
      not-below : (j : ℕ) → (j < k → ⊥) → k ≤ j
      not-below j g = elim (dec_lt j k) [ yes s ↦ absurd (g s) | no s ↦ omega arith ]
  rule-right r (missing e h) =
      let above : i + n ≤ r = omega arith in
      ap (λ (b : Bool). cond b (turned_away number (r - i)) rest) (le-ltb r (i + n) above)
      ∙ sym (none_of ns (λ j m. h j (inside j m) ((exactly j (inside j m)).1 m)))

-- ---- letters by number and by index

-- the same two letters, by their indices and by their numbers
shifted : (i a b : ℕ) → eqb (i + a) (i + b) ≡ eqb b a
shifted i a b = by (eqb b a) refl
  where
    by : (t : Bool) → eqb b a ≡ t → eqb (i + a) (i + b) ≡ t
    by true p = let e = eqb-true b a p in eq-eqb (i + a) (i + b) (omega arith)
    by false p = ne_eqb (i + a) (i + b) (λ q. eqb-false b a p (omega arith))

module _ (kind left right looks wants : List ℕ) (start : ℕ) where
  -- the arrays have the masks of a letter at its index
  abbrev Masked : Letter → Type 0
  Masked x = (get_or looks (start + x.number) 0 ≡ look x.literals) × (get_or wants (start + x.number) 0 ≡ want x.literals)

  abbrev AllMasked : Exp → Type 0
  AllMasked e = (r j : ℕ) → Ordered j e → RowsHold kind left right looks wants r (start + j) e → (x : Letter) → x ∈ letters e → Masked x

  two-masked : (k : ℕ) (e f : Exp) → AllMasked e → AllMasked f → (r j : ℕ) → Ordered j e × Ordered (j + size e) f
      → (get_or kind r 0 ≡ k) × RowsHold kind left right looks wants (get_or left r 0) (start + j) e × RowsHold kind left right looks wants (get_or right r 0) (start + j + size e) f
      → (x : Letter) → x ∈ letters e ++ letters f → Masked x
  two-masked k e f g h r j (o, u) (is, a, b) x i = ⊎_elim
      (g (get_or left r 0) j o a x)
      (h (get_or right r 0) (j + size e) u (behind kind left right looks wants (get_or right r 0) start j e f b) x)
      (append-∈ (letters e) i)

  masks-of : (e : Exp) → AllMasked e
  unfolding letters
  masks-of (letter y) r j o (k, a, p, q) x i =
      let e : start + y.number ≡ start + j = ap (λ (l : ℕ). start + l) o in
      subst Masked (sym (one-∈ i)) (ap (λ (l : ℕ). get_or looks l 0) e ∙ p, ap (λ (l : ℕ). get_or wants l 0) e ∙ q)
  masks-of (seq e f) r j o a x i = two-masked 1 e f (masks-of e) (masks-of f) r j o a x i
  masks-of (alt e f) r j o a x i = two-masked 2 e f (masks-of e) (masks-of f) r j o a x i
  masks-of (star e) r j o (k, a) x i = masks-of e (get_or left r 0) j o a x i
  masks-of (pipe e f) r j o a x i = two-masked 4 e f (masks-of e) (masks-of f) r j o a x i

module _ (kind left right looks wants : List ℕ) (row start : ℕ) (m : Exp) (held : RowsHold kind left right looks wants row start m) (ordered : Ordered 0 m)
    (sized : SizedLetters m) (possible : unsatisfiable m ≡ []) (fits : rows m ≤ 1024) where
  from-0 : RowsHold kind left right looks wants row (start + 0) m
  from-0 = let e : start ≡ start + 0 = omega arith in subst (λ (l : ℕ). RowsHold kind left right looks wants row l m) e held

  is-numbered : Numbered m
  is-numbered = numbered 0 m ordered

  in-range : (l : Letter) → l ∈ letters m → l.number < size m
  in-range l i = omega (arith, (between 0 m ordered l i).1)

  -- ---- 11

  open-right : (k : ℕ) → open_at kind left right row (start + k) ≡ any (ends_open k) (threads m)
  unfolding open_at
  open-right k = ap (λ (e : Ends). e.fault)
      (walk-held kind left right looks wants (letter_ends false) (λ a. letter_ends (eqb a (start + k))) star_ends joined_ends start (λ l. letter_ends (eqb k l.number))
      (λ x p q. ap letter_ends (shifted start x.number k)) m 1024 row 0 ordered from-0 fits
      ∙ ends-right k m)

  open-exactly : (k : ℕ) → k < size m → T (open_at kind left right row (start + k)) ↔ k ∈ open_ends m
  open-exactly k h = (
    λ t.
        let (f, i, u) = any-to (ends_open k) (threads m) (subst T (open-right k) t) in
        let (a, b) = and_T (last k f) (not (null (follow k f))) u in
        let (x, j) = some_in (follow k f) b in
        (open-end-at m k).1 (f, x, i, a, j),
    λ i.
        let (f, x, j, a, b) = (open-end-at m k).0 i in
        subst T (sym (open-right k)) (any-from (ends_open k) j (T_and (last k f) (not (null (follow k f))) a (in_some b))),
  )

  open-inside : (k : ℕ) → k ∈ open_ends m → k < size m
  open-inside k i =
      let (f, x, j, a, b) = (open-end-at m k).0 i in
      let (l, c, e) = last_has k f a in
      omega (arith, in-range l (threads-letters m f j l c))

  -- ---- 12

  own : ℕ → Letter → Bool
  own k x = eqb k x.number

  rival : ℕ → Letter → Bool
  rival k x = not (eqb k x.number) && compatible (get_or looks (start + k) 0) (get_or wants (start + k) 0) (look x.literals) (want x.literals)

  fork-right : (k : ℕ) → fork_at kind left right looks wants row (start + k) ≡ (star_sides (made (own k) (rival k) m)).fork
  unfolding fork_at own rival
  fork-right k = ap (λ (s : Sides). (star_sides s).fork)
      (walk-held kind left right looks wants (letter_sides false false)
      (λ a. letter_sides (eqb a (start + k)) (not (eqb a (start + k)) && rivals looks wants (start + k) a)) star_sides joined_sides start
      (λ l. letter_sides (own k l) (rival k l))
      (λ x p q. ap₂ letter_sides (shifted start x.number k)
      (ap₂ (λ (s t : Bool). not s && t) (shifted start x.number k) (ap₂ (compatible (get_or looks (start + k) 0) (get_or wants (start + k) 0)) p q)))
      m 1024 row 0 ordered from-0 fits)

  agreed : (x : Letter) → x ∈ letters m → T (agree x.literals)
  unfolding unsatisfiable
  agreed x i = by (agree x.literals) refl
    where
      by : (b : Bool) → agree x.literals ≡ b → T (agree x.literals)
      by true p = subst T (sym p) tt
      by false p = absurd (none_in possible
          (∈-each (λ l. only (not (agree l.literals)) (l.number ∷ [])) i (∈-only (not (agree x.literals)) (subst (λ (b : Bool). T (not b)) (sym p) tt) (here refl))))

  -- two letters side by side: the masks at the first one's index say whether one word meets both
  module _ (k : ℕ) (x y : Letter) (is-k : x.number ≡ k) (beside : SideBySide m x y) where
    at-k : compatible (get_or looks (start + k) 0) (get_or wants (start + k) 0) (look y.literals) (want y.literals)
        ≡ compatible (look x.literals) (want x.literals) (look y.literals) (want y.literals)
    at-k =
        let (p, q) = masks-of kind left right looks wants start m row 0 ordered from-0 x (beside-letters m x y beside).0 in
        ap₂ (λ (a b : ℕ). compatible a b (look y.literals) (want y.literals))
        (ap (λ (n : ℕ). get_or looks (start + n) 0) (sym is-k) ∙ p) (ap (λ (n : ℕ). get_or wants (start + n) 0) (sym is-k) ∙ q)

    rivals-together : T (rival k y) → (x.number ≡ y.number → ⊥) × T (together x y)
    unfolding rival together
    rivals-together t =
        let (d, c) = and_T (not (eqb k y.number)) (compatible (get_or looks (start + k) 0) (get_or wants (start + k) 0) (look y.literals) (want y.literals)) t in
        let (i, j) = beside-letters m x y beside in (
          (λ e. T_not (eqb k y.number) d (subst (λ (n : ℕ). T (eqb k n)) (sym is-k ∙ e) (eqb_refl k))),
          compatible-agree x.literals y.literals (sized x i) (sized y j) (agreed x i) (agreed y j) (subst T at-k c),
        )

    together-rivals : (x.number ≡ y.number → ⊥) → T (together x y) → T (rival k y)
    unfolding rival together
    together-rivals d t =
        let (i, j) = beside-letters m x y beside in
        T_and (not (eqb k y.number)) (compatible (get_or looks (start + k) 0) (get_or wants (start + k) 0) (look y.literals) (want y.literals))
        (not_T (eqb k y.number) (λ e. d (is-k ∙ eqb→eq k y.number e)))
        (subst T (sym at-k) (agree-compatible x.literals y.literals (sized x i) (sized y j) (agreed x i) (agreed y j) t))

  fork-exactly : (k : ℕ) → k < size m → T (fork_at kind left right looks wants row (start + k)) ↔ k ∈ ambiguous m
  unfolding own threads
  fork-exactly k h = (
    λ t. ⊎_elim
        (λ (f, i, ((x, a, u), (y, b, v))). named x y (inr (inl (f, i, a, b))) u v)
        (λ (n, (x, a, u), (y, b, v)). named x y (inr (inr (n, a, b))) u v)
        ((forks-right (own k) (rival k) m is-numbered).0 (subst T (fork-right k) t)),
    λ i.
        let (x, y, e, d, s, w) = (ambiguous-by m k).0 i in
        let u : T (eqb k x.number) = subst (λ (n : ℕ). T (eqb k n)) (sym e) (eqb_refl k) in
        let v : T (rival k y) = together-rivals k x y e s d w in
        subst T (sym (fork-right k)) ((forks-right (own k) (rival k) m is-numbered).1 (⊎_elim
        (λ (a, b). first-forks (own k) (rival k) m (x, a, u) (y, b, v))
        (⊎_elim (λ (f, j, a, b). inl (f, j, ((x, a, u), (y, b, v)))) (λ (n, a, b). inr (n, (x, a, u), (y, b, v)))) s)),
  )
    where
      named : (x y : Letter) → SideBySide m x y → T (eqb k x.number) → T (rival k y) → k ∈ ambiguous m
      named x y s u v =
          let e : x.number ≡ k = sym (eqb→eq k x.number u) in
          let (d, w) = rivals-together k x y e s v in
          (ambiguous-by m k).1 (x, y, e, d, s, w)

  fork-inside : (k : ℕ) → k ∈ ambiguous m → k < size m
  fork-inside k i =
      let (x, y, e, d, s, w) = (ambiguous-by m k).0 i in
      omega (arith, in-range x (beside-letters m x y s).0)

  -- ---- both

  whole : (test : ℕ → Bool) → Searched test start (size m) (lowest test start (start + size m - start))
  whole test =
      let e : size m ≡ start + size m - start = omega arith in
      subst (λ (n : ℕ). Searched test start (size m) (lowest test start n)) e (searched test start (size m))

  -- Of rows that hold a monitor which kept rule 9, `judge` answers what rules 11 and 12 say.
  pub judge-right : judge_of kind left right looks wants row start (start + size m) ≡ rules11and12 m
  unfolding judge_of
  judge-right =
      rule-right open_end _ (open_at kind left right row) start (size m) (open_ends m) open-exactly open-inside _ (whole (open_at kind left right row))
      ∙ ap (first_of open_end (open_ends m))
      (rule-right fork accepted (fork_at kind left right looks wants row) start (size m) (ambiguous m) fork-exactly fork-inside _
      (whole (fork_at kind left right looks wants row)))

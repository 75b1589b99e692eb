-- One way: in a monitor that keeps the rules 10, 11 and 12 a tick leaves each letter at most one way to go on.
use mathlib.Core.List.{List, [], ◌∷◌, ◌++◌, map}
use mathlib.Core.Bool.{Bool, not, ◌&&◌, ◌||◌}
use mathlib.Core.Path.{◌≡◌, refl, sym, ap, ap₂, ◌∙◌, subst}
use mathlib.Core.Logic.{◌⊎◌, inl, inr, ⊎_elim}
use Prim.Native.Nat.{ℕ}
use lib.Dec.{T, T_not, not_T, eqb→eq, eqb_refl}
use Rattle.meaning.specs.Lists.{only, ◌∈◌}
use Rattle.meaning.specs.Expression.{Letter, Exp, letter, seq, alt, star, pipe, letters}
use Rattle.meaning.specs.Shape.{nullable, first, last, follow}
use Rattle.meaning.specs.Fit.{Tick, meets, Run, Rest, past_the_end, anything, merge, both, rounds, runs}
use Rattle.meaning.proofs.ListLaws.{here, no-∈, append-∈, ∈-left, ∈-right, one-∈, T_and, and_T, or-T, T-or-left, T-or-right, ∈-only, only-∈}
use Rattle.meaning.proofs.Step.{Solid, unroll, ended, both-∈, Placed}

-- letters in different places have different numbers
abbrev pub Apart : Exp → Exp → Type 0
Apart e f = (x y : Letter) → x ∈ letters e → y ∈ letters f → x.number ≡ y.number → ⊥

abbrev pub Numbered : Exp → Type 0
Numbered (letter l) = Unit {0}
Numbered (seq e f) = Apart e f × Numbered e × Numbered f
Numbered (alt e f) = Apart e f × Numbered e × Numbered f
Numbered (star e) = Numbered e
Numbered (pipe e f) = Apart e f × Numbered e × Numbered f

-- rule 11: a letter that ends a thread is not followed inside it
abbrev pub Closed : Exp → Type 0
Closed (letter l) = Unit {0}
Closed (seq e f) = Closed e × Closed f
Closed (alt e f) = Closed e × Closed f
Closed (star e) = Closed e
Closed (pipe e f) = ((n : ℕ) (x : Letter) → T (last n f) → x ∈ follow n f → ⊥) × Closed e × Closed f

-- ---- where first, last and next letters are ----

pub first-letters : (e : Exp) (x : Letter) → x ∈ first e → x ∈ letters e
unfolding first letters
first-letters (letter l) x i = i
first-letters (seq e f) x i = ⊎_elim
    (λ j. ∈-left (letters f) (first-letters e x j))
    (λ j. ∈-right (letters e) (first-letters f x (only-∈ (nullable e) j).1))
    (append-∈ (first e) i)
first-letters (alt e f) x i = ⊎_elim
    (λ j. ∈-left (letters f) (first-letters e x j))
    (λ j. ∈-right (letters e) (first-letters f x j))
    (append-∈ (first e) i)
first-letters (star e) x i = first-letters e x i
first-letters (pipe e f) x i = ∈-left (letters f) (first-letters e x i)

-- letter n stands in e
abbrev pub Has : ℕ → Exp → Type 0
Has n e = (l : Letter) × (l ∈ letters e) × (l.number ≡ n)

has_left : (n : ℕ) (e f : Exp) → Has n e → (l : Letter) × (l ∈ letters e ++ letters f) × (l.number ≡ n)
has_left n e f (l, i, p) = (l, ∈-left (letters f) i, p)

has_right : (n : ℕ) (e f : Exp) → Has n f → (l : Letter) × (l ∈ letters e ++ letters f) × (l.number ≡ n)
has_right n e f (l, i, p) = (l, ∈-right (letters e) i, p)

pub last_has : (n : ℕ) (e : Exp) → T (last n e) → Has n e
unfolding last letters
last_has n (letter l) t = (l, here refl, sym (eqb→eq n l.number t))
last_has n (seq e f) t = ⊎_elim
    (λ j. has_right n e f (last_has n f j))
    (λ j. has_left n e f (last_has n e (and_T (nullable f) (last n e) j).1))
    (or-T (last n f) (nullable f && last n e) t)
last_has n (alt e f) t = ⊎_elim (λ j. has_left n e f (last_has n e j)) (λ j. has_right n e f (last_has n f j)) (or-T (last n e) (last n f) t)
last_has n (star e) t = last_has n e t
last_has n (pipe e f) t = has_left n e f (last_has n e t)

-- both the letter and what comes next after it stand in e
pub follow-in : (n : ℕ) (e : Exp) (x : Letter) → x ∈ follow n e → Has n e × (x ∈ letters e)
unfolding follow letters
follow-in n (letter l) x i = absurd (no-∈ i)
follow-in n (seq e f) x i = ⊎_elim
    (λ j. ⊎_elim
    (λ k. let (h, m) = follow-in n e x k in (has_left n e f h, ∈-left (letters f) m))
    (λ k. let (h, m) = follow-in n f x k in (has_right n e f h, ∈-right (letters e) m))
    (append-∈ (follow n e) j))
    (λ j. let (t, k) = only-∈ (last n e) j in (has_left n e f (last_has n e t), ∈-right (letters e) (first-letters f x k)))
    (append-∈ (follow n e ++ follow n f) i)
follow-in n (alt e f) x i = ⊎_elim
    (λ k. let (h, m) = follow-in n e x k in (has_left n e f h, ∈-left (letters f) m))
    (λ k. let (h, m) = follow-in n f x k in (has_right n e f h, ∈-right (letters e) m))
    (append-∈ (follow n e) i)
follow-in n (star e) x i = ⊎_elim
    (follow-in n e x)
    (λ j. let (t, k) = only-∈ (last n e) j in (last_has n e t, first-letters e x k))
    (append-∈ (follow n e) i)
follow-in n (pipe e f) x i = ⊎_elim
    (λ k. let (h, m) = follow-in n e x k in (has_left n e f h, ∈-left (letters f) m))
    (λ k. let (h, m) = follow-in n f x k in (has_right n e f h, ∈-right (letters e) m))
    (append-∈ (follow n e) i)

pub apart-has : (e f : Exp) (n : ℕ) → Apart e f → Has n e → Has n f → ⊥
apart-has e f n a (x, i, p) (y, j, q) = a x y i j (p ∙ sym q)

-- ---- what comes next after a last letter of a part that is not nullable is no first letter of it ----

not-and : (a b : Bool) → T (not (a && b)) → T a → T b → ⊥
not-and a b t p q = T_not (a && b) t (T_and a b p q)

pub fresh : (e : Exp) → Solid e → Numbered e → T (not (nullable e)) → (n : ℕ) (x y : Letter)
    → T (last n e) → x ∈ follow n e → y ∈ first e → x.number ≡ y.number → ⊥
unfolding nullable last follow first
fresh (letter l) s a h n x y t i j p = no-∈ i
fresh (seq e f) s a h n x y t i j p = ⊎_elim
    -- y is a first letter of e: so x is in e, n too, and f is nullable
    (λ ye. ⊎_elim
    (λ k. ⊎_elim
    (λ xe. ⊎_elim
    (λ tf. apart-has e f n a.0 (follow-in n e x xe).0 (last_has n f tf))
    (λ te. let (hf, en) = and_T (nullable f) (last n e) te in
    fresh e s.0 a.1 (not_T (nullable e) (λ he. not-and (nullable e) (nullable f) h he hf)) n x y en xe ye p)
    (or-T (last n f) (nullable f && last n e) t))
    (λ xf. a.0 y x (first-letters e y ye) (follow-in n f x xf).1 (sym p))
    (append-∈ (follow n e) k))
    (λ k. a.0 y x (first-letters e y ye) (first-letters f x (only-∈ (last n e) k).1) (sym p))
    (append-∈ (follow n e ++ follow n f) i))
    -- y is a first letter of f, and e is nullable: so f is not, and x and n are in f
    (λ yf'. let (he, yf) = only-∈ (nullable e) yf' in ⊎_elim
    (λ tf. ⊎_elim
    (λ k. ⊎_elim
    (λ xe. a.0 x y (follow-in n e x xe).1 (first-letters f y yf) p)
    (λ xf. fresh f s.1 a.2 (not_T (nullable f) (λ hf. not-and (nullable e) (nullable f) h he hf)) n x y tf xf yf p)
    (append-∈ (follow n e) k))
    (λ k. apart-has e f n a.0 (last_has n e (only-∈ (last n e) k).0) (last_has n f tf))
    (append-∈ (follow n e ++ follow n f) i))
    (λ te. not-and (nullable e) (nullable f) h he (and_T (nullable f) (last n e) te).0)
    (or-T (last n f) (nullable f && last n e) t))
    (append-∈ (first e) j)
fresh (alt e f) s a h n x y t i j p = ⊎_elim
    (λ xe. ⊎_elim
    (λ ye. ⊎_elim
    (λ te. fresh e s.0 a.1 (not_T (nullable e) (λ he. T_not (nullable e || nullable f) h (T-or-left (nullable e) (nullable f) he))) n x y te xe ye p)
    (λ tf. apart-has e f n a.0 (follow-in n e x xe).0 (last_has n f tf))
    (or-T (last n e) (last n f) t))
    (λ yf. a.0 x y (follow-in n e x xe).1 (first-letters f y yf) p)
    (append-∈ (first e) j))
    (λ xf. ⊎_elim
    (λ ye. a.0 y x (first-letters e y ye) (follow-in n f x xf).1 (sym p))
    (λ yf. ⊎_elim
    (λ te. apart-has e f n a.0 (last_has n e te) (follow-in n f x xf).0)
    (λ tf. fresh f s.1 a.2 (not_T (nullable f) (λ hf. T_not (nullable e || nullable f) h (T-or-right (nullable e) (nullable f) hf))) n x y tf xf yf p)
    (or-T (last n e) (last n f) t))
    (append-∈ (first e) j))
    (append-∈ (follow n e) i)
fresh (star e) s a h n x y t i j p = h
fresh (pipe e f) s a h n x y t i j p = ⊎_elim
    (λ xe. fresh e s.2 a.1 s.0 n x y t xe j p)
    (λ xf. a.0 y x (first-letters e y j) (follow-in n f x xf).1 (sym p))
    (append-∈ (follow n e) i)

-- ---- one tick ----

-- on the tick t all the ways to go on with K are the same
abbrev pub Same : Tick → Rest → Type 0
Same t K = (r s : Run) → r ∈ K (t ∷ []) → s ∈ K (t ∷ []) → r ≡ s

-- K and a letter of g never go on at the tick t both
abbrev pub Excludes : Tick → Rest → List Letter → Type 0
Excludes t K g = (r : Run) (x : Letter) → r ∈ K (t ∷ []) → x ∈ g → T (meets x t) → ⊥

-- t meets at most one of the letters of g
abbrev pub Exclusive : Tick → List Letter → Type 0
Exclusive t g = (x y : Letter) → x ∈ g → y ∈ g → T (meets x t) → T (meets y t) → x.number ≡ y.number

-- asked, e goes on with one of its first letters that is met, alone; or, if it is nullable, with what follows
abbrev Asked : Tick → Exp → Rest → Run → Type 0
Asked t e K r = ((x : Letter) × (x ∈ first e) × T (meets x t) × (r ≡ (x.number ∷ []) ∷ [])) ⊎ (T (nullable e) × (r ∈ K (t ∷ [])))

pub asked : (t : Tick) (e : Exp) (K : Rest) (r : Run) → Solid e → K [] ≡ past_the_end → r ∈ runs e K (t ∷ []) → Asked t e K r
unfolding runs first nullable rounds merge
asked t (letter l) K r s k i =
    let (m, j) = only-∈ (meets l t) i in
    inl (l, here refl, m, one-∈ (subst (λ x. r ∈ map (λ q. (l.number ∷ []) ∷ q) x) k j))
asked t (seq e f) K r s k i = ⊎_elim
    (λ (x, j, m, p). inl (x, ∈-left (only (nullable e) (first f)) j, m, p))
    (λ (he, j). ⊎_elim
    (λ (x, j', m, p). inl (x, ∈-right (first e) (∈-only (nullable e) he j'), m, p))
    (λ (hf, j'). inr (T_and (nullable e) (nullable f) he hf, j'))
    (asked t f K r s.1 k j))
    (asked t e (runs f K) r s.0 (ended f K k) i)
asked t (alt e f) K r s k i = ⊎_elim
    (λ j. ⊎_elim
    (λ (x, j', m, p). inl (x, ∈-left (first f) j', m, p))
    (λ (he, j'). inr (T-or-left (nullable e) (nullable f) he, j'))
    (asked t e K r s.0 k j))
    (λ j. ⊎_elim
    (λ (x, j', m, p). inl (x, ∈-right (first e) j', m, p))
    (λ (hf, j'). inr (T-or-right (nullable e) (nullable f) hf, j'))
    (asked t f K r s.1 k j))
    (append-∈ (runs e K (t ∷ [])) i)
asked t (star e) K r s k i = ⊎_elim
    (λ j. inr (tt, j))
    (λ j. ⊎_elim inl (λ (he, j'). absurd (T_not (nullable e) s.0 he)) (asked t e (runs (star e) K) r s.1 k j))
    (append-∈ (K (t ∷ [])) (subst (λ x. r ∈ x) (unroll e s K k t []) i))
asked t (pipe e f) K r s k i = ⊎_elim
    inl
    (λ (he, j'). absurd (T_not (nullable e) s.0 he))
    (asked t e (λ us. both (K us) (runs f anything us)) r s.2 (ap₂ both k (ended f anything refl)) i)

-- asking e is one way if its first letters exclude each other and, where e is nullable, what follows
pub same_runs : (t : Tick) (e : Exp) (K : Rest) → Solid e → K [] ≡ past_the_end → Exclusive t (first e)
    → (T (nullable e) → Same t K × Excludes t K (first e)) → Same t (runs e K)
same_runs t e K s k ex h p q i j = go (asked t e K p s k i) (asked t e K q s k j)
  where
    go : Asked t e K p → Asked t e K q → p ≡ q
    go (inl (x, a, m, u)) (inl (y, b, n, v)) = u ∙ ap (λ z. (z ∷ []) ∷ []) (ex x y a b m n) ∙ sym v
    go (inl (x, a, m, u)) (inr (he, b)) = absurd ((h he).1 q x b a m)
    go (inr (he, a)) (inl (y, b, n, v)) = absurd ((h he).1 p y a b n)
    go (inr (he, a)) (inr (hf, b)) = (h he).0 p q a b

-- rule 12 in the threads of e, at the tick t
abbrev pub Threads : Tick → Exp → Type 0
Threads t (letter l) = Unit {0}
Threads t (seq e f) = Threads t e × Threads t f
Threads t (alt e f) = Threads t e × Threads t f
Threads t (star e) = Threads t e
Threads t (pipe e f) = Exclusive t (first f) × Threads t e × Threads t f

-- the part of a group
part : (t : Tick) {g g' : List Letter} → ((x : Letter) → x ∈ g → x ∈ g') → Exclusive t g' → Exclusive t g
part t sub ex x y i j = ex x y (sub x i) (sub y j)

module _ (G : ℕ → Rest) (t : Tick) where
  pub one_way : (e : Exp) (K : Rest) → Solid e → Numbered e → Closed e → Placed G e K → K [] ≡ past_the_end
      → Threads t e → ((n : ℕ) → Exclusive t (follow n e))
      → ((n : ℕ) → T (last n e) → Same t K × Excludes t K (follow n e))
      → (l : Letter) → l ∈ letters e → Same t (G l.number)
  unfolding letters last follow nullable first merge
  one_way (letter x) K s a c p k th ex h l i = rw (one-∈ i) (rw p (h x.number (eqb_refl x.number)).0)
  one_way (seq e f) K s a c p k th ex h l i = ⊎_elim
      (one_way e (runs f K) s.0 a.1 c.0 p.0 (ended f K k) th.0
      (λ n. part t (λ x j. ∈-left (only (last n e) (first f)) (∈-left (follow n f) j)) (ex n))
      (λ n te. let sub : (x : Letter) → x ∈ first f → x ∈ follow n e ++ follow n f ++ only (last n e) (first f) = λ x j. ∈-right (follow n e ++ follow n f) (∈-only (last n e) te j) in
      let end : T (nullable f) → T (last n f || (nullable f && last n e)) = λ hf. T-or-right (last n f) (nullable f && last n e) (T_and (nullable f) (last n e) hf te) in (
        same_runs t f K s.1 k (part t sub (ex n)) (λ hf. ((h n (end hf)).0, λ r x j m. (h n (end hf)).1 r x j (sub x m))),
        λ r x j m u. ⊎_elim
            (λ (y, b, v, q). a.0 x y (follow-in n e x m).1 (first-letters f y b) (ex n x y (∈-left (only (last n e) (first f)) (∈-left (follow n f) m)) (sub y b) u v))
            (λ (hf, j'). (h n (end hf)).1 r x j' (∈-left (only (last n e) (first f)) (∈-left (follow n f) m)) u)
            (asked t f K r s.1 k j),
      ))
      l)
      (one_way f K s.1 a.2 c.1 p.1 k th.1
      (λ n. part t (λ x j. ∈-left (only (last n e) (first f)) (∈-right (follow n e) j)) (ex n))
      (λ n tf. let q = h n (T-or-left (last n f) (nullable f && last n e) tf) in
      (q.0, λ r x j m. q.1 r x j (∈-left (only (last n e) (first f)) (∈-right (follow n e) m))))
      l)
      (append-∈ (letters e) i)
  one_way (alt e f) K s a c p k th ex h l i = ⊎_elim
      (one_way e K s.0 a.1 c.0 p.0 k th.0
      (λ n. part t (λ x j. ∈-left (follow n f) j) (ex n))
      (λ n te. let q = h n (T-or-left (last n e) (last n f) te) in (q.0, λ r x j m. q.1 r x j (∈-left (follow n f) m)))
      l)
      (one_way f K s.1 a.2 c.1 p.1 k th.1
      (λ n. part t (λ x j. ∈-right (follow n e) j) (ex n))
      (λ n tf. let q = h n (T-or-right (last n e) (last n f) tf) in (q.0, λ r x j m. q.1 r x j (∈-right (follow n e) m)))
      l)
      (append-∈ (letters e) i)
  one_way (star e) K s a c p k th ex h l i =
      one_way e (runs (star e) K) s.1 a c p (ended (star e) K k) th
      (λ n. part t (λ x j. ∈-left (only (last n e) (first e)) j) (ex n))
      (λ n te. let sub : (x : Letter) → x ∈ first e → x ∈ follow n e ++ only (last n e) (first e) = λ x j. ∈-right (follow n e) (∈-only (last n e) te j) in (
        same_runs t (star e) K s k (part t sub (ex n)) (λ hs. ((h n te).0, λ r x j m. (h n te).1 r x j (sub x m))),
        λ r x j m u. ⊎_elim
            (λ (y, b, v, q). fresh e s.1 a s.0 n x y te m b (ex n x y (∈-left (only (last n e) (first e)) m) (sub y b) u v))
            (λ (hs, j'). (h n te).1 r x j' (∈-left (only (last n e) (first e)) m) u)
            (asked t (star e) K r s k j),
      ))
      l i
  one_way (pipe e f) K s a c p k th ex h l i = ⊎_elim
      (one_way e (λ us. both (K us) (runs f anything us)) s.2 a.1 c.1 p.0 (ap₂ both k (ended f anything refl)) th.1
      (λ n. part t (λ x j. ∈-left (follow n f) j) (ex n))
      (λ n te. (
        λ r q j m.
            let (r₁, r₂, j₁, j₂, u) = both-∈ (K (t ∷ [])) (runs f anything (t ∷ [])) j in
            let (q₁, q₂, m₁, m₂, v) = both-∈ (K (t ∷ [])) (runs f anything (t ∷ [])) m in
            u ∙ ap₂ merge ((h n te).0 r₁ q₁ j₁ m₁)
            (same_runs t f anything s.3 refl th.0 (λ hf. absurd (T_not (nullable f) s.1 hf)) r₂ q₂ j₂ m₂)
            ∙ sym v,
        λ r x j m. let (r₁, r₂, j₁, j₂, u) = both-∈ (K (t ∷ [])) (runs f anything (t ∷ [])) j in (h n te).1 r₁ x j₁ (∈-left (follow n f) m),
      ))
      l)
      (one_way f anything s.3 a.2 c.2 p.1 refl th.2
      (λ n. part t (λ x j. ∈-right (follow n e) j) (ex n))
      (λ n tf. (λ r q j m. one-∈ j ∙ sym (one-∈ m), λ r x j m u. c.0 n x tf m))
      l)
      (append-∈ (letters e) i)

-- Rule 12: what is made of an expression says of two tests whether letters that pass them stand side by side. Assumes nothing.
use mathlib.Core.List.{List, ◌++◌}
use mathlib.Core.Bool.{Bool, ◌&&◌, ◌||◌}
use mathlib.Core.Path.{◌≡◌, refl, sym, ap₂, subst}
use mathlib.Core.Logic.{◌⊎◌, inl, inr, ⊎_elim, ⊎_map, ◌↔◌}
use Prim.Native.Nat.{ℕ}
use lib.Dec.{T, eqb_refl}
use Rattle.meaning.specs.Lists.{◌∈◌, only}
use Rattle.meaning.specs.Expression.{Letter, Exp, letter, seq, alt, star, pipe}
use Rattle.meaning.specs.Shape.{nullable, first, last, follow, threads}
use Rattle.meaning.proofs.ListLaws.{here, there, cons-∈, no-∈, append-∈, ∈-left, ∈-right, one-∈, T_and, and_T, or-T, T-or-left, T-or-right, ∈-only, only-∈}
use Rattle.meaning.proofs.OneWay.{Apart, Numbered, Has, last_has, follow-in, apart-has}
use Rattle.shape.specs.Sides.{Sides, letter_sides, linked, seq_sides, alt_sides, star_sides, pipe_sides, joined_sides}
use Rattle.shape.proofs.Walked.{folded}

-- ---- tests and statements

module _ {P Q : Type 0} (a b : Bool) (p : T a ↔ P) (q : T b ↔ Q) where
  either : T (a || b) ↔ (P ⊎ Q)
  either = (λ t. ⊎_map p.0 q.0 (or-T a b t), ⊎_elim (λ x. T-or-left a b (p.1 x)) (λ y. T-or-right a b (q.1 y)))

  both : T (a && b) ↔ (P × Q)
  both = (λ t. let (x, y) = and_T a b t in (p.0 x, q.0 y), λ (x, y). T_and a b (p.1 x) (q.1 y))

by : {P Q R : Type 0} → P ↔ Q → R ↔ Q → P ↔ R
by f g = (λ x. g.1 (f.0 x), λ x. f.1 (g.0 x))

same_test : {a b : Bool} → a ≡ b → T a ↔ T b
same_test p = (subst T p, subst T (sym p))

-- ---- what comes last

some-last : (e : Exp) → (n : ℕ) × T (last n e)
unfolding last
some-last (letter l) = (l.number, eqb_refl l.number)
some-last (seq e f) = let (n, t) = some-last f in (n, T-or-left (last n f) (nullable f && last n e) t)
some-last (alt e f) = let (n, t) = some-last e in (n, T-or-left (last n e) (last n f) t)
some-last (star e) = some-last e
some-last (pipe e f) = some-last e

-- ---- letters that pass a test

module _ (p : Letter → Bool) where
  -- one can come first
  abbrev pub Starts : Exp → Type 0
  Starts e = (l : Letter) × (l ∈ first e) × T (p l)

  -- one can come next after letter n
  abbrev pub Next : ℕ → Exp → Type 0
  Next n e = (l : Letter) × (l ∈ follow n e) × T (p l)

  -- one can come next after a letter that can come last
  abbrev Ending : Exp → Type 0
  Ending e = (n : ℕ) × T (last n e) × Next n e

  has-next : (n : ℕ) (e : Exp) → Next n e → Has n e
  has-next n e (l, i, t) = (follow-in n e l i).0

  -- of one of two lists
  pass-two : (xs ys : List Letter) → ((l : Letter) × (l ∈ xs ++ ys) × T (p l)) ↔ (((l : Letter) × (l ∈ xs) × T (p l)) ⊎ ((l : Letter) × (l ∈ ys) × T (p l)))
  pass-two xs ys = (
    λ (l, i, t). ⊎_elim (λ j. inl (l, j, t)) (λ j. inr (l, j, t)) (append-∈ xs i),
    ⊎_elim (λ (l, i, t). (l, ∈-left ys i, t)) (λ (l, i, t). (l, ∈-right xs i, t)),
  )

  -- of a list behind another, if at all
  pass-only : (xs : List Letter) (b : Bool) (ys : List Letter)
      → ((l : Letter) × (l ∈ xs ++ only b ys) × T (p l)) ↔ (((l : Letter) × (l ∈ xs) × T (p l)) ⊎ (T b × ((l : Letter) × (l ∈ ys) × T (p l))))
  pass-only xs b ys = (
    λ x. ⊎_map (λ y. y) (λ (l, i, t). let (a, j) = only-∈ b i in (a, (l, j, t))) ((pass-two xs (only b ys)).0 x),
    λ x. (pass-two xs (only b ys)).1 (⊎_map (λ y. y) (λ (a, (l, i, t)). (l, ∈-only b a i, t)) x),
  )

  starts-seq : (e f : Exp) → Starts (seq e f) ↔ (Starts e ⊎ (T (nullable e) × Starts f))
  unfolding first
  starts-seq e f = pass-only (first e) (nullable e) (first f)

  starts-alt : (e f : Exp) → Starts (alt e f) ↔ (Starts e ⊎ Starts f)
  unfolding first
  starts-alt e f = pass-two (first e) (first f)

  -- what comes first in f comes next after what comes last in e
  next-seq : (n : ℕ) (e f : Exp) → Next n (seq e f) ↔ ((Next n e ⊎ Next n f) ⊎ (T (last n e) × Starts f))
  unfolding follow
  next-seq n e f = (
    λ x. ⊎_map (pass-two (follow n e) (follow n f)).0 (λ y. y) ((pass-only (follow n e ++ follow n f) (last n e) (first f)).0 x),
    λ x. (pass-only (follow n e ++ follow n f) (last n e) (first f)).1 (⊎_map (pass-two (follow n e) (follow n f)).1 (λ y. y) x),
  )

  next-alt : (n : ℕ) (e f : Exp) → Next n (alt e f) ↔ (Next n e ⊎ Next n f)
  unfolding follow
  next-alt n e f = pass-two (follow n e) (follow n f)

  next-star : (n : ℕ) (e : Exp) → Next n (star e) ↔ (Next n e ⊎ (T (last n e) × Starts e))
  unfolding follow
  next-star n e = pass-only (follow n e) (last n e) (first e)

  next-pipe : (n : ℕ) (e f : Exp) → Next n (pipe e f) ↔ (Next n e ⊎ Next n f)
  unfolding follow
  next-pipe n e f = pass-two (follow n e) (follow n f)

  ending-seq : (e f : Exp) → Apart e f → Ending (seq e f) ↔ (Ending f ⊎ (T (nullable f) × (Ending e ⊎ Starts f)))
  unfolding last
  ending-seq e f apart = (
    λ (n, t, x). to n (or-T (last n f) (nullable f && last n e) t) ((next-seq n e f).0 x),
    ⊎_elim
        (λ (n, t, x). (n, T-or-left (last n f) (nullable f && last n e) t, (next-seq n e f).1 (inl (inr x))))
        (λ (a, x). ⊎_elim
        (λ (n, t, y). (n, T-or-right (last n f) (nullable f && last n e) (T_and (nullable f) (last n e) a t), (next-seq n e f).1 (inl (inl y))))
        (λ y. let (n, t) = some-last e in
        (n, T-or-right (last n f) (nullable f && last n e) (T_and (nullable f) (last n e) a t), (next-seq n e f).1 (inr (t, y)))) x),
  )
    where
      to : (n : ℕ) → T (last n f) ⊎ T (nullable f && last n e) → (Next n e ⊎ Next n f) ⊎ (T (last n e) × Starts f)
          → Ending f ⊎ (T (nullable f) × (Ending e ⊎ Starts f))
      to n (inl t) (inl (inl x)) = absurd (apart-has e f n apart (has-next n e x) (last_has n f t))
      to n (inl t) (inl (inr x)) = inl (n, t, x)
      to n (inl t) (inr (u, x)) = absurd (apart-has e f n apart (last_has n e u) (last_has n f t))
      to n (inr c) (inl (inl x)) = let (a, t) = and_T (nullable f) (last n e) c in inr (a, inl (n, t, x))
      to n (inr c) (inl (inr x)) = let (a, t) = and_T (nullable f) (last n e) c in absurd (apart-has e f n apart (last_has n e t) (has-next n f x))
      to n (inr c) (inr (u, x)) = let (a, t) = and_T (nullable f) (last n e) c in inr (a, inr x)

  ending-alt : (e f : Exp) → Apart e f → Ending (alt e f) ↔ (Ending e ⊎ Ending f)
  unfolding last
  ending-alt e f apart = (
    λ (n, t, x). to n (or-T (last n e) (last n f) t) ((next-alt n e f).0 x),
    ⊎_elim
        (λ (n, t, x). (n, T-or-left (last n e) (last n f) t, (next-alt n e f).1 (inl x)))
        (λ (n, t, x). (n, T-or-right (last n e) (last n f) t, (next-alt n e f).1 (inr x))),
  )
    where
      to : (n : ℕ) → T (last n e) ⊎ T (last n f) → Next n e ⊎ Next n f → Ending e ⊎ Ending f
      to n (inl t) (inl x) = inl (n, t, x)
      to n (inl t) (inr x) = absurd (apart-has e f n apart (last_has n e t) (has-next n f x))
      to n (inr t) (inl x) = absurd (apart-has e f n apart (has-next n e x) (last_has n f t))
      to n (inr t) (inr x) = inr (n, t, x)

  ending-star : (e : Exp) → Ending (star e) ↔ (Ending e ⊎ Starts e)
  unfolding last
  ending-star e = (
    λ (n, t, x). ⊎_elim (λ y. inl (n, t, y)) (λ (u, y). inr y) ((next-star n e).0 x),
    ⊎_elim (λ (n, t, x). (n, t, (next-star n e).1 (inl x))) (λ x. let (n, t) = some-last e in (n, t, (next-star n e).1 (inr (t, x)))),
  )

  ending-pipe : (e f : Exp) → Apart e f → Ending (pipe e f) ↔ Ending e
  unfolding last
  ending-pipe e f apart = (
    λ (n, t, x). ⊎_elim (λ y. (n, t, y)) (λ y. absurd (apart-has e f n apart (last_has n e t) (has-next n f y))) ((next-pipe n e f).0 x),
    λ (n, t, x). (n, t, (next-pipe n e f).1 (inl x)),
  )

-- ---- letters of two kinds side by side

module _ (p q : Letter → Bool) where
  abbrev Meet : Exp → Type 0
  Meet e = Starts p e × Starts q e

  -- they come first in a thread, or next after the same letter
  abbrev InThread : Exp → Type 0
  InThread e = (f : Exp) × (f ∈ threads e) × Meet f

  abbrev AfterOne : Exp → Type 0
  AfterOne e = (n : ℕ) × Next p n e × Next q n e

  abbrev pub Forks : Exp → Type 0
  Forks e = InThread e ⊎ AfterOne e

  -- where what comes first in f comes next after what comes last in e
  abbrev Link : Exp → Exp → Type 0
  Link e f = (Starts p f × (Ending q e ⊎ Starts q f)) ⊎ (Starts q f × Ending p e)

  thread-two : (es fs : List Exp) → ((g : Exp) × (g ∈ es ++ fs) × Meet g) ↔ (((g : Exp) × (g ∈ es) × Meet g) ⊎ ((g : Exp) × (g ∈ fs) × Meet g))
  thread-two es fs = (
    λ (g, i, m). ⊎_elim (λ j. inl (g, j, m)) (λ j. inr (g, j, m)) (append-∈ es i),
    ⊎_elim (λ (g, i, m). (g, ∈-left fs i, m)) (λ (g, i, m). (g, ∈-right es i, m)),
  )

  -- a link is found in whatever has it
  link-in : (e f g : Exp) → ((r : Letter → Bool) (n : ℕ) → Next r n e → Next r n g) → ((r : Letter → Bool) (n : ℕ) → T (last n e) → Starts r f → Next r n g)
      → Link e f → AfterOne g
  link-in e f g inner linking = ⊎_elim
      (λ (a, x). ⊎_elim
      (λ (n, t, b). (n, linking p n t a, inner q n b))
      (λ b. let (n, t) = some-last e in (n, linking p n t a, linking q n t b)) x)
      (λ (b, (n, t, a)). (n, inner p n a, linking q n t b))

  one-seq : (e f : Exp) → Apart e f → AfterOne (seq e f) ↔ ((AfterOne e ⊎ AfterOne f) ⊎ Link e f)
  one-seq e f apart = (
    λ (n, x, y). to n ((next-seq p n e f).0 x) ((next-seq q n e f).0 y),
    ⊎_elim
        (⊎_elim
        (λ (n, x, y). (n, (next-seq p n e f).1 (inl (inl x)), (next-seq q n e f).1 (inl (inl y))))
        (λ (n, x, y). (n, (next-seq p n e f).1 (inl (inr x)), (next-seq q n e f).1 (inl (inr y)))))
        (link-in e f (seq e f) (λ r n x. (next-seq r n e f).1 (inl (inl x))) (λ r n t x. (next-seq r n e f).1 (inr (t, x)))),
  )
    where
      to : (n : ℕ) → (Next p n e ⊎ Next p n f) ⊎ (T (last n e) × Starts p f) → (Next q n e ⊎ Next q n f) ⊎ (T (last n e) × Starts q f)
          → (AfterOne e ⊎ AfterOne f) ⊎ Link e f
      to n (inl (inl x)) (inl (inl y)) = inl (inl (n, x, y))
      to n (inl (inl x)) (inl (inr y)) = absurd (apart-has e f n apart (has-next p n e x) (has-next q n f y))
      to n (inl (inl x)) (inr (t, y)) = inr (inr (y, (n, t, x)))
      to n (inl (inr x)) (inl (inl y)) = absurd (apart-has e f n apart (has-next q n e y) (has-next p n f x))
      to n (inl (inr x)) (inl (inr y)) = inl (inr (n, x, y))
      to n (inl (inr x)) (inr (t, y)) = absurd (apart-has e f n apart (last_has n e t) (has-next p n f x))
      to n (inr (t, x)) (inl (inl y)) = inr (inl (x, inl (n, t, y)))
      to n (inr (t, x)) (inl (inr y)) = absurd (apart-has e f n apart (last_has n e t) (has-next q n f y))
      to n (inr (t, x)) (inr (u, y)) = inr (inl (x, inr y))

  one-star : (e : Exp) → AfterOne (star e) ↔ (AfterOne e ⊎ Link e e)
  one-star e = (
    λ (n, x, y). to n ((next-star p n e).0 x) ((next-star q n e).0 y),
    ⊎_elim
        (λ (n, x, y). (n, (next-star p n e).1 (inl x), (next-star q n e).1 (inl y)))
        (link-in e e (star e) (λ r n x. (next-star r n e).1 (inl x)) (λ r n t x. (next-star r n e).1 (inr (t, x)))),
  )
    where
      to : (n : ℕ) → Next p n e ⊎ (T (last n e) × Starts p e) → Next q n e ⊎ (T (last n e) × Starts q e) → AfterOne e ⊎ Link e e
      to n (inl x) (inl y) = inl (n, x, y)
      to n (inl x) (inr (t, y)) = inr (inr (y, (n, t, x)))
      to n (inr (t, x)) (inl y) = inr (inl (x, inl (n, t, y)))
      to n (inr (t, x)) (inr (u, y)) = inr (inl (x, inr y))

  -- two operands with no link
  one-two : (e f g : Exp) → Apart e f → ((r : Letter → Bool) (n : ℕ) → Next r n g ↔ (Next r n e ⊎ Next r n f)) → AfterOne g ↔ (AfterOne e ⊎ AfterOne f)
  one-two e f g apart next = (
    λ (n, x, y). to n ((next p n).0 x) ((next q n).0 y),
    ⊎_elim (λ (n, x, y). (n, (next p n).1 (inl x), (next q n).1 (inl y))) (λ (n, x, y). (n, (next p n).1 (inr x), (next q n).1 (inr y))),
  )
    where
      to : (n : ℕ) → Next p n e ⊎ Next p n f → Next q n e ⊎ Next q n f → AfterOne e ⊎ AfterOne f
      to n (inl x) (inl y) = inl (n, x, y)
      to n (inl x) (inr y) = absurd (apart-has e f n apart (has-next p n e x) (has-next q n f y))
      to n (inr x) (inl y) = absurd (apart-has e f n apart (has-next q n e y) (has-next p n f x))
      to n (inr x) (inr y) = inr (n, x, y)

  forks-seq : (e f : Exp) → Apart e f → Forks (seq e f) ↔ (Forks e ⊎ (Forks f ⊎ Link e f))
  unfolding threads
  forks-seq e f apart = (
    ⊎_elim
        (λ x. ⊎_elim (λ y. inl (inl y)) (λ y. inr (inl (inl y))) ((thread-two (threads e) (threads f)).0 x))
        (λ x. ⊎_elim (⊎_elim (λ y. inl (inr y)) (λ y. inr (inl (inr y)))) (λ y. inr (inr y)) ((one-seq e f apart).0 x)),
    ⊎_elim
        (⊎_elim (λ x. inl ((thread-two (threads e) (threads f)).1 (inl x))) (λ x. inr ((one-seq e f apart).1 (inl (inl x)))))
        (⊎_elim
        (⊎_elim (λ x. inl ((thread-two (threads e) (threads f)).1 (inr x))) (λ x. inr ((one-seq e f apart).1 (inl (inr x)))))
        (λ x. inr ((one-seq e f apart).1 (inr x)))),
  )

  -- threads and letters of two operands with no link
  forks-two : (e f g : Exp) → AfterOne g ↔ (AfterOne e ⊎ AfterOne f)
      → (((h : Exp) × (h ∈ threads e ++ threads f) × Meet h) ⊎ AfterOne g) ↔ (Forks e ⊎ Forks f)
  forks-two e f g one = (
    ⊎_elim
        (λ x. ⊎_map inl inl ((thread-two (threads e) (threads f)).0 x))
        (λ x. ⊎_map inr inr (one.0 x)),
    ⊎_elim
        (⊎_elim (λ x. inl ((thread-two (threads e) (threads f)).1 (inl x))) (λ x. inr (one.1 (inl x))))
        (⊎_elim (λ x. inl ((thread-two (threads e) (threads f)).1 (inr x))) (λ x. inr (one.1 (inr x)))),
  )

  forks-alt : (e f : Exp) → Apart e f → Forks (alt e f) ↔ (Forks e ⊎ Forks f)
  unfolding threads
  forks-alt e f apart = forks-two e f (alt e f) (one-two e f (alt e f) apart (λ r n. next-alt r n e f))

  forks-star : (e : Exp) → Forks (star e) ↔ (Forks e ⊎ Link e e)
  unfolding threads
  forks-star e = (
    ⊎_elim (λ x. inl (inl x)) (λ x. ⊎_map inr (λ y. y) ((one-star e).0 x)),
    ⊎_elim (⊎_elim (λ x. inl x) (λ x. inr ((one-star e).1 (inl x)))) (λ x. inr ((one-star e).1 (inr x))),
  )

  forks-pipe : (e f : Exp) → Apart e f → Forks (pipe e f) ↔ (Meet f ⊎ (Forks e ⊎ Forks f))
  unfolding threads
  forks-pipe e f apart = (
    ⊎_elim
        (λ (g, i, m). ⊎_elim (λ z. inl (subst Meet z m)) (λ j. inr (rest.0 (inl (g, j, m)))) (cons-∈ i))
        (λ x. inr (rest.0 (inr x))),
    ⊎_elim
        (λ m. inl (f, here refl, m))
        (λ x. ⊎_elim (λ (g, i, m). inl (g, there i, m)) (λ y. inr y) (rest.1 x)),
  )
    where
      rest : (((h : Exp) × (h ∈ threads e ++ threads f) × Meet h) ⊎ AfterOne (pipe e f)) ↔ (Forks e ⊎ Forks f)
      rest = forks-two e f (pipe e f) (one-two e f (pipe e f) apart (λ r n. next-pipe r n e f))

  -- ---- what is made of an expression

  pub record Right (s : Sides) (e : Exp) : Type 0 where
    pub null : s.nullable ≡ nullable e
    pub first-own : T s.first_own ↔ Starts p e
    pub first-rival : T s.first_rival ↔ Starts q e
    pub next-own : T s.next_own ↔ Ending p e
    pub next-rival : T s.next_rival ↔ Ending q e
    pub fork : T s.fork ↔ Forks e

  letter-right : (l : Letter) → Right (letter_sides (p l) (q l)) (letter l)
  unfolding nullable first follow threads
  letter-right l = record {
    null = refl;
    first-own = (λ t. (l, here refl, t), λ (x, i, t). subst (λ z. T (p z)) (one-∈ i) t);
    first-rival = (λ t. (l, here refl, t), λ (x, i, t). subst (λ z. T (q z)) (one-∈ i) t);
    next-own = (λ t. absurd t, λ (n, t, (x, i, u)). absurd (no-∈ i));
    next-rival = (λ t. absurd t, λ (n, t, (x, i, u)). absurd (no-∈ i));
    fork = (λ t. absurd t, ⊎_elim (λ (f, i, m). absurd (no-∈ i)) (λ (n, (x, i, t), y). absurd (no-∈ i)));
  }

  module _ (s u : Sides) (e f : Exp) (a : Right s e) (b : Right u f) where
    link-right : T (linked s u) ↔ Link e f
    link-right = either (u.first_own && (s.next_rival || u.first_rival)) (u.first_rival && s.next_own)
        (both u.first_own (s.next_rival || u.first_rival) b.first-own (either s.next_rival u.first_rival a.next-rival b.first-rival))
        (both u.first_rival s.next_own b.first-rival a.next-own)

    seq-right : Apart e f → Right (seq_sides s u) (seq e f)
    unfolding nullable
    seq-right apart = record {
      null = ap₂ ◌&&◌ a.null b.null;
      first-own = by
          (either s.first_own (s.nullable && u.first_own) a.first-own (both s.nullable u.first_own (same_test a.null) b.first-own))
          (starts-seq p e f);
      first-rival = by
          (either s.first_rival (s.nullable && u.first_rival) a.first-rival (both s.nullable u.first_rival (same_test a.null) b.first-rival))
          (starts-seq q e f);
      next-own = by
          (either u.next_own (u.nullable && (s.next_own || u.first_own)) b.next-own
          (both u.nullable (s.next_own || u.first_own) (same_test b.null) (either s.next_own u.first_own a.next-own b.first-own)))
          (ending-seq p e f apart);
      next-rival = by
          (either u.next_rival (u.nullable && (s.next_rival || u.first_rival)) b.next-rival
          (both u.nullable (s.next_rival || u.first_rival) (same_test b.null) (either s.next_rival u.first_rival a.next-rival b.first-rival)))
          (ending-seq q e f apart);
      fork = by (either s.fork (u.fork || linked s u) a.fork (either u.fork (linked s u) b.fork link-right)) (forks-seq e f apart);
    }

    alt-right : Apart e f → Right (alt_sides s u) (alt e f)
    unfolding nullable
    alt-right apart = record {
      null = ap₂ ◌||◌ a.null b.null;
      first-own = by (either s.first_own u.first_own a.first-own b.first-own) (starts-alt p e f);
      first-rival = by (either s.first_rival u.first_rival a.first-rival b.first-rival) (starts-alt q e f);
      next-own = by (either s.next_own u.next_own a.next-own b.next-own) (ending-alt p e f apart);
      next-rival = by (either s.next_rival u.next_rival a.next-rival b.next-rival) (ending-alt q e f apart);
      fork = by (either s.fork u.fork a.fork b.fork) (forks-alt e f apart);
    }

    pipe-right : Apart e f → Right (pipe_sides s u) (pipe e f)
    unfolding nullable first
    pipe-right apart = record {
      null = refl;
      first-own = a.first-own;
      first-rival = a.first-rival;
      next-own = by a.next-own (ending-pipe p e f apart);
      next-rival = by a.next-rival (ending-pipe q e f apart);
      fork = by
          (either (u.first_own && u.first_rival) (s.fork || u.fork) (both u.first_own u.first_rival b.first-own b.first-rival)
          (either s.fork u.fork a.fork b.fork))
          (forks-pipe e f apart);
    }

  star-right : (s : Sides) (e : Exp) → Right s e → Right (star_sides s) (star e)
  unfolding nullable first
  star-right s e a = record {
    null = refl;
    first-own = a.first-own;
    first-rival = a.first-rival;
    next-own = by (either s.next_own s.first_own a.next-own a.first-own) (ending-star p e);
    next-rival = by (either s.next_rival s.first_rival a.next-rival a.first-rival) (ending-star q e);
    fork = by (either s.fork (linked s s) a.fork (link-right s s e e a a)) (forks-star e);
  }

  abbrev pub made : Exp → Sides
  made e = folded (λ l. letter_sides (p l) (q l)) star_sides joined_sides e

  sides-right : (e : Exp) → Numbered e → Right (made e) e
  unfolding folded
  sides-right (letter l) h = letter-right l
  sides-right (seq e f) (h, i, j) = seq-right (made e) (made f) e f (sides-right e i) (sides-right f j) h
  sides-right (alt e f) (h, i, j) = alt-right (made e) (made f) e f (sides-right e i) (sides-right f j) h
  sides-right (star e) h = star-right (made e) e (sides-right e h)
  sides-right (pipe e f) (h, i, j) = pipe-right (made e) (made f) e f (sides-right e i) (sides-right f j) h

  -- A monitor, whose last letters are followed by its first ones, as in a star.
  pub forks-right : (m : Exp) → Numbered m → T (star_sides (made m)).fork ↔ Forks (star m)
  forks-right m h = (star-right (made m) m (sides-right m h)).fork

  -- those that come first in it come next after its last letters
  pub first-forks : (m : Exp) → Starts p m → Starts q m → Forks (star m)
  first-forks m a b = (forks-star m).1 (inr (inl (a, inr b)))

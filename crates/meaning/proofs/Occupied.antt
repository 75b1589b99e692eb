-- F17 in the machine: a thread that is never started while it is busy has one letter a tick at most, and so the machine that keeps busy threads shut goes as the one that counts the
-- letters of each thread.
use mathlib.Core.List.{List, [], ◌∷◌, ◌++◌}
use mathlib.Core.Bool.{Bool, true, false, not, cond, ◌&&◌, ◌||◌}
use mathlib.Core.Option.{Option, none, some, none-ne-some, some-injective}
use mathlib.Core.Path.{◌≡◌, refl, sym, ap, ap₂, ◌∙◌, subst}
use mathlib.Core.Logic.{◌⊎◌, inl, inr, ⊎_elim}
use Prim.Native.Nat.{ℕ, ◌+◌, ◌≤◌}
use native.Mathlib.Omega.{arith}
use lib.Dec.{T, T_not, not_T, eqb, leb, leb→le, le→leb}
use Rattle.meaning.specs.Lists.{◌∈◌, count, total}
use Rattle.meaning.specs.Expression.{Letter, Exp, letter, seq, alt, star, pipe, letters, own}
use Rattle.meaning.specs.Shape.{nullable, last, follow, threads}
use Rattle.meaning.specs.Fit.{Tick, among, required, occupied}
use Rattle.meaning.specs.Positions.{Way, stuck, over, joined, Entered, met, passed, blocked, enter, goes_by, ask, has, under_way, busy, begin, leave, Positions, at_start, on, go_all, go}
use Rattle.meaning.proofs.ListLaws.{here, there, cons-∈, no-∈, append-∈, ∈-left, ∈-right, and_T, is_true, is_false, by-test, by_cond, any-from, any-to}
use Rattle.meaning.proofs.Step.{Solid}
use Rattle.meaning.proofs.Entering.{passed-nullable}
use Rattle.meaning.proofs.OneWay.{Apart, Numbered, Closed, Has, apart-has}
use Rattle.meaning.proofs.Threads.{among-to, among-from, among-at, among-append, among-left, among-right, rest_has, own-letters, own-has, own-here, own-there, thread-has, own-apart, not-both, one-own, Ends, seq-ends, alt-ends, star-ends, pipe-ends, seq-not-last, alt-not-last}
use Rattle.meaning.proofs.Active.{idle, passing, passing-yes, then_some, positions_after}
use Rattle.meaning.proofs.Monitor.{Accepted, go_idle, admits, go_counted}
use Rattle.meaning.proofs.Sets.{Within, joined-some, MetIn, enter-own, go-inside}

-- ---- how many letters of a way are counted; c says which ----

abbrev AtMost : (ℕ → Bool) → Option (List ℕ) → ℕ → Type 0
AtMost c o k = (qs : List ℕ) → o ≡ some qs → count c qs ≤ k

abbrev AtLeast : (ℕ → Bool) → Option (List ℕ) → ℕ → Type 0
AtLeast c o k = (qs : List ℕ) → o ≡ some qs → k ≤ count c qs

pub count-append : (c : ℕ → Bool) (xs ys : List ℕ) → count c (xs ++ ys) ≡ count c xs + count c ys
count-append c [] ys = omega arith
count-append c (x ∷ xs) ys = let h = count-append c xs ys in omega (arith, h)

-- a letter that is counted counts one
pub counts-one : (b : Bool) → T b → cond b 1 0 + 0 ≡ 1
counts-one true h = refl
counts-one false h = absurd h

one-counted : (b : Bool) (k : ℕ) → (T b → 1 ≤ k) → cond b 1 0 + 0 ≤ k
one-counted true k h = let x = h tt in omega (arith, x)
one-counted false k h = omega arith

zero-cond : (b : Bool) (k : ℕ) → cond b 0 0 ≤ k
zero-cond true k = omega arith
zero-cond false k = omega arith

cond-left : (ls ms : List Letter) (n k : ℕ) → cond (among ls n) k 0 ≤ cond (among (ls ++ ms) n) k 0
cond-left ls ms n k = rw (among-append ls ms n) (by (among ls n) (among ms n))
  where
    by : (a b : Bool) → cond a k 0 ≤ cond (a || b) k 0
    by true b = omega arith
    by false b = omega arith

cond-right : (ls ms : List Letter) (n k : ℕ) → cond (among ms n) k 0 ≤ cond (among (ls ++ ms) n) k 0
cond-right ls ms n k = rw (among-append ls ms n) (by (among ls n) (among ms n))
  where
    by : (a b : Bool) → cond b k 0 ≤ cond (a || b) k 0
    by true true = omega arith
    by true false = omega arith
    by false b = omega arith

module _ (c : ℕ → Bool) where
  most-none : (k : ℕ) → AtMost c none k
  most-none k qs p = absurd (none-ne-some qs p)

  most-some : (ns : List ℕ) (k : ℕ) → count c ns ≤ k → AtMost c (some ns) k
  most-some ns k h qs p = subst (λ z. count c z ≤ k) (some-injective ns qs p) h

  most-joined : (o q : Option (List ℕ)) (j k : ℕ) → AtMost c o j → AtMost c q k → AtMost c (joined o q) (j + k)
  most-joined o q j k g h ns p =
      let (cs, bs, a, b, e) = joined-some o q ns p in
      let x = g cs a in
      let y = h bs b in
      let z = count-append c cs bs in
      subst (λ l. count c l ≤ j + k) e (omega (arith, x, y, z))

  most-cond : (b : Bool) (o q : Option (List ℕ)) (k : ℕ) → (T b → AtMost c o k) → (T (not b) → AtMost c q k) → AtMost c (cond b o q) k
  most-cond b o q k = by_cond (λ z. AtMost c z k) b o q

  most-weak : (o : Option (List ℕ)) (j k : ℕ) → j ≤ k → AtMost c o j → AtMost c o k
  most-weak o j k l h qs p = let x = h qs p in omega (arith, x)

  -- e is asked: one of its own letters, or what K goes on with
  most-ask : (e : Exp) (K : Way) (t : Tick) (k : ℕ) → ((x : Letter) → x ∈ own e → T (c x.number) → 1 ≤ k) → AtMost c (K t) k → AtMost c (ask e K t) k
  most-ask e K t k h g = by (enter e t) (enter-own (λ n. T (c n) → 1 ≤ k) e t h)
    where
      by : (a : Entered) → MetIn (λ n. T (c n) → 1 ≤ k) a → AtMost c (goes_by a (K t)) k
      by (met n) u = most-some (n ∷ []) k (one-counted (c n) k u)
      by passed u = g
      by blocked u = most-none k

  most-over : (k : ℕ) → AtMost c (some []) k
  most-over k = most-some [] k (omega arith)

  -- a thread is started
  most-begin : (B : Exp → Bool) (f : Exp) (t : Tick) (k : ℕ) → ((x : Letter) → x ∈ own f → T (c x.number) → 1 ≤ k) → AtMost c (begin B f t) k
  most-begin B f t k h = most-cond (B f) none (ask f over t) k (λ b. most-none k) (λ b. most-ask f over t k h (most-over k))

  -- c counts no letter of a thread inside e
  abbrev pub Quiet : Exp → Type 0
  Quiet (letter l) = Unit {0}
  Quiet (seq e f) = Quiet e × Quiet f
  Quiet (alt e f) = Quiet e × Quiet f
  Quiet (star e) = Quiet e
  Quiet (pipe e f) = Quiet e × ((x : Letter) → x ∈ letters f → T (c x.number) → ⊥)

  pub quiet_none : (e : Exp) → ((x : Letter) → x ∈ letters e → T (c x.number) → ⊥) → Quiet e
  unfolding letters
  quiet_none (letter l) h = tt
  quiet_none (seq e f) h = (quiet_none e (λ x i. h x (∈-left (letters f) i)), quiet_none f (λ x i. h x (∈-right (letters e) i)))
  quiet_none (alt e f) h = (quiet_none e (λ x i. h x (∈-left (letters f) i)), quiet_none f (λ x i. h x (∈-right (letters e) i)))
  quiet_none (star e) h = quiet_none e h
  quiet_none (pipe e f) h = (quiet_none e (λ x i. h x (∈-left (letters f) i)), λ x i. h x (∈-right (letters e) i))

  -- Letter n of e is left: at most one own letter of e, or what K goes on with; where n stands in a thread of e, nothing that is counted.
  most-leave : (B : Exp → Bool) (n : ℕ) (e : Exp) (K : Way) (t : Tick) (k : ℕ) → T (has n e) → Quiet e → ((x : Letter) → x ∈ own e → T (c x.number) → 1 ≤ k)
      → (T (among (own e) n) → AtMost c (K t) k) → AtMost c (leave B n e K t) (cond (among (own e) n) k 0)
  unfolding leave own letters
  most-leave B n (letter l) K t k h q o g = by (among (l ∷ []) n) h g
    where
      by : (b : Bool) → T b → (T b → AtMost c (K t) k) → AtMost c (K t) (cond b k 0)
      by true h g = g tt
      by false h g = absurd h
  most-leave B n (seq e f) K t k h q o g = most-cond (has n e) _ _ _
      (λ b. most-weak _ _ _ (cond-left (own e) (own f) n k) (most-leave B n e (ask f K) t k b q.0 (λ x i. o x (∈-left (own f) i))
      (λ u. most-ask f K t k (λ x i. o x (∈-right (own e) i)) (g (among-left (own e) (own f) n u)))))
      (λ b. most-weak _ _ _ (cond-right (own e) (own f) n k) (most-leave B n f K t k (rest_has (letters e) (letters f) n h b) q.1 (λ x i. o x (∈-right (own e) i))
      (λ u. g (among-right (own e) (own f) n u))))
  most-leave B n (alt e f) K t k h q o g = most-cond (has n e) _ _ _
      (λ b. most-weak _ _ _ (cond-left (own e) (own f) n k) (most-leave B n e K t k b q.0 (λ x i. o x (∈-left (own f) i)) (λ u. g (among-left (own e) (own f) n u))))
      (λ b. most-weak _ _ _ (cond-right (own e) (own f) n k) (most-leave B n f K t k (rest_has (letters e) (letters f) n h b) q.1 (λ x i. o x (∈-right (own e) i))
      (λ u. g (among-right (own e) (own f) n u))))
  most-leave B n (star e) K t k h q o g = most-leave B n e (ask (star e) K) t k h q o (λ u. most-ask (star e) K t k o (g u))
  most-leave B n (pipe e f) K t k h q o g = most-cond (has n e) _ _ _
      (λ b. most-leave B n e (λ u. joined (K u) (begin B f u)) t k b q.0 o
      (λ u. most-weak _ (k + 0) k (omega arith) (most-joined (K t) (begin B f t) k 0 (g u) (most-begin B f t 0 (λ x i w. absurd (q.1 x (own-letters f x i) w))))))
      (λ b. most-weak _ _ _ (zero-cond (among (own f) n) _) (most-leave B n f over t 0 (rest_has (letters e) (letters f) n h b) (quiet_none f q.1)
      (λ x i w. absurd (q.1 x (own-letters f x i) w)) (λ u. most-over 0)))

  -- A last letter of e that nothing follows inside e is left: nothing but what K goes on with.
  most-ended : (B : Exp → Bool) (n : ℕ) (e : Exp) (K : Way) (t : Tick) (k : ℕ) → Numbered e → T (among (own e) n) → Ends n e → Quiet e → AtMost c (K t) k → AtMost c (leave B n e K t) k
  unfolding leave own
  most-ended B n (letter l) K t k a o z q g = g
  most-ended B n (seq e h) K t k a o z q g =
      let (b, w) = seq-ends n e h a.0 z in
      most-cond (has n e) _ _ k (λ d. absurd (T_not (has n e) b d)) (λ d. most-ended B n h K t k a.2 (own-there e h n d o) w q.1 g)
  most-ended B n (alt e h) K t k a o z q g =
      let (v, w) = alt-ends n e h a.0 z in
      most-cond (has n e) _ _ k (λ d. most-ended B n e K t k a.1 (own-here e h n a.0 d o) (v d) q.0 g) (λ d. most-ended B n h K t k a.2 (own-there e h n d o) (w d) q.1 g)
  most-ended B n (star e) K t k a o z q g = absurd (star-ends n e z)
  most-ended B n (pipe e h) K t k a o z q g = most-cond (has n e) _ _ k
      (λ b. most-ended B n e (λ u. joined (K u) (begin B h u)) t k a.1 o (pipe-ends n e h z) q.0
      (most-weak _ (k + 0) k (omega arith) (most-joined (K t) (begin B h t) k 0 g (most-begin B h t 0 (λ x i w. absurd (q.1 x (own-letters h x i) w))))))
      (λ b. absurd (T_not (has n e) b (own-has e n o)))

  -- ---- at least one ----

  least-none : (k : ℕ) → AtLeast c none k
  least-none k qs p = absurd (none-ne-some qs p)

  least-cond : (b : Bool) (o q : Option (List ℕ)) (k : ℕ) → (T b → AtLeast c o k) → (T (not b) → AtLeast c q k) → AtLeast c (cond b o q) k
  least-cond b o q k = by_cond (λ z. AtLeast c z k) b o q

  least-joined : (o q : Option (List ℕ)) (k : ℕ) → AtLeast c o k → AtLeast c (joined o q) k
  least-joined o q k g ns p =
      let (cs, bs, a, b, e) = joined-some o q ns p in
      let x = g cs a in
      let z = count-append c cs bs in
      subst (λ l. k ≤ count c l) e (omega (arith, x, z))

  -- c counts every own letter of e
  abbrev pub Counts : Exp → Type 0
  Counts e = (x : Letter) → x ∈ own e → T (c x.number)

  least-ask : (e : Exp) (K : Way) (t : Tick) → Solid e → Counts e → (T (nullable e) → AtLeast c (K t) 1) → AtLeast c (ask e K t) 1
  least-ask e K t s h g = by (enter e t) refl (enter-own (λ n. T (c n)) e t h)
    where
      by : (a : Entered) → enter e t ≡ a → MetIn (λ n. T (c n)) a → AtLeast c (goes_by a (K t)) 1
      by (met n) p u = λ qs q. subst (λ z. 1 ≤ count c z) (some-injective (n ∷ []) qs q) ((let x = counts-one (c n) u in omega (arith, x)))
      by passed p u = g (passed-nullable e s t p)
      by blocked p u = least-none 1

  -- An own letter of e is left: an own letter of e, or what K goes on with.
  least-leave : (B : Exp → Bool) (n : ℕ) (e : Exp) (K : Way) (t : Tick) → Solid e → Numbered e → T (among (own e) n) → Counts e → AtLeast c (K t) 1 → AtLeast c (leave B n e K t) 1
  unfolding leave own
  least-leave B n (letter l) K t s a o h g = g
  least-leave B n (seq e f) K t s a o h g = least-cond (has n e) _ _ 1
      (λ b. least-leave B n e (ask f K) t s.0 a.1 (own-here e f n a.0 b o) (λ x i. h x (∈-left (own f) i)) (least-ask f K t s.1 (λ x i. h x (∈-right (own e) i)) (λ u. g)))
      (λ b. least-leave B n f K t s.1 a.2 (own-there e f n b o) (λ x i. h x (∈-right (own e) i)) g)
  least-leave B n (alt e f) K t s a o h g = least-cond (has n e) _ _ 1
      (λ b. least-leave B n e K t s.0 a.1 (own-here e f n a.0 b o) (λ x i. h x (∈-left (own f) i)) g)
      (λ b. least-leave B n f K t s.1 a.2 (own-there e f n b o) (λ x i. h x (∈-right (own e) i)) g)
  least-leave B n (star e) K t s a o h g = least-leave B n e (ask (star e) K) t s.1 a o h (least-ask (star e) K t s h (λ u. g))
  least-leave B n (pipe e f) K t s a o h g = least-cond (has n e) _ _ 1
      (λ b. least-leave B n e (λ u. joined (K u) (begin B f u)) t s.2 a.1 o h (least-joined (K t) (begin B f t) 1 g))
      (λ b. absurd (T_not (has n e) b (own-has e n o)))

  -- One that is not a last letter of e: an own letter of e, whatever follows e.
  least_on : (B : Exp → Bool) (n : ℕ) (e : Exp) (K : Way) (t : Tick) → Solid e → Numbered e → T (among (own e) n) → T (not (last n e)) → Counts e → AtLeast c (leave B n e K t) 1
  unfolding leave own last
  least_on B n (letter l) K t s a o z h = absurd (T_not (eqb n l.number) z (one-own l n o))
  least_on B n (seq e f) K t s a o z h = least-cond (has n e) _ _ 1
      (λ b. by-test (nullable f)
      (λ y. least_on B n e (ask f K) t s.0 a.1 (own-here e f n a.0 b o) ((seq-not-last n e f z).1 y) (λ x i. h x (∈-left (own f) i)))
      (λ y. least-leave B n e (ask f K) t s.0 a.1 (own-here e f n a.0 b o) (λ x i. h x (∈-left (own f) i))
      (least-ask f K t s.1 (λ x i. h x (∈-right (own e) i)) (λ v. absurd (T_not (nullable f) y v)))))
      (λ b. least_on B n f K t s.1 a.2 (own-there e f n b o) (seq-not-last n e f z).0 (λ x i. h x (∈-right (own e) i)))
  least_on B n (alt e f) K t s a o z h =
      let (v, w) = alt-not-last n e f z in
      least-cond (has n e) _ _ 1
      (λ b. least_on B n e K t s.0 a.1 (own-here e f n a.0 b o) v (λ x i. h x (∈-left (own f) i)))
      (λ b. least_on B n f K t s.1 a.2 (own-there e f n b o) w (λ x i. h x (∈-right (own e) i)))
  least_on B n (star e) K t s a o z h = least_on B n e (ask (star e) K) t s.1 a o z h
  least_on B n (pipe e f) K t s a o z h = least-cond (has n e) _ _ 1
      (λ b. least_on B n e (λ u. joined (K u) (begin B f u)) t s.2 a.1 o z h)
      (λ b. absurd (T_not (has n e) b (own-has e n o)))

  -- c counts own letters of e alone, among its letters
  pub quiet-own : (e : Exp) → Numbered e → ((x : Letter) → x ∈ letters e → T (c x.number) → T (among (own e) x.number)) → Quiet e
  unfolding letters own
  quiet-own (letter l) a h = tt
  quiet-own (seq e f) a h = (
    quiet-own e a.1 (λ x i w. own-here e f x.number a.0 (among-from (letters e) x i) (h x (∈-left (letters f) i) w)),
    quiet-own f a.2 (λ x i w. own-there e f x.number (not-both e f x a.0 i) (h x (∈-right (letters e) i) w)),
  )
  quiet-own (alt e f) a h = (
    quiet-own e a.1 (λ x i w. own-here e f x.number a.0 (among-from (letters e) x i) (h x (∈-left (letters f) i) w)),
    quiet-own f a.2 (λ x i w. own-there e f x.number (not-both e f x a.0 i) (h x (∈-right (letters e) i) w)),
  )
  quiet-own (star e) a h = quiet-own e a h
  quiet-own (pipe e f) a h = (
    quiet-own e a.1 (λ x i w. h x (∈-left (letters f) i) w),
    λ x i w. T_not (has x.number e) (not-both e f x a.0 i) (own-has e x.number (h x (∈-right (letters e) i) w)),
  )

-- ---- the letters of the thread f ----

-- a list of letters that is part of another
abbrev Sub : List Letter → List Letter → Type 0
Sub ls ms = (n : ℕ) → T (among ls n) → T (among ms n)

-- ls are own letters of e, or of a thread inside it
abbrev LineOf : Exp → List Letter → Type 0
LineOf e ls = Sub ls (own e) ⊎ ((g : Exp) × (g ∈ threads e) × Sub ls (own g))

module _ (f : Exp) where
  -- where n is left, one for f if it is under way there, and one if n is a letter of ls and f is not shut
  abbrev charge : List Letter → (Exp → Bool) → ℕ → ℕ
  charge ls B n = cond (under_way n f) 1 0 + cond (among ls n && not (B f)) 1 0

  -- No more letters of f come of leaving a letter n of e: ls are the letters that f can be started from.
  abbrev Started : Exp → List Letter → Type 0
  Started e ls = (B : Exp → Bool) (n : ℕ) (K : Way) (t : Tick) (k : ℕ) → T (has n e) → (T (among (own e) n) → AtMost (among (own f)) (K t) k)
      → AtMost (among (own f)) (leave B n e K t) (k + charge ls B n)

  abbrev Starts : Exp → Type 0
  Starts e = (ls : List Letter) × LineOf e ls × Started e ls

  -- f is not in e
  abbrev Away : Exp → Type 0
  Away e = (x : Letter) → x ∈ letters e → T (among (own f) x.number) → ⊥

  away-left : (e g : Exp) → Apart e g → f ∈ threads g → Away e
  away-left e g a i x j w = apart-has e g x.number a (x, j, refl) (thread-has g f i x.number w)

  away-right : (e g : Exp) → Apart e g → f ∈ threads e → Away g
  away-right e g a i x j w = apart-has e g x.number a (thread-has e f i x.number w) (x, j, refl)

  cond-most : (b : Bool) (k : ℕ) → cond b k 0 ≤ k
  cond-most true k = omega arith
  cond-most false k = omega arith

  -- a letter of a part is left that f is not in
  other : (B : Exp → Bool) (n : ℕ) (e : Exp) (K : Way) (t : Tick) (k : ℕ) → T (has n e) → Away e → (T (among (own e) n) → AtMost (among (own f)) (K t) k)
      → AtMost (among (own f)) (leave B n e K t) k
  other B n e K t k h z g = most-weak (among (own f)) _ _ k (cond-most (among (own e) n) k)
      (most-leave (among (own f)) B n e K t k h (quiet_none (among (own f)) e z) (λ x i w. absurd (z x (own-letters e x i) w)) g)

  -- a part is asked that has no letter of f of its own
  asked : (g : Exp) (K : Way) (t : Tick) (k : ℕ) → ((x : Letter) → x ∈ own g → T (among (own f) x.number) → ⊥) → AtMost (among (own f)) (K t) k → AtMost (among (own f)) (ask g K t) k
  asked g K t k z h = most-ask (among (own f)) g K t k (λ x i w. absurd (z x i w)) h

  own-away : (e : Exp) → Numbered e → f ∈ threads e → (x : Letter) → x ∈ own e → T (among (own f) x.number) → ⊥
  own-away e a i x j w = own-apart e f a i x.number w (among-from (own e) x j)

  -- f itself is started
  begun : (B : Exp → Bool) (t : Tick) → AtMost (among (own f)) (begin B f t) (cond (not (B f)) 1 0)
  begun B t = by (B f)
    where
      by : (b : Bool) → AtMost (among (own f)) (cond b none (ask f over t)) (cond (not b) 1 0)
      by true = most-none (among (own f)) 0
      by false = most-ask (among (own f)) f over t 1 (λ x i w. omega arith) (most-over (among (own f)) 1)

  -- a letter of f itself is left, or one of a thread inside it
  inside : (B : Exp → Bool) (n : ℕ) (t : Tick) → Numbered f → ((k : ℕ) (x : Letter) → T (last k f) → x ∈ follow k f → ⊥) → T (has n f)
      → AtMost (among (own f)) (leave B n f over t) (cond (under_way n f) 1 0)
  inside B n t a z h = by (among (own f) n) refl (last n f) refl
    where
      quiet : Quiet (among (own f)) f
      quiet = quiet-own (among (own f)) f a (λ x i w. w)

      by : (o : Bool) → among (own f) n ≡ o → (b : Bool) → last n f ≡ b → AtMost (among (own f)) (leave B n f over t) (cond (o && not b) 1 0)
      by true p true q = most-ended (among (own f)) B n f over t 0 a (rw p tt) (rw q tt, λ x. z n x (rw q tt)) quiet (most-over (among (own f)) 0)
      by true p false q = rw p at (most-leave (among (own f)) B n f over t 1 h quiet (λ x i w. omega arith) (λ u. most-over (among (own f)) 1))
      by false p b q = rw p at (most-leave (among (own f)) B n f over t 1 h quiet (λ x i w. omega arith) (λ u. most-over (among (own f)) 1))

  -- the `@` of f
  at-pipe : (e : Exp) → Numbered (pipe e f) → Closed (pipe e f) → Starts (pipe e f)
  unfolding leave own letters
  at-pipe e a z = (
    own e,
    inl (λ n u. u),
    λ B n K t k h g. most-cond (among (own f)) (has n e) _ _ _
        (λ b. most-weak (among (own f)) _ _ _ (by B n k (among (own e) n))
        (most-leave (among (own f)) B n e (λ u. joined (K u) (begin B f u)) t (k + cond (not (B f)) 1 0) b (quiet_none (among (own f)) e out)
        (λ x i w. absurd (out x (own-letters e x i) w))
        (λ u. most-joined (among (own f)) (K t) (begin B f t) k (cond (not (B f)) 1 0) (g u) (begun B t))))
        (λ b. most-weak (among (own f)) _ _ _ (omega arith) (inside B n t a.2 z.0 (rest_has (letters e) (letters f) n h b))),
  )
    where
      out : Away e
      out x i w = apart-has e f x.number a.0 (x, i, refl) (among-to (letters f) x.number (own-has f x.number w))

      by : (B : Exp → Bool) (n k : ℕ) (o : Bool) → cond o (k + cond (not (B f)) 1 0) 0 ≤ k + (cond (under_way n f) 1 0 + cond (o && not (B f)) 1 0)
      by B n k true = omega arith
      by B n k false = omega arith

  -- e stands in h, with its threads
  line-up : (e h : Exp) (ls : List Letter) → Sub (own e) (own h) → ((y : Exp) → y ∈ threads e → y ∈ threads h) → LineOf e ls → LineOf h ls
  line-up e h ls o u (inl s) = inl (λ n w. o n (s n w))
  line-up e h ls o u (inr (y, i, s)) = inr (y, u y i, s)

  in-thread : (e g : Exp) (ls : List Letter) → LineOf g ls → (y : Exp) × (y ∈ g ∷ (threads e ++ threads g)) × Sub ls (own y)
  in-thread e g ls (inl s) = (g, here refl, s)
  in-thread e g ls (inr (y, i, s)) = (y, there (∈-right (threads e) i), s)

  -- another thread g is started
  behind : (B : Exp → Bool) (g : Exp) (K : Way) (t : Tick) (k : ℕ) → ((x : Letter) → x ∈ own g → T (among (own f) x.number) → ⊥) → AtMost (among (own f)) (K t) k
      → AtMost (among (own f)) (joined (K t) (begin B g t)) k
  behind B g K t k z h = most-weak (among (own f)) _ (k + 0) k (omega arith)
      (most-joined (among (own f)) (K t) (begin B g t) k 0 h (most-begin (among (own f)) B g t 0 (λ x i w. absurd (z x i w))))

  -- f stands somewhere in e
  pub starts : (e : Exp) → Numbered e → Closed e → f ∈ threads e → Starts e
  unfolding leave own letters threads
  starts (letter l) a z i = absurd (no-∈ i)
  starts (seq e g) a z i = ⊎_elim
      (λ j. let (ls, w, u) = starts e a.1 z.0 j in (
        ls,
        line-up e (seq e g) ls (λ n. among-left (own e) (own g) n) (λ y. ∈-left (threads g)) w,
        λ B n K t k h q. most-cond (among (own f)) (has n e) _ _ _
            (λ b. u B n (ask g K) t k b (λ o. asked g K t k (λ x m. away-right e g a.0 j x (own-letters g x m)) (q (among-left (own e) (own g) n o))))
            (λ b. most-weak (among (own f)) _ k _ (omega arith) (other B n g K t k (rest_has (letters e) (letters g) n h b) (away-right e g a.0 j) (λ o. q (among-right (own e) (own g) n o)))),
      ))
      (λ j. let (ls, w, u) = starts g a.2 z.1 j in (
        ls,
        line-up g (seq e g) ls (λ n. among-right (own e) (own g) n) (λ y. ∈-right (threads e)) w,
        λ B n K t k h q. most-cond (among (own f)) (has n e) _ _ _
            (λ b. most-weak (among (own f)) _ k _ (omega arith) (other B n e (ask g K) t k b (away-left e g a.0 j)
            (λ o. asked g K t k (own-away g a.2 j) (q (among-left (own e) (own g) n o)))))
            (λ b. u B n K t k (rest_has (letters e) (letters g) n h b) (λ o. q (among-right (own e) (own g) n o))),
      ))
      (append-∈ (threads e) i)
  starts (alt e g) a z i = ⊎_elim
      (λ j. let (ls, w, u) = starts e a.1 z.0 j in (
        ls,
        line-up e (alt e g) ls (λ n. among-left (own e) (own g) n) (λ y. ∈-left (threads g)) w,
        λ B n K t k h q. most-cond (among (own f)) (has n e) _ _ _
            (λ b. u B n K t k b (λ o. q (among-left (own e) (own g) n o)))
            (λ b. most-weak (among (own f)) _ k _ (omega arith) (other B n g K t k (rest_has (letters e) (letters g) n h b) (away-right e g a.0 j) (λ o. q (among-right (own e) (own g) n o)))),
      ))
      (λ j. let (ls, w, u) = starts g a.2 z.1 j in (
        ls,
        line-up g (alt e g) ls (λ n. among-right (own e) (own g) n) (λ y. ∈-right (threads e)) w,
        λ B n K t k h q. most-cond (among (own f)) (has n e) _ _ _
            (λ b. most-weak (among (own f)) _ k _ (omega arith) (other B n e K t k b (away-left e g a.0 j) (λ o. q (among-left (own e) (own g) n o))))
            (λ b. u B n K t k (rest_has (letters e) (letters g) n h b) (λ o. q (among-right (own e) (own g) n o))),
      ))
      (append-∈ (threads e) i)
  starts (star e) a z i = let (ls, w, u) = starts e a z i in
      (ls, line-up e (star e) ls (λ n o. o) (λ y m. m) w, λ B n K t k h q. u B n (ask (star e) K) t k h (λ o. asked (star e) K t k (own-away e a i) (q o)))
  starts (pipe e g) a z i = ⊎_elim
      (λ p. subst (λ y. Numbered (pipe e y) → Closed (pipe e y) → Starts (pipe e y)) p (at-pipe e) a z)
      (λ m. ⊎_elim
      (λ j. let (ls, w, u) = starts e a.1 z.1 j in (
        ls,
        line-up e (pipe e g) ls (λ n o. o) (λ y l. there (∈-left (threads g) l)) w,
        λ B n K t k h q. most-cond (among (own f)) (has n e) _ _ _
            (λ b. u B n (λ v. joined (K v) (begin B g v)) t k b (λ o. behind B g K t k (λ x l. away-right e g a.0 j x (own-letters g x l)) (q o)))
            (λ b. most-weak (among (own f)) _ 0 _ (omega arith) (other B n g over t 0 (rest_has (letters e) (letters g) n h b) (away-right e g a.0 j) (λ o. most-over (among (own f)) 0))),
      ))
      (λ j. let (ls, w, u) = starts g a.2 z.2 j in (
        ls,
        inr (in-thread e g ls w),
        λ B n K t k h q. most-cond (among (own f)) (has n e) _ _ _
            (λ b. most-weak (among (own f)) _ k _ (omega arith) (other B n e (λ v. joined (K v) (begin B g v)) t k b (away-left e g a.0 j) (λ o. behind B g K t k (own-away g a.2 j) (q o))))
            (λ b. most-weak (among (own f)) _ _ _ (omega arith) (u B n over t 0 (rest_has (letters e) (letters g) n h b) (λ o. most-over (among (own f)) 0))),
      ))
      (append-∈ (threads e) m))
      (cons-∈ i)

-- ---- a letter that is under way meets another of its thread ----

under-has : (e f : Exp) → f ∈ threads e → (n : ℕ) → T (under_way n f) → T (has n e)
under-has e f i n u = let (l, j, p) = thread-has e f i n (and_T (among (own f) n) (not (last n f)) u).0 in among-at (letters e) n l j p

under-out : (e g f : Exp) → Apart e g → f ∈ threads g → (n : ℕ) → T (under_way n f) → T (has n e) → ⊥
under-out e g f a i n u h = apart-has e g n a (among-to (letters e) n h) (thread-has g f i n (and_T (among (own f) n) (not (last n f)) u).0)

pub goes_on_lem : (e f : Exp) → Solid e → Numbered e → f ∈ threads e → (B : Exp → Bool) (n : ℕ) (K : Way) (t : Tick) → T (under_way n f) → AtLeast (among (own f)) (leave B n e K t) 1
unfolding leave threads
goes_on_lem (letter l) f s a i B n K t u = absurd (no-∈ i)
goes_on_lem (seq e g) f s a i B n K t u = ⊎_elim
    (λ j. rw (is_true (has n e) (under-has e f j n u)) (goes_on_lem e f s.0 a.1 j B n (ask g K) t u))
    (λ j. rw (is_false (has n e) (under-out e g f a.0 j n u)) (goes_on_lem g f s.1 a.2 j B n K t u))
    (append-∈ (threads e) i)
goes_on_lem (alt e g) f s a i B n K t u = ⊎_elim
    (λ j. rw (is_true (has n e) (under-has e f j n u)) (goes_on_lem e f s.0 a.1 j B n K t u))
    (λ j. rw (is_false (has n e) (under-out e g f a.0 j n u)) (goes_on_lem g f s.1 a.2 j B n K t u))
    (append-∈ (threads e) i)
goes_on_lem (star e) f s a i B n K t u = goes_on_lem e f s.1 a i B n (ask (star e) K) t u
goes_on_lem (pipe e g) f s a i B n K t u = ⊎_elim
    (λ p. let v : T (under_way n g) = subst (λ y. T (under_way n y)) p u in
    let (o, z) = and_T (among (own g) n) (not (last n g)) v in
    rw (is_false (has n e) (λ h. apart-has e g n a.0 (among-to (letters e) n h) (among-to (letters g) n (own-has g n o))))
    (subst (λ y. AtLeast (among (own y)) (leave B n g over t) 1) (sym p)
    (least_on (among (own g)) B n g over t s.3 a.2 o z (λ x j. among-from (own g) x j))))
    (λ m. ⊎_elim
    (λ j. rw (is_true (has n e) (under-has e f j n u)) (goes_on_lem e f s.2 a.1 j B n (λ v. joined (K v) (begin B g v)) t u))
    (λ j. rw (is_false (has n e) (under-out e g f a.0 j n u)) (goes_on_lem g f s.3 a.2 j B n over t u))
    (append-∈ (threads e) m))
    (cons-∈ i)

-- ---- two machines that shut other threads ----

keeps-cond : (b : Bool) {o q o' q' : Option (List ℕ)} {ks : List ℕ} → (T b → o ≡ some ks → o' ≡ some ks) → (T (not b) → q ≡ some ks → q' ≡ some ks)
    → cond b o q ≡ some ks → cond b o' q' ≡ some ks
keeps-cond true g h p = g tt p
keeps-cond false g h p = h tt p

-- A lets in what it does, and qs are letters of which none is of a thread that B shuts
module _ (A B : Exp → Bool) (t : Tick) (qs : List ℕ) where
  -- where K goes on within qs, L goes on as it does
  abbrev Keeps : Way → Way → Type 0
  Keeps K L = (ks : List ℕ) → Within ks qs → K t ≡ some ks → L t ≡ some ks

  abbrev Lets : ℕ → Exp → Type 0
  Lets n e = (f : Exp) → f ∈ threads e → T (not (has n f)) → T (B f) → (k : ℕ) → k ∈ qs → T (among (own f) k) → ⊥

  keeps-ask : (e : Exp) (K L : Way) → Keeps K L → Keeps (ask e K) (ask e L)
  keeps-ask e K L h ks w p = by (enter e t) p
    where
      by : (a : Entered) → goes_by a (K t) ≡ some ks → goes_by a (L t) ≡ some ks
      by (met n) q = q
      by passed q = h ks w q
      by blocked q = q

  keeps-begin : (f : Exp) → Solid f → T (not (nullable f)) → (T (B f) → (k : ℕ) → k ∈ qs → T (among (own f) k) → ⊥) → Keeps (begin A f) (begin B f)
  keeps-begin f s z h ks w p = by (A f) (B f) h p
    where
      -- B shuts f, and it was started
      met-one : (a : Entered) → enter f t ≡ a → MetIn (λ k. T (among (own f) k)) a → ((k : ℕ) → k ∈ qs → T (among (own f) k) → ⊥) → goes_by a (some []) ≡ some ks → ⊥
      met-one (met k) e o u q = u k (w k (subst (λ l. k ∈ l) (some-injective (k ∷ []) ks q) (here refl))) o
      met-one passed e o u q = T_not (nullable f) z (passed-nullable f s t e)
      met-one blocked e o u q = none-ne-some ks q

      by : (a b : Bool) → (T b → (k : ℕ) → k ∈ qs → T (among (own f) k) → ⊥) → cond a none (ask f over t) ≡ some ks → cond b none (ask f over t) ≡ some ks
      by true b u q = absurd (none-ne-some ks q)
      by false true u q = absurd (met-one (enter f t) refl (enter-own (λ k. T (among (own f) k)) f t (λ l i. among-from (own f) l i)) (u tt) q)
      by false false u q = q

  keeps-joined : (K L M N : Way) → Keeps K L → Keeps M N → Keeps (λ u. joined (K u) (M u)) (λ u. joined (L u) (N u))
  keeps-joined K L M N g h ks w p =
      let (cs, bs, a, b, e) = joined-some (K t) (M t) ks p in
      ap₂ joined (g cs (λ k i. w k (subst (λ l. k ∈ l) e (∈-left bs i))) a) (h bs (λ k i. w k (subst (λ l. k ∈ l) e (∈-right cs i))) b) ∙ ap some e

  keeps-leave : (n : ℕ) (e : Exp) (K L : Way) → Solid e → Numbered e → T (has n e) → Lets n e → Keeps K L → Keeps (leave A n e K) (leave B n e L)
  unfolding leave letters threads
  keeps-leave n (letter l) K L s a h d g ks w p = g ks w p
  keeps-leave n (seq e f) K L s a h d g ks w p = keeps-cond (has n e)
      (λ b. keeps-leave n e (ask f K) (ask f L) s.0 a.1 b (λ y i. d y (∈-left (threads f) i)) (keeps-ask f K L g) ks w)
      (λ b. keeps-leave n f K L s.1 a.2 (rest_has (letters e) (letters f) n h b) (λ y i. d y (∈-right (threads e) i)) g ks w) p
  keeps-leave n (alt e f) K L s a h d g ks w p = keeps-cond (has n e)
      (λ b. keeps-leave n e K L s.0 a.1 b (λ y i. d y (∈-left (threads f) i)) g ks w)
      (λ b. keeps-leave n f K L s.1 a.2 (rest_has (letters e) (letters f) n h b) (λ y i. d y (∈-right (threads e) i)) g ks w) p
  keeps-leave n (star e) K L s a h d g ks w p = keeps-leave n e (ask (star e) K) (ask (star e) L) s.1 a h d (keeps-ask (star e) K L g) ks w p
  keeps-leave n (pipe e f) K L s a h d g ks w p = keeps-cond (has n e)
      (λ b. keeps-leave n e _ _ s.2 a.1 b (λ y i. d y (there (∈-left (threads f) i)))
      (keeps-joined K L (begin A f) (begin B f) g (keeps-begin f s.3 s.1
      (d f (here refl) (not_T (has n f) (λ y. apart-has e f n a.0 (among-to (letters e) n b) (among-to (letters f) n y)))))) ks w)
      (λ b. keeps-leave n f over over s.3 a.2 (rest_has (letters e) (letters f) n h b) (λ y i. d y (there (∈-right (threads e) i))) (λ js v q. q) ks w) p

-- ---- all positions of a monitor ----

module _ (W : ℕ → Way) (t : Tick) (c : ℕ → Bool) where
  most-all : (w : ℕ → ℕ) (ns os : List ℕ) → go_all W ns t ≡ some os → ((n : ℕ) → n ∈ ns → AtMost c (W n t) (w n)) → count c os ≤ total w ns
  unfolding go_all
  most-all w [] os p h = most-some c [] 0 (omega arith) os p
  most-all w (n ∷ ns) os p h =
      let (cs, bs, a, b, e) = joined-some (W n t) (go_all W ns t) os p in
      let x = h n (here refl) cs a in
      let y = most-all w ns bs b (λ k i. h k (there i)) in
      let z = count-append c cs bs in
      subst (λ l. count c l ≤ w n + total w ns) e (omega (arith, x, y, z))

  least-one : (ns os : List ℕ) → go_all W ns t ≡ some os → (n : ℕ) → n ∈ ns → AtLeast c (W n t) 1 → 1 ≤ count c os
  unfolding go_all
  least-one [] os p n i g = absurd (no-∈ i)
  least-one (m ∷ ns) os p n i g =
      let (cs, bs, a, b, e) = joined-some (W m t) (go_all W ns t) os p in
      let z = count-append c cs bs in
      subst (λ l. 1 ≤ count c l) e (⊎_elim
      (λ q. let x = subst (λ y. AtLeast c (W y t) 1) q g cs a in omega (arith, x, z))
      (λ j. let x = least-one ns bs b n j g in omega (arith, x, z)) (cons-∈ i))

  least-two : (ns os : List ℕ) → go_all W ns t ≡ some os → (n k : ℕ) → (n ≡ k → ⊥) → n ∈ ns → k ∈ ns → AtLeast c (W n t) 1 → AtLeast c (W k t) 1 → 2 ≤ count c os
  unfolding go_all
  least-two [] os p n k d i j g h = absurd (no-∈ i)
  least-two (m ∷ ns) os p n k d i j g h =
      let (cs, bs, a, b, e) = joined-some (W m t) (go_all W ns t) os p in
      let z = count-append c cs bs in
      subst (λ l. 2 ≤ count c l) e (⊎_elim
      (λ q. ⊎_elim
      (λ r. absurd (d (q ∙ sym r)))
      (λ j'. let x = subst (λ y. AtLeast c (W y t) 1) q g cs a in let y = least-one ns bs b k j' h in omega (arith, x, y, z))
      (cons-∈ j))
      (λ i'. ⊎_elim
      (λ r. let x = subst (λ y. AtLeast c (W y t) 1) r h cs a in let y = least-one ns bs b n i' g in omega (arith, x, y, z))
      (λ j'. let x = least-two ns bs b n k d i' j' g h in omega (arith, x, z))
      (cons-∈ j))
      (cons-∈ i))

-- One letter a thread at most, and one of the monitor's own.
pub record Single (m : Exp) (ns : List ℕ) : Type 0 where
  pub line : required m ns ≤ 1
  pub each : (f : Exp) → f ∈ threads m → required f ns ≤ 1

-- where no thread has two letters none is occupied
pub not-occupied : (m : Exp) (ns : List ℕ) → ((f : Exp) → f ∈ threads m → required f ns ≤ 1) → T (not (occupied m ns))
unfolding occupied
not-occupied m ns h = not_T (occupied m ns) (λ w.
    let (f, i, u) = any-to (λ f. leb 2 (required f ns)) (threads m) w in
    let x = h f i in
    let y = leb→le 2 (required f ns) u in
    omega (arith, x, y))

pub counted-one : (c : ℕ → Bool) (k : ℕ) (ks : List ℕ) → k ∈ ks → T (c k) → 1 ≤ count c ks
counted-one c k [] i h = absurd (no-∈ i)
counted-one c k (n ∷ ks) i h = ⊎_elim
    (λ p. let x = counts-one (c n) (subst (λ y. T (c y)) p h) in omega (arith, x))
    (λ j. let x = counted-one c k ks j h in omega (arith, x))
    (cons-∈ i)

all_keep : (W X : ℕ → Way) (t : Tick) (ns os : List ℕ) → ((n : ℕ) → n ∈ ns → (ks : List ℕ) → W n t ≡ some ks → X n t ≡ some ks) → go_all W ns t ≡ some os → go_all X ns t ≡ some os
unfolding go_all
all_keep W X t [] os h p = p
all_keep W X t (n ∷ ns) os h p =
    let (cs, bs, a, b, e) = joined-some (W n t) (go_all W ns t) os p in
    ap₂ joined (h n (here refl) cs a) (all_keep W X t ns bs (λ k i. h k (there i)) b) ∙ ap some e

-- what a position is charged for, where f is busy, and where it is not
charge-busy : (a b d : Bool) → 0 + (cond (a && not b) 1 0 + cond (d && not true) 1 0) ≤ cond a 1 0
charge-busy true true true = omega arith
charge-busy true true false = omega arith
charge-busy true false true = omega arith
charge-busy true false false = omega arith
charge-busy false b true = omega arith
charge-busy false b false = omega arith

charge-free : (u d e : Bool) → (T u → ⊥) → (T d → T e) → 0 + (cond u 1 0 + cond (d && not false) 1 0) ≤ cond e 1 0
charge-free true d e h g = absurd (h tt)
charge-free false true true h g = omega arith
charge-free false true false h g = absurd (g tt)
charge-free false false e h g = omega arith

module _ (m : Exp) (ac : Accepted m) (ns : List ℕ) (known : (k : ℕ) → k ∈ ns → T (has k m)) (one : Single m ns) (t : Tick) where
  abbrev Go : (Exp → Bool) → ℕ → Way
  Go B n = leave B n (star m) stuck

  -- no thread has two letters where busy ones are shut
  few : (f : Exp) → f ∈ threads m → (os : List ℕ) → go_all (Go (busy ns)) ns t ≡ some os → required f os ≤ 1
  unfolding threads own letters
  few f i os p =
      let (ls, w, u) = starts f (star m) ac.numbered ac.closed i in
      let most : (n : ℕ) → n ∈ ns → AtMost (among (own f)) (Go (busy ns) n t) (0 + charge f ls (busy ns) n) = λ n j. u (busy ns) n stuck t 0 (known n j) (λ o. most-none (among (own f)) 0) in
      by ls w most (busy ns f) refl
    where
      line : (e : Exp) → required e ns ≤ 1 → (ls : List Letter) → Sub ls (own e) → busy ns f ≡ false
          → ((n : ℕ) → n ∈ ns → AtMost (among (own f)) (Go (busy ns) n t) (0 + charge f ls (busy ns) n)) → required f os ≤ 1
      line e h ls s q most =
          let x = most-all (Go (busy ns)) t (among (own f)) (λ n. cond (among (own e) n) 1 0) ns os p (λ n j.
          most-weak (among (own f)) _ _ _ (rw q (charge-free (under_way n f) (among ls n) (among (own e) n)
          (λ v. rw q at (any-from (λ k. under_way k f) j v)) (s n))) (most n j)) in
          omega (arith, x, h)

      by : (ls : List Letter) → LineOf (star m) ls → ((n : ℕ) → n ∈ ns → AtMost (among (own f)) (Go (busy ns) n t) (0 + charge f ls (busy ns) n))
          → (b : Bool) → busy ns f ≡ b → required f os ≤ 1
      by ls w most true q =
          let x = most-all (Go (busy ns)) t (among (own f)) (λ n. cond (among (own f) n) 1 0) ns os p (λ n j.
          most-weak (among (own f)) _ _ _ (rw q (charge-busy (among (own f) n) (last n f) (among ls n))) (most n j)) in
          let y = one.each f i in
          omega (arith, x, y)
      by ls (inl s) most false q = line m one.line ls s q most
      by ls (inr (g, j, s)) most false q = line g (one.each g j) ls s q most

  -- nor has the monitor itself
  one_line : (os : List ℕ) → go_all (Go (busy ns)) ns t ≡ some os → required m os ≤ 1
  unfolding own letters
  one_line os p =
      let x = most-all (Go (busy ns)) t (among (own m)) (λ n. cond (among (own m) n) 1 0) ns os p (λ n j.
      most-leave (among (own m)) (busy ns) n (star m) stuck t 1 (known n j) (quiet-own (among (own m)) m ac.numbered (λ y k w. w)) (λ y k w. omega arith)
      (λ o. most-none (among (own m)) 1)) in
      let y = one.line in
      omega (arith, x, y)

  -- where it goes on, the other machine goes on alike
  lets-all : (os : List ℕ) → go_all (Go (busy ns)) ns t ≡ some os → go_all (Go idle) ns t ≡ some os
  unfolding letters
  lets-all os = all_keep (Go (busy ns)) (Go idle) t ns os (λ n i ks.
      keeps-leave (busy ns) idle t ks n (star m) stuck stuck ac.solid ac.numbered (known n i) (λ f j u w. absurd w) (λ js v q. q) ks (λ k j. j))

  -- and where the other one goes on with letters that are admitted, this one does
  shuts-none : (os : List ℕ) → T (admits m os) → go_all (Go idle) ns t ≡ some os → go_all (Go (busy ns)) ns t ≡ some os
  unfolding letters threads occupied
  shuts-none os ok p = all_keep (Go idle) (Go (busy ns)) t ns os (λ n i ks q.
      keeps-leave idle (busy ns) t ks n (star m) stuck stuck ac.solid ac.numbered (known n i)
      (λ f j u w k l o.
      let (b, c, v) = any-to (λ b. under_way b f) ns w in
      let two = least-two (Go idle) t (among (own f)) ns os p n b
      (λ z. T_not (has n f) u (subst (λ y. T (has y f)) (sym z) (own-has f b (and_T (among (own f) b) (not (last b f)) v).0))) i c
      (λ js r. subst (λ y. 1 ≤ count (among (own f)) y) (some-injective ks js (sym q ∙ r)) (counted-one (among (own f)) k ks l o))
      (goes_on_lem (star m) f ac.solid ac.numbered j idle b stuck t v) in
      T_not (occupied m os) ok (any-from (λ g. leb 2 (required g os)) j (le→leb 2 (required f os) two)))
      (λ js v r. r) ks (λ k j. j) q) p

  admitted : (os : List ℕ) → go_all (Go (busy ns)) ns t ≡ some os → T (admits m os)
  admitted os p = not-occupied m os (λ f i. few f i os p)

  -- The machine that keeps busy threads shut goes as the one that counts.
  go-counted : go m (on ns) t ≡ go_counted m (on ns) t
  unfolding go go_idle
  go-counted = by (go_all (Go (busy ns)) ns t) refl (go_all (Go idle) ns t) refl
    where
      by : (o : Option (List ℕ)) → go_all (Go (busy ns)) ns t ≡ o → (q : Option (List ℕ)) → go_all (Go idle) ns t ≡ q → o ≡ passing (admits m) q
      by (some os) p q e = sym (passing-yes (admits m) q os (sym e ∙ lets-all os p) (admitted os p))
      by none p none e = refl
      by none p (some os) e = other_way (admits m os) refl
        where
          other_way : (b : Bool) → admits m os ≡ b → none ≡ cond b (some os) none
          other_way true r = absurd (none-ne-some os (sym p ∙ shuts-none os (rw r tt) e))
          other_way false r = refl

  -- and leaves each thread one letter at most
  stays-single : (os : List ℕ) → go m (on ns) t ≡ some os → Single m os
  unfolding go
  stays-single os p = record { line = one_line os p; each = λ f i. few f i os p }

-- ---- from the start on ----

-- the letters are the monitor's, one a thread at most
abbrev pub Steady : Exp → Positions → Type 0
Steady m at_start = Unit {0}
Steady m (on ns) = ((k : ℕ) → k ∈ ns → Has k m) × Single m ns

one_only : (c : ℕ → Bool) (n : ℕ) → count c (n ∷ []) ≤ 1
one_only c n = one-counted (c n) 1 (λ u. omega arith)

pub one_single : (m : Exp) (n : ℕ) → Single m (n ∷ [])
one_single m n = record { line = one_only (among (own m)) n; each = λ f i. one_only (among (own f)) n }

module _ (m : Exp) (ac : Accepted m) where
  begins : (t : Tick) (a : Entered) → (passing (admits m) (goes_by a none) ≡ goes_by a none) × ((os : List ℕ) → goes_by a none ≡ some os → Single m os)
  begins t (met n) =
      (ap (λ b. cond b (some (n ∷ [])) none) (is_true (admits m (n ∷ [])) (not-occupied m (n ∷ []) (one_single m n).each)), λ os p. subst (Single m) (some-injective (n ∷ []) os p) (one_single m n))
  begins t passed = (refl, λ os p. absurd (none-ne-some os p))
  begins t blocked = (refl, λ os p. absurd (none-ne-some os p))

  pub goes-counted : (x : Positions) → Steady m x → (t : Tick) → go m x t ≡ go_counted m x t
  unfolding go go_idle
  goes-counted at_start h t = sym (begins t (enter (star m) t)).0
  goes-counted (on ns) h t = go-counted m ac ns (λ k i. let (l, j, p) = h.0 k i in among-at (letters m) k l j p) h.1 t

  pub stays-steady : (x : Positions) → Steady m x → (t : Tick) (os : List ℕ) → go m x t ≡ some os → Steady m (on os)
  unfolding go
  stays-steady at_start h t os p = (go-inside m at_start t os p, (begins t (enter (star m) t)).1 os p)
  stays-steady (on ns) h t os p = (go-inside m (on ns) t os p, stays-single m ac ns (λ k i. let (l, j, q) = h.0 k i in among-at (letters m) k l j q) h.1 t os p)

  pub steady-after : (ts : List Tick) (x y : Positions) → Steady m x → positions_after (go_counted m) x ts ≡ some y → Steady m y
  unfolding positions_after
  steady-after [] x y h p = subst (Steady m) (some-injective x y p) h
  steady-after (t ∷ ts) x y h p =
      let (ns, a, b) = then_some (go_counted m x t) (λ ns. positions_after (go_counted m) (on ns) ts) y p in
      steady-after ts (on ns) y (stays-steady x h t ns (goes-counted x h t ∙ a)) b

-- The touches of a tick are the sums of proofs/Counting: where at most one letter of a monitor's own and one of each thread was met, the tally row by row is what one number a row adds up to.
use mathlib.Core.List.{List, [], ◌∷◌, ◌++◌}
use mathlib.Core.Bool.{Bool, true, false, not, cond, ◌&&◌, ◌||◌}
use mathlib.Core.Path.{◌≡◌, refl, sym, ap, ap₂, ◌∙◌, subst}
use mathlib.Core.Logic.{◌⊎◌, inl, inr, ⊎_elim}
use Prim.Native.Nat.{ℕ, ◌+◌, ◌≤◌}
use native.Mathlib.Omega.{arith}
use lib.Dec.{T, T_not, eqb, eqb→eq, eqb_refl}
use Rattle.meaning.specs.Lists.{◌∈◌, any, count, member}
use Rattle.meaning.specs.Expression.{Letter, Exp, letter, seq, alt, star, pipe, letters, own}
use Rattle.meaning.specs.Shape.{nullable, last, threads}
use Rattle.meaning.specs.Fit.{among, required}
use Rattle.meaning.proofs.ListLaws.{here, there, cons-∈, no-∈, ∈-left, ∈-right, T_and, and_T, or-T, T-or-left, T-or-right, same_truth, by-test, is_false, any-from, any-to, member-∈}
use Rattle.meaning.proofs.Step.{Solid}
use Rattle.meaning.proofs.OneWay.{Apart, Numbered, last_has}
use Rattle.meaning.proofs.Threads.{among-from, own-letters}
use Rattle.meaning.proofs.Occupied.{Single, counts-one, counted-one}
use Rattle.meaning.proofs.Counting.{one, ends, tally, tally_after, asked_count, Place, fresh, left_of_seq, right_of_seq, side_of_alt, body_of_star, left_of_pipe, thread_place, own_place, starts, sums, sums_after}

-- ---- last letters ----

-- a last letter stands in no thread
last-own : (n : ℕ) (e : Exp) → T (last n e) → (l : Letter) × (l ∈ own e) × (l.number ≡ n)
unfolding last own
last-own n (letter l) t = (l, here refl, sym (eqb→eq n l.number t))
last-own n (seq e f) t = ⊎_elim
    (λ j. let (l, i, p) = last-own n f j in (l, ∈-right (own e) i, p))
    (λ j. let (l, i, p) = last-own n e (and_T (nullable f) (last n e) j).1 in (l, ∈-left (own f) i, p))
    (or-T (last n f) (nullable f && last n e) t)
last-own n (alt e f) t = ⊎_elim
    (λ j. let (l, i, p) = last-own n e j in (l, ∈-left (own f) i, p))
    (λ j. let (l, i, p) = last-own n f j in (l, ∈-right (own e) i, p))
    (or-T (last n e) (last n f) t)
last-own n (star e) t = last-own n e t
last-own n (pipe e f) t = last-own n e t

-- ---- the sums by one number ----

-- `sums` for one flag: x counts what is touched behind `left e`, b tells whether e's thread is asked and that asks e
unfoldable pub flow : (act : ℕ → Bool) → Exp → (x : ℕ) → (b : Bool) → ℕ
flow act (letter l) x b = cond (act l.number) (1 + x) 0
flow act (seq e f) x b = flow act e (cond (b && nullable e) 0 (asked_count f) + cond (nullable f) (fresh b (nullable e && nullable f) + x) 0) b
    + flow act f (fresh b (nullable e && nullable f) + x) (b && nullable e)
flow act (alt e f) x b = flow act e (fresh b (nullable e || nullable f) + x) b + flow act f (fresh b (nullable e || nullable f) + x) b
flow act (star e) x b = flow act e (cond b 0 (asked_count e) + (fresh b true + x)) b
flow act (pipe e f) x b = flow act e (1 + x) b + (cond (starts act e) (asked_count f) 0 + flow act f 0 (starts act e))

-- leaving a part that is not nullable is a touch that starting has not
always-fresh : (b : Bool) → fresh b false ≡ 1
always-fresh true = refl
always-fresh false = refl

-- ---- arithmetic of one operator ----

-- the right operand has no letter met
seq-left : (b ne nf s : Bool) (te tf ae af fe ff x : ℕ) → te + cond s (cond (b && ne) 0 af + cond nf (fresh b (ne && nf) + x) 0) 0 ≡ cond b ae 0 + fe → tf ≡ cond ((b && ne) || s) af 0 + ff
    → one b + one ((b && (ne && nf)) || (nf && s)) + te + tf + cond (nf && s) x 0 ≡ cond b (1 + one (ne && nf) + ae + cond ne af 0) 0 + (fe + ff)
seq-left true true true true te tf ae af fe ff x h k = omega (arith, h, k)
seq-left true true true false te tf ae af fe ff x h k = omega (arith, h, k)
seq-left true true false true te tf ae af fe ff x h k = omega (arith, h, k)
seq-left true true false false te tf ae af fe ff x h k = omega (arith, h, k)
seq-left true false true true te tf ae af fe ff x h k = omega (arith, h, k)
seq-left true false true false te tf ae af fe ff x h k = omega (arith, h, k)
seq-left true false false true te tf ae af fe ff x h k = omega (arith, h, k)
seq-left true false false false te tf ae af fe ff x h k = omega (arith, h, k)
seq-left false ne true true te tf ae af fe ff x h k = omega (arith, h, k)
seq-left false ne true false te tf ae af fe ff x h k = omega (arith, h, k)
seq-left false ne false true te tf ae af fe ff x h k = omega (arith, h, k)
seq-left false ne false false te tf ae af fe ff x h k = omega (arith, h, k)

-- the left operand has no letter met
seq-right : (b ne nf s : Bool) (te tf ae af fe ff x : ℕ) → te ≡ cond b ae 0 + fe → tf + cond s (fresh b (ne && nf) + x) 0 ≡ cond (b && ne) af 0 + ff
    → one b + one ((b && (ne && nf)) || s) + te + tf + cond s x 0 ≡ cond b (1 + one (ne && nf) + ae + cond ne af 0) 0 + (fe + ff)
seq-right true true true true te tf ae af fe ff x h k = omega (arith, h, k)
seq-right true true true false te tf ae af fe ff x h k = omega (arith, h, k)
seq-right true true false true te tf ae af fe ff x h k = omega (arith, h, k)
seq-right true true false false te tf ae af fe ff x h k = omega (arith, h, k)
seq-right true false nf true te tf ae af fe ff x h k = omega (arith, h, k)
seq-right true false nf false te tf ae af fe ff x h k = omega (arith, h, k)
seq-right false ne nf true te tf ae af fe ff x h k = omega (arith, h, k)
seq-right false ne nf false te tf ae af fe ff x h k = omega (arith, h, k)

-- the right side has no letter met; n: one of the two is nullable
alt-left : (b n s : Bool) (te tf ae af fe ff x : ℕ) → te + cond s (fresh b n + x) 0 ≡ cond b ae 0 + fe → tf ≡ cond b af 0 + ff
    → one b + one ((b && n) || s) + te + tf + cond s x 0 ≡ cond b (1 + one n + ae + af) 0 + (fe + ff)
alt-left true true true te tf ae af fe ff x h k = omega (arith, h, k)
alt-left true true false te tf ae af fe ff x h k = omega (arith, h, k)
alt-left true false true te tf ae af fe ff x h k = omega (arith, h, k)
alt-left true false false te tf ae af fe ff x h k = omega (arith, h, k)
alt-left false n true te tf ae af fe ff x h k = omega (arith, h, k)
alt-left false n false te tf ae af fe ff x h k = omega (arith, h, k)

-- the left side has none
alt-right : (b n s : Bool) (te tf ae af fe ff x : ℕ) → te ≡ cond b ae 0 + fe → tf + cond s (fresh b n + x) 0 ≡ cond b af 0 + ff
    → one b + one ((b && n) || s) + te + tf + cond s x 0 ≡ cond b (1 + one n + ae + af) 0 + (fe + ff)
alt-right true n s te tf ae af fe ff x h k = let z = alt-left true n s tf te af ae ff fe x k h in omega (arith, z)
alt-right false n s te tf ae af fe ff x h k = let z = alt-left false n s tf te af ae ff fe x k h in omega (arith, z)

-- the body is asked with the star and behind its last letters
star-round : (b s : Bool) (t : Bool → ℕ) (w : ℕ → Bool → ℕ) (ae x : ℕ) → ((y : ℕ) (a : Bool) → t a + cond s y 0 ≡ cond a ae 0 + w y a) → (T s → (y : ℕ) → w y true ≡ w y false)
    → one b + one ((b && true) || s) + t (b || s) + cond s x 0 ≡ cond b (2 + ae) 0 + w (cond b 0 ae + (fresh b true + x)) b
star-round true true t w ae x h g = let z = h (0 + (0 + x)) true in omega (arith, z)
star-round true false t w ae x h g = let z = h (0 + (0 + x)) true in omega (arith, z)
star-round false true t w ae x h g = let z = h (ae + (1 + x)) true in let y = g tt (ae + (1 + x)) in omega (arith, z, y)
star-round false false t w ae x h g = let z = h (ae + (1 + x)) false in omega (arith, z)

-- an `@`
pipe-both : (b s : Bool) (te tf ae af fe ff x : ℕ) → te + cond s (1 + x) 0 ≡ cond b ae 0 + fe → tf ≡ cond s af 0 + ff
    → one b + one s + te + tf + cond s x 0 ≡ cond b (1 + ae) 0 + (fe + (cond s af 0 + ff))
pipe-both true true te tf ae af fe ff x h k = omega (arith, h, k)
pipe-both true false te tf ae af fe ff x h k = omega (arith, h, k)
pipe-both false true te tf ae af fe ff x h k = omega (arith, h, k)
pipe-both false false te tf ae af fe ff x h k = omega (arith, h, k)

-- tests
and-false : (a b : Bool) → ((a && false) || b) ≡ b
and-false true b = refl
and-false false b = refl

or-false : (a : Bool) → (a || false) ≡ a
or-false true = refl
or-false false = refl

zero-cond : (b : Bool) → ◌≡◌ {A = ℕ} (cond b 0 0) 0
zero-cond true = refl
zero-cond false = refl

or-and-false : (a b : Bool) → (a || (b && false)) ≡ a
or-and-false true b = refl
or-and-false false true = refl
or-and-false false false = refl

seq-test : (a n m s u : Bool) → ((((a && n) || s) && m) || u) ≡ ((a && (n && m)) || (u || (m && s)))
seq-test true true true s true = refl
seq-test true true true s false = refl
seq-test true true false s u = sym (or-false u)
seq-test true false true true true = refl
seq-test true false true true false = refl
seq-test true false true false true = refl
seq-test true false true false false = refl
seq-test true false false true u = sym (or-false u)
seq-test true false false false u = sym (or-false u)
seq-test false n true true true = refl
seq-test false n true true false = refl
seq-test false n true false u = sym (or-false u)
seq-test false n false true u = sym (or-false u)
seq-test false n false false u = sym (or-false u)

alt-test : (a n m s u : Bool) → (((a && n) || s) || ((a && m) || u)) ≡ ((a && (n || m)) || (s || u))
alt-test true true m s u = refl
alt-test true false true true u = refl
alt-test true false true false u = refl
alt-test true false false s u = refl
alt-test false n m s u = refl

module _ (act : ℕ → Bool) where
  -- no own letter of e was met
  abbrev pub Still : Exp → Type 0
  Still e = (x : Letter) → x ∈ own e → T (act x.number) → ⊥

  -- at most one was
  abbrev Alone : Exp → Type 0
  Alone e = (x y : Letter) → x ∈ own e → y ∈ own e → T (act x.number) → T (act y.number) → x.number ≡ y.number

  -- nor more than one of any thread inside
  abbrev pub Sole : Exp → Type 0
  Sole e = Alone e × ((f : Exp) → f ∈ threads e → Alone f)

  -- of two operands one has no letter met
  pub one-still : (e f : Exp) → Apart e f
      → ((x y : Letter) → x ∈ own e ++ own f → y ∈ own e ++ own f → T (act x.number) → T (act y.number) → x.number ≡ y.number) → Still e ⊎ Still f
  one-still e f a h = by-test (any (λ x. act x.number) (own e))
      (λ t. let (x, i, u) = any-to (λ x. act x.number) (own e) t in
      inr (λ y j v. a x y (own-letters e x i) (own-letters f y j) (h x y (∈-left (own f) i) (∈-right (own e) j) u v)))
      (λ t. inl (λ x i u. T_not (any (λ x. act x.number) (own e)) t (any-from (λ x. act x.number) i u)))

  -- ---- which last letters were met ----

  -- `starts` tells that some letter met is a last one, whichever letter of e it is
  starts-to : (e : Exp) → T (starts act e) → (n : ℕ) × T (act n) × T (last n e)
  starts-to e t =
      let (x, i, u) = any-to (λ x. act x.number && last x.number e) (letters e) t in
      let (a, z) = and_T (act x.number) (last x.number e) u in
      (x.number, a, z)

  starts_from : (e : Exp) (n : ℕ) → T (act n) → T (last n e) → T (starts act e)
  starts_from e n a z =
      let (l, i, p) = last_has n e z in
      any-from (λ x. act x.number && last x.number e) i
      (T_and (act l.number) (last l.number e) (subst (λ k. T (act k)) (sym p) a) (subst (λ k. T (last k e)) (sym p) z))

  -- a last letter is an own one
  pub still-starts : (e : Exp) → Still e → starts act e ≡ false
  still-starts e h = is_false (starts act e) (λ t.
      let (n, a, z) = starts-to e t in
      let (l, i, p) = last-own n e z in
      h l i (subst (λ k. T (act k)) (sym p) a))

  -- operator by operator, as `last` is
  pub starts-letter : (l : Letter) → starts act (letter l) ≡ act l.number
  unfolding last
  starts-letter l = same_truth (starts act (letter l)) (act l.number)
      (λ t. let (n, a, z) = starts-to (letter l) t in subst (λ k. T (act k)) (eqb→eq n l.number z) a)
      (λ a. starts_from (letter l) l.number a (eqb_refl l.number))

  pub starts-seq : (e f : Exp) → starts act (seq e f) ≡ (starts act f || (nullable f && starts act e))
  unfolding last
  starts-seq e f = same_truth (starts act (seq e f)) (starts act f || (nullable f && starts act e))
      (λ t. let (n, a, z) = starts-to (seq e f) t in ⊎_elim
      (λ y. T-or-left (starts act f) _ (starts_from f n a y))
      (λ y. let (h, u) = and_T (nullable f) (last n e) y in T-or-right (starts act f) _ (T_and (nullable f) (starts act e) h (starts_from e n a u)))
      (or-T (last n f) (nullable f && last n e) z))
      (λ t. ⊎_elim
      (λ y. let (n, a, z) = starts-to f y in starts_from (seq e f) n a (T-or-left (last n f) _ z))
      (λ y. let (h, u) = and_T (nullable f) (starts act e) y in let (n, a, z) = starts-to e u in
      starts_from (seq e f) n a (T-or-right (last n f) _ (T_and (nullable f) (last n e) h z)))
      (or-T (starts act f) (nullable f && starts act e) t))

  pub starts-alt : (e f : Exp) → starts act (alt e f) ≡ (starts act e || starts act f)
  unfolding last
  starts-alt e f = same_truth (starts act (alt e f)) (starts act e || starts act f)
      (λ t. let (n, a, z) = starts-to (alt e f) t in ⊎_elim
      (λ y. T-or-left (starts act e) _ (starts_from e n a y))
      (λ y. T-or-right (starts act e) _ (starts_from f n a y))
      (or-T (last n e) (last n f) z))
      (λ t. ⊎_elim
      (λ y. let (n, a, z) = starts-to e y in starts_from (alt e f) n a (T-or-left (last n e) _ z))
      (λ y. let (n, a, z) = starts-to f y in starts_from (alt e f) n a (T-or-right (last n e) _ z))
      (or-T (starts act e) (starts act f) t))

  pub starts-star : (e : Exp) → starts act (star e) ≡ starts act e
  unfolding last
  starts-star e = same_truth (starts act (star e)) (starts act e)
      (λ t. let (n, a, z) = starts-to (star e) t in starts_from e n a z)
      (λ t. let (n, a, z) = starts-to e t in starts_from (star e) n a z)

  pub starts-pipe : (e f : Exp) → starts act (pipe e f) ≡ starts act e
  unfolding last
  starts-pipe e f = same_truth (starts act (pipe e f)) (starts act e)
      (λ t. let (n, a, z) = starts-to (pipe e f) t in starts_from e n a z)
      (λ t. let (n, a, z) = starts-to e t in starts_from (pipe e f) n a z)

  -- e is left where it is asked and nullable, and behind its last letters
  ends-starts : (e : Exp) → Solid e → (a : Bool) → ends act e a ≡ ((a && nullable e) || starts act e)
  unfolding ends nullable
  ends-starts (letter l) s a = sym (and-false a (starts act (letter l)) ∙ starts-letter l)
  ends-starts (seq e f) s a = rw (starts-seq e f) (
      ends-starts f s.1 (ends act e a)
      ∙ ap (λ z. (z && nullable f) || starts act f) (ends-starts e s.0 a)
      ∙ seq-test a (nullable e) (nullable f) (starts act e) (starts act f))
  ends-starts (alt e f) s a = rw (starts-alt e f) (
      ap₂ ◌||◌ (ends-starts e s.0 a) (ends-starts f s.1 a)
      ∙ alt-test a (nullable e) (nullable f) (starts act e) (starts act f))
  ends-starts (star e) s a = rw (starts-star e) (ap (λ z. a || z) (ends-starts e s.1 a) ∙ by a (nullable e) (starts act e))
    where
      by : (a n t : Bool) → (a || ((a && n) || t)) ≡ ((a && true) || t)
      by true n t = refl
      by false n t = refl
  ends-starts (pipe e f) s a = rw (starts-pipe e f) (ends-starts e s.2 a ∙ ap (λ n. (a && n) || starts act e) (is_false (nullable e) (T_not (nullable e) s.0)))

  -- so a part that is not nullable is left behind its last letters alone
  ends-solid : (e : Exp) → Solid e → T (not (nullable e)) → (a : Bool) → ends act e a ≡ starts act e
  ends-solid e s h a = ends-starts e s a ∙ ap (λ n. (a && n) || starts act e) (is_false (nullable e) (T_not (nullable e) h)) ∙ and-false a (starts act e)

  -- ---- the sums of one level ----

  -- where no own letter was met its place does not count
  flow-still : (e : Exp) → Still e → (x y : ℕ) (a b : Bool) → flow act e x a ≡ flow act e y b
  unfolding flow own
  flow-still (letter l) h x y a b = rw (is_false (act l.number) (h l (here refl))) refl
  flow-still (seq e f) h x y a b = ap₂ ◌+◌ (flow-still e (λ z i. h z (∈-left (own f) i)) _ _ a b) (flow-still f (λ z i. h z (∈-right (own e) i)) _ _ _ _)
  flow-still (alt e f) h x y a b = ap₂ ◌+◌ (flow-still e (λ z i. h z (∈-left (own f) i)) _ _ a b) (flow-still f (λ z i. h z (∈-right (own e) i)) _ _ _ _)
  flow-still (star e) h x y a b = flow-still e h _ _ a b
  flow-still (pipe e f) h x y a b = ap (λ k. k + (cond (starts act e) (asked_count f) 0 + flow act f 0 (starts act e))) (flow-still e h _ _ a b)

  -- behind a last letter of a part that is not nullable asking it again touches nothing that is touched behind that letter
  flow-again : (e : Exp) → Solid e → Numbered e → Alone e → T (not (nullable e)) → T (starts act e) → (x : ℕ) → flow act e x true ≡ flow act e x false
  unfolding flow own nullable
  flow-again (letter l) s a o h t x = refl
  flow-again (seq e f) s a o h t x = ⊎_elim
      (λ q. ap₂ ◌+◌ (flow-still e q _ _ _ _)
      (right (nullable e) (nullable f) h (λ g. flow-again f s.1 a.2 (λ y z i j. o y z (∈-right (own e) i) (∈-right (own e) j)) g (behind q) (1 + x))))
      (λ q. let (n, u) = before q in ap₂ ◌+◌
      (left (nullable e) (nullable f) h n (λ g. flow-again e s.0 a.1 (λ y z i j. o y z (∈-left (own f) i) (∈-left (own f) j)) g u))
      (flow-still f q _ _ _ _))
      (one-still e f a.0 o)
    where
      behind : Still e → T (starts act f)
      behind q = ⊎_elim (λ y. y) (λ y. absurd (subst T (still-starts e q) (and_T (nullable f) (starts act e) y).1))
          (or-T (starts act f) (nullable f && starts act e) (subst T (starts-seq e f) t))

      before : Still f → T (nullable f) × T (starts act e)
      before q = ⊎_elim (λ y. absurd (subst T (still-starts f q) y)) (and_T (nullable f) (starts act e))
          (or-T (starts act f) (nullable f && starts act e) (subst T (starts-seq e f) t))

      right : (n m : Bool) → T (not (n && m)) → (T (not m) → flow act f (1 + x) true ≡ flow act f (1 + x) false)
          → flow act f (fresh true (n && m) + x) (true && n) ≡ flow act f (fresh false (n && m) + x) (false && n)
      right true true h g = absurd h
      right true false h g = g tt
      right false m h g = refl

      left : (n m : Bool) → T (not (n && m)) → T m → (T (not n) → (y : ℕ) → flow act e y true ≡ flow act e y false)
          → flow act e (cond (true && n) 0 (asked_count f) + cond m (fresh true (n && m) + x) 0) true ≡ flow act e (cond (false && n) 0 (asked_count f) + cond m (fresh false (n && m) + x) 0) false
      left true true h u g = absurd h
      left true false h u g = absurd u
      left false m h u g = g tt _
  flow-again (alt e f) s a o h t x = ⊎_elim
      (λ q. ap₂ ◌+◌ (flow-still e q _ _ _ _)
      (same (nullable e) (nullable f) f h (λ g k. flow-again f s.1 a.2 (λ y z i j. o y z (∈-right (own e) i) (∈-right (own e) j)) k (behind q))))
      (λ q. ap₂ ◌+◌
      (same (nullable e) (nullable f) e h (λ g k. flow-again e s.0 a.1 (λ y z i j. o y z (∈-left (own f) i) (∈-left (own f) j)) g (before q)))
      (flow-still f q _ _ _ _))
      (one-still e f a.0 o)
    where
      behind : Still e → T (starts act f)
      behind q = ⊎_elim (λ y. absurd (subst T (still-starts e q) y)) (λ y. y) (or-T (starts act e) (starts act f) (subst T (starts-alt e f) t))

      before : Still f → T (starts act e)
      before q = ⊎_elim (λ y. y) (λ y. absurd (subst T (still-starts f q) y)) (or-T (starts act e) (starts act f) (subst T (starts-alt e f) t))

      same : (n m : Bool) (g : Exp) → T (not (n || m)) → (T (not n) → T (not m) → (y : ℕ) → flow act g y true ≡ flow act g y false)
          → flow act g (fresh true (n || m) + x) true ≡ flow act g (fresh false (n || m) + x) false
      same true m g h k = absurd h
      same false true g h k = absurd h
      same false false g h k = k tt tt _
  flow-again (star e) s a o h t x = absurd h
  flow-again (pipe e f) s a o h t x = ap (λ k. k + (cond (starts act e) (asked_count f) 0 + flow act f 0 (starts act e)))
      (flow-again e s.2 a.1 o s.0 (subst T (starts-pipe e f) t) (1 + x))

  -- ---- the tally of one level, its threads included ----

  -- at most one own letter of two operands: in the one, and in the other
  pub sole-left : (e f : Exp) → Alone (seq e f) × ((g : Exp) → g ∈ threads e ++ threads f → Alone g) → Sole e
  unfolding own
  sole-left e f o = (λ y z i j. o.0 y z (∈-left (own f) i) (∈-left (own f) j), λ g i. o.1 g (∈-left (threads f) i))

  pub sole-right : (e f : Exp) → Alone (seq e f) × ((g : Exp) → g ∈ threads e ++ threads f → Alone g) → Sole f
  unfolding own
  sole-right e f o = (λ y z i j. o.0 y z (∈-right (own e) i) (∈-right (own e) j), λ g i. o.1 g (∈-right (threads e) i))

  -- What holds of a part: its tally, and x where it is left behind a letter met, is what asking it touches and the sums of its letters.
  abbrev Counts : Exp → (x : ℕ) (b : Bool) → Type 0
  Counts e x b = tally act e b + cond (starts act e) x 0 ≡ cond b (asked_count e) 0 + flow act e x b

  -- `e , f`: one operand has no letter met
  seq-counts : (e f : Exp) → Solid (seq e f) → ((x : ℕ) (b : Bool) → Counts e x b) → ((x : ℕ) (b : Bool) → Counts f x b) → Still e ⊎ Still f → (x : ℕ) (b : Bool) → Counts (seq e f) x b
  unfolding tally asked_count flow nullable
  seq-counts e f s g h (inl q) x b =
      let n = still-starts e q in
      let x' = cond (b && nullable e) 0 (asked_count f) + cond (nullable f) (fresh b (nullable e && nullable f) + x) 0 in
      rw (ends-starts (seq e f) s b, starts-seq e f, ends-starts e s.0 b, n, or-false (b && nullable e), or-and-false (starts act f) (nullable f))
      (seq-right b (nullable e) (nullable f) (starts act f) _ _ _ _ _ _ x (let k = rw n at (g x' b) in omega (arith, k)) (h _ (b && nullable e)))
  seq-counts e f s g h (inr q) x b =
      let n = still-starts f q in
      let a = (b && nullable e) || starts act e in
      rw (ends-starts (seq e f) s b, starts-seq e f, ends-starts e s.0 b, n)
      (seq-left b (nullable e) (nullable f) (starts act e) _ _ _ _ _ _ x (g _ b)
      (let k = rw n at (h 0 a) in let j = flow-still f q 0 (fresh b (nullable e && nullable f) + x) a (b && nullable e) in omega (arith, k, j)))

  -- `e || f`
  alt-counts : (e f : Exp) → Solid (alt e f) → ((x : ℕ) (b : Bool) → Counts e x b) → ((x : ℕ) (b : Bool) → Counts f x b) → Still e ⊎ Still f → (x : ℕ) (b : Bool) → Counts (alt e f) x b
  unfolding tally asked_count flow nullable
  alt-counts e f s g h (inl q) x b =
      let n = still-starts e q in
      rw (ends-starts (alt e f) s b, starts-alt e f, n)
      (alt-right b (nullable e || nullable f) (starts act f) _ _ _ _ _ _ x (let k = rw n at (g (fresh b (nullable e || nullable f) + x) b) in omega (arith, k)) (h _ b))
  alt-counts e f s g h (inr q) x b =
      let n = still-starts f q in
      rw (ends-starts (alt e f) s b, starts-alt e f, n, or-false (starts act e))
      (alt-left b (nullable e || nullable f) (starts act e) _ _ _ _ _ _ x (g _ b) (let k = rw n at (h (fresh b (nullable e || nullable f) + x) b) in omega (arith, k)))

  -- every part
  pub counts : (e : Exp) → Solid e → Numbered e → Sole e → (x : ℕ) (b : Bool) → Counts e x b
  unfolding tally asked_count flow nullable own threads
  counts (letter l) s a o x b = rw (starts-letter l) (by b (act l.number))
    where
      by : (b t : Bool) → one b + one t + cond t x 0 ≡ cond b 1 0 + cond t (1 + x) 0
      by true true = omega arith
      by true false = omega arith
      by false true = omega arith
      by false false = omega arith
  counts (seq e f) s a o x b = seq-counts e f s (counts e s.0 a.1 (sole-left e f o)) (counts f s.1 a.2 (sole-right e f o)) (one-still e f a.0 o.0) x b
  counts (alt e f) s a o x b = alt-counts e f s (counts e s.0 a.1 (sole-left e f o)) (counts f s.1 a.2 (sole-right e f o)) (one-still e f a.0 o.0) x b
  counts (star e) s a o x b = rw (ends-starts (star e) s b, starts-star e, ends-solid e s.1 s.0 b)
      (star-round b (starts act e) (tally act e) (flow act e) (asked_count e) x (counts e s.1 a o) (flow-again e s.1 a o.0 s.0))
  counts (pipe e f) s a o x b = rw (ends-starts (pipe e f) s b, starts-pipe e f, ends-solid e s.2 s.0 b, and-false b (starts act e))
      (pipe-both b (starts act e) _ _ _ _ _ _ x (counts e s.2 a.1 (o.0, λ g i. o.1 g (there (∈-left (threads f) i))) (1 + x) b)
      (let k = counts f s.3 a.2 (o.1 f (here refl), λ g i. o.1 g (there (∈-right (threads e) i))) 0 (starts act e) in
      let j = zero-cond (starts act f) in omega (arith, k, j)))

  -- a monitor that ends is asked again
  counts-after : (m : Exp) → Solid m → T (not (nullable m)) → Numbered m → Sole m → tally_after act m ≡ flow act m (asked_count m) false
  counts-after m s h a o = rw (ends-solid m s h false) (by (starts act m) (counts m s a o (asked_count m)) (λ t. flow-again m s a o.0 h t (asked_count m)))
    where
      by : (t : Bool) → ((b : Bool) → tally act m b + cond t (asked_count m) 0 ≡ cond b (asked_count m) 0 + flow act m (asked_count m) b)
          → (T t → flow act m (asked_count m) true ≡ flow act m (asked_count m) false) → tally act m t ≡ flow act m (asked_count m) false
      by true g k = let x = g true in let y = k tt in omega (arith, x, y)
      by false g k = let x = g false in omega (arith, x)

  -- ---- the sums of proofs/Counting ----

  -- they are the same, where the place has e left and x behind that
  pub sums-flow : (e : Exp) (c : Place) (s : Bool) (x : ℕ) → cond s c.rest c.whole ≡ fresh (s && c.begins) (nullable e) + x → sums act e c s ≡ flow act e x (s && c.begins)
  unfolding sums flow nullable
  sums-flow (letter l) c s x h = ap (λ k. cond (act l.number) k 0) (h ∙ ap (λ k. k + x) (always-fresh (s && c.begins)))
  sums-flow (seq e f) c true x h =
      let k = ap (λ z. cond (nullable f) z 0) h in
      ap₂ ◌+◌ (sums-flow e (left_of_seq e f c) true _ (omega (arith, k))) (sums-flow f (right_of_seq e f c) true _ (omega (arith, h)))
  sums-flow (seq e f) c false x h =
      let k = ap (λ z. cond (nullable f) z 0) h in
      ap₂ ◌+◌ (sums-flow e (left_of_seq e f c) false _ (omega (arith, k))) (sums-flow f (right_of_seq e f c) false _ (omega (arith, h)))
  sums-flow (alt e f) c true x h = ap₂ ◌+◌ (sums-flow e (side_of_alt e c) true _ (omega (arith, h))) (sums-flow f (side_of_alt f c) true _ (omega (arith, h)))
  sums-flow (alt e f) c false x h = ap₂ ◌+◌ (sums-flow e (side_of_alt e c) false _ (omega (arith, h))) (sums-flow f (side_of_alt f c) false _ (omega (arith, h)))
  sums-flow (star e) c true x h = sums-flow e (body_of_star e c) true _ (omega (arith, h))
  sums-flow (star e) c false x h = sums-flow e (body_of_star e c) false _ (omega (arith, h))
  sums-flow (pipe e f) c s x h = ap₂ ◌+◌ (side s h (sums-flow e (left_of_pipe e c))) (ap (λ k. cond (starts act e) (asked_count f) 0 + k) (thread (starts act e) (sums-flow f (thread_place f))))
    where
      side : (s : Bool) → cond s c.rest c.whole ≡ fresh (s && c.begins) false + x
          → ((s : Bool) (y : ℕ) → cond s (left_of_pipe e c).rest (left_of_pipe e c).whole ≡ fresh (s && c.begins) (nullable e) + y → sums act e (left_of_pipe e c) s ≡ flow act e y (s && c.begins))
          → sums act e (left_of_pipe e c) s ≡ flow act e (1 + x) (s && c.begins)
      side true h g = let k = always-fresh c.begins in g true (1 + x) (omega (arith, h, k))
      side false h g = g false (1 + x) (omega (arith, h))

      thread : (s : Bool) → ((s : Bool) (y : ℕ) → cond s (fresh true (nullable f)) 1 ≡ fresh (s && true) (nullable f) + y → sums act f (thread_place f) s ≡ flow act f y (s && true))
          → sums act f (thread_place f) s ≡ flow act f 0 s
      thread true g = g true 0 (omega arith)
      thread false g = g false 0 (omega arith)

-- ---- one letter of each thread ----

-- two that are counted count two
counted-two : (c : ℕ → Bool) (n k : ℕ) (ks : List ℕ) → (n ≡ k → ⊥) → n ∈ ks → k ∈ ks → T (c n) → T (c k) → 2 ≤ count c ks
counted-two c n k [] d i j g h = absurd (no-∈ i)
counted-two c n k (m ∷ ks) d i j g h = ⊎_elim
    (λ p. ⊎_elim
    (λ q. absurd (d (p ∙ sym q)))
    (λ j'. let x = counts-one (c m) (subst (λ y. T (c y)) p g) in let y = counted-one c k ks j' h in omega (arith, x, y))
    (cons-∈ j))
    (λ i'. ⊎_elim
    (λ q. let x = counts-one (c m) (subst (λ y. T (c y)) q h) in let y = counted-one c n ks i' g in omega (arith, x, y))
    (λ j'. let x = counted-two c n k ks d i' j' g h in omega (arith, x))
    (cons-∈ j))
    (cons-∈ i)

-- of a thread that requires one letter at most one was met at most
pub alone : (f : Exp) (ns : List ℕ) → required f ns ≤ 1 → Alone (λ n. member n ns) f
alone f ns h x y i j u v = by-test (eqb x.number y.number) (eqb→eq x.number y.number) (λ d.
    let k = counted-two (among (own f)) x.number y.number ns (λ p. T_not (eqb x.number y.number) d (subst (λ z. T (eqb x.number z)) p (eqb_refl x.number)))
    (member-∈ x.number ns u) (member-∈ y.number ns v) (among-from (own f) x i) (among-from (own f) y j) in
    absurd (omega (arith, h, k)))

-- ---- the tally of a monitor ----

-- before the first tick no letter was met
abbrev none : ℕ → Bool
none n = false

-- then a part is left where it is asked and nullable
ends-none : (e : Exp) → Solid e → (a : Bool) → ends none e a ≡ (a && nullable e)
ends-none e s a = ends-starts none e s a ∙ ap (λ t. (a && nullable e) || t) (still-starts none e (λ x i t. t)) ∙ or-false (a && nullable e)

-- a part that is not nullable is not left
not_left : (e : Exp) → Solid e → T (not (nullable e)) → (a : Bool) → ends none e a ≡ false
not_left e s h a = ends-solid none e s h a ∙ still-starts none e (λ x i t. t)

-- and its touches are those of asking it
tally-none : (e : Exp) → Solid e → (a : Bool) → tally none e a ≡ cond a (asked_count e) 0
unfolding tally asked_count nullable
tally-none (letter l) s true = refl
tally-none (letter l) s false = refl
tally-none (seq e f) s a = rw (ends-none (seq e f) s a, ends-none e s.0 a) (by a (nullable e) (nullable f) _ _ _ _ (tally-none e s.0 a) (tally-none f s.1 (a && nullable e)))
  where
    by : (a n m : Bool) (te tf ae af : ℕ) → te ≡ cond a ae 0 → tf ≡ cond (a && n) af 0 → one a + one (a && (n && m)) + te + tf ≡ cond a (1 + one (n && m) + ae + cond n af 0) 0
    by true true m te tf ae af h k = omega (arith, h, k)
    by true false m te tf ae af h k = omega (arith, h, k)
    by false n m te tf ae af h k = omega (arith, h, k)
tally-none (alt e f) s a = rw (ends-none (alt e f) s a) (by a (nullable e || nullable f) _ _ _ _ (tally-none e s.0 a) (tally-none f s.1 a))
  where
    by : (a n : Bool) (te tf ae af : ℕ) → te ≡ cond a ae 0 → tf ≡ cond a af 0 → one a + one (a && n) + te + tf ≡ cond a (1 + one n + ae + af) 0
    by true n te tf ae af h k = omega (arith, h, k)
    by false n te tf ae af h k = omega (arith, h, k)
tally-none (star e) s a = rw (ends-none (star e) s a, not_left e s.1 s.0 a, or-false a) (by a _ _ (tally-none e s.1 a))
  where
    by : (a : Bool) (te ae : ℕ) → te ≡ cond a ae 0 → one a + one (a && true) + te ≡ cond a (2 + ae) 0
    by true te ae h = omega (arith, h)
    by false te ae h = omega (arith, h)
tally-none (pipe e f) s a = rw (not_left (pipe e f) s tt a, not_left e s.2 s.0 a) (by a _ _ _ (tally-none e s.2 a) (tally-none f s.3 false))
  where
    by : (a : Bool) (te tf ae : ℕ) → te ≡ cond a ae 0 → tf ≡ 0 → one a + one false + te + tf ≡ cond a (1 + ae) 0
    by true te tf ae h k = omega (arith, h, k)
    by false te tf ae h k = omega (arith, h, k)

-- at the start
pub sums-start : (m : Exp) → Solid m → tally (λ n. false) m true ≡ asked_count m
sums-start m s = tally-none m s true

-- behind a tick
pub sums-met : (m : Exp) → Solid m → T (not (nullable m)) → Numbered m → (ns : List ℕ) → Single m ns → tally_after (λ n. member n ns) m ≡ sums_after (λ n. member n ns) m
sums-met m s h a ns o =
    counts-after (λ n. member n ns) m s h a (alone m ns o.line, λ f i. alone f ns (o.each f i))
    ∙ sym (sums-flow (λ n. member n ns) m (own_place m) false (asked_count m) refl)

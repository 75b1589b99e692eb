-- What F17 takes for granted of a start of a thread, proved of its runs in every accepted monitor: where there is a word it begins with a letter, it requires one letter a tick for so many
-- ticks, and none behind them (`start-requires`); what follows a letter of it (`after` in proofs/Active) begins with another one unless that letter is a last one of the thread, and has none if
-- it is (`behind-other`, `behind-last`; proofs/StartEnds says it of runs). The letters of starts that run at once add up (`merge-at`). Each letter of a thread is required by the thread itself or by a
-- thread in it, and not by both (`innermost`). So `Fit` says what F17 asks (`fits-exactly`).
use mathlib.Core.List.{List, [], ◌∷◌}
use mathlib.Core.Bool.{Bool, true, false, not, cond}
use mathlib.Core.Path.{◌≡◌, refl, sym, ap, ap₂, ◌∙◌, subst}
use mathlib.Core.Logic.{◌⊎◌, inl, inr, ⊎_elim, ◌↔◌}
use Prim.Native.Nat.{ℕ, zero, suc, ◌+◌, ◌-◌, ◌<◌, ◌≤◌}
use native.Mathlib.Omega.{arith}
use lib.Dec.{T, T_not, eqb, ltb, leb}
use borrow.Author.Tests.{ltb-true, ltb-false, leb-false}
use lib.ListN.{length, get_or}
use Rattle.meaning.specs.Lists.{◌∈◌, count, null}
use Rattle.meaning.specs.Expression.{Letter, Exp, letter, seq, alt, star, pipe, letters, own}
use Rattle.meaning.specs.Shape.{nullable, last, threads}
use Rattle.meaning.specs.Fit.{Tick, meets, Run, Rest, past_the_end, anything, merge, both, rounds, runs, branches, among, required, occupied, unoccupied, monitor, fits}
use Rattle.meaning.specs.Positions.{has}
use Rattle.meaning.proofs.ListLaws.{here, there, append-∈, ∈-left, ∈-right, map-∈, one-∈, only-∈, T_and, and_T, T-or-left, T-or-right, any-from, is_false, by-test, clash}
use Rattle.meaning.proofs.Step.{Solid, ended, both-∈}
use Rattle.meaning.proofs.OneWay.{Numbered}
use Rattle.meaning.proofs.Threads.{thread-solid, thread-numbered, thread-closed, among-from, own-apart, own-has, own-here, own-there, one-own, Ends, seq-ends, alt-ends, star-ends, pipe-ends, seq-not-last, alt-not-last}
use Rattle.meaning.proofs.Active.{after}
use Rattle.meaning.proofs.Monitor.{Accepted, ∈-keep, keep-∈, not_null}
use Rattle.meaning.proofs.Occupied.{count-append, counts-one, Quiet, Counts, quiet-own, not-occupied}

-- ---- a run, tick by tick; c says which letters are counted

module _ (c : ℕ → Bool) where
  -- how many at tick k
  abbrev pub at : Run → ℕ → ℕ
  at r k = count c (get_or r k [])

  pub merge-at : (r s : Run) (k : ℕ) → at (merge r s) k ≡ at r k + at s k
  unfolding merge
  merge-at [] s k = omega arith
  merge-at (a ∷ r) [] zero = omega arith
  merge-at (a ∷ r) [] (suc k) = omega arith
  merge-at (a ∷ r) (b ∷ s) zero = count-append c a b
  merge-at (a ∷ r) (b ∷ s) (suc k) = merge-at r s k

  -- none of what K does is counted
  abbrev pub Silent : Rest → Type 0
  Silent K = (ts : List Tick) (r : Run) → r ∈ K ts → (k : ℕ) → at r k ≡ 0

  pub past-silent : (r : Run) → r ∈ past_the_end → (k : ℕ) → at r k ≡ 0
  past-silent r i k = ap (λ z. at z k) (one-∈ i)

  pub both-silent : (K L : Rest) → Silent K → Silent L → Silent (λ us. both (K us) (L us))
  both-silent K L g h us q w m =
      let (a, b, x, y, p) = both-∈ (K us) (L us) w in
      ap (λ v. at v m) p ∙ merge-at a b m ∙ ap₂ ◌+◌ (g us a x m) (h us b y m)

  pub anything-silent : Silent anything
  anything-silent ts = past-silent

  rounds-silent : (e : Exp) (K : Rest) → ((L : Rest) → Silent L → Silent (runs e L)) → Silent K → (n : ℕ) → Silent (rounds (runs e) K n)
  unfolding rounds
  rounds-silent e K g z zero ts r i k = z ts r i k
  rounds-silent e K g z (suc n) [] r i k = past-silent r i k
  rounds-silent e K g z (suc n) (t ∷ ts) r i k = ⊎_elim (λ j. z (t ∷ ts) r j k) (λ j. g (rounds (runs e) K n) (rounds-silent e K g z n) (t ∷ ts) r j k) (append-∈ (K (t ∷ ts)) i)

  -- nor of e, then
  pub silent : (e : Exp) → ((x : Letter) → x ∈ letters e → c x.number ≡ false) → (K : Rest) → Silent K → Silent (runs e K)
  unfolding runs letters
  silent (letter l) h K z [] r i k = past-silent r i k
  silent (letter l) h K z (t ∷ ts) r i k =
      let (m, j) = only-∈ (meets l t) i in
      let (q, w, p) = map-∈ (λ r. (l.number ∷ []) ∷ r) (K ts) j in
      subst (λ y. at y k ≡ 0) p (by q k (z ts q w))
    where
      by : (q : Run) (k : ℕ) → ((k : ℕ) → at q k ≡ 0) → at ((l.number ∷ []) ∷ q) k ≡ 0
      by q zero g = ap (λ b. cond b 1 0 + 0) (h l (here refl))
      by q (suc k) g = g k
  silent (seq e f) h K z ts r i k =
      silent e (λ x j. h x (∈-left (letters f) j)) (runs f K) (silent f (λ x j. h x (∈-right (letters e) j)) K z) ts r i k
  silent (alt e f) h K z [] r i k = past-silent r i k
  silent (alt e f) h K z (t ∷ ts) r i k = ⊎_elim
      (λ j. silent e (λ x w. h x (∈-left (letters f) w)) K z (t ∷ ts) r j k) (λ j. silent f (λ x w. h x (∈-right (letters e) w)) K z (t ∷ ts) r j k) (append-∈ (runs e K (t ∷ ts)) i)
  silent (star e) h K z ts r i k = rounds-silent e K (silent e h) z (length ts) ts r i k
  silent (pipe e f) h K z ts r i k =
      silent e (λ x j. h x (∈-left (letters f) j)) (λ us. both (K us) (runs f anything us))
      (both-silent K (runs f anything) z (silent f (λ x j. h x (∈-right (letters e) j)) anything anything-silent)) ts r i k

  -- a thread of which no letter is counted
  abbrev pub Uncounted : Exp → Type 0
  Uncounted f = (x : Letter) → x ∈ letters f → T (c x.number) → ⊥

  pub thread-silent : (f : Exp) → Uncounted f → Silent (runs f anything)
  thread-silent f z = silent f (λ x j. is_false (c x.number) (z x j)) anything anything-silent

  -- The run r has one letter that is counted on each of n ticks, and from there on as many as q, a run of what K does on the ticks that are left.
  abbrev Lined : Rest → List Tick → Run → Type 0
  Lined K ts r = (n : ℕ) × (us : List Tick) × (q : Run) × (q ∈ K us) × (n + length us ≡ length ts) × ((k : ℕ) → k < n → at r k ≡ 1) × ((k : ℕ) → at r (n + k) ≡ at q k)

  lined-now : (K : Rest) (ts : List Tick) (r : Run) → r ∈ K ts → Lined K ts r
  lined-now K ts r i = (0, ts, r, i, omega arith, λ k h. absurd (omega (arith, h)), λ k. let e : 0 + k ≡ k = omega arith in ap (at r) e)

  lined-end : (K : Rest) → K [] ≡ past_the_end → (r : Run) → r ∈ past_the_end → Lined K [] r
  lined-end K e r i = lined-now K [] r (subst (λ z. r ∈ z) (sym e) i)

  -- one part behind the other
  lined_then : (K L : Rest) (ts : List Tick) (r : Run) → ((us : List Tick) (q : Run) → q ∈ K us → Lined L us q) → Lined K ts r → Lined L ts r
  lined_then K L ts r g (n, us, q, i, e, a, b) =
      let (m, vs, p, j, d, x, y) = g us q i in (
        n + m,
        vs,
        p,
        j,
        omega (arith, e, d),
        λ k h. split k n m r q a b x h,
        λ k. let o : n + m + k ≡ n + (m + k) = omega arith in ap (at r) o ∙ b (m + k) ∙ y k,
      )
    where
      split : (k n m : ℕ) (r q : Run) → ((k : ℕ) → k < n → at r k ≡ 1) → ((k : ℕ) → at r (n + k) ≡ at q k) → ((k : ℕ) → k < m → at q k ≡ 1) → k < n + m → at r k ≡ 1
      split k n m r q a b x h = by (ltb k n) refl
        where
          by : (o : Bool) → ltb k n ≡ o → at r k ≡ 1
          by true o = a k (ltb-true k n o)
          by false o =
              let l = ltb-false k n o in
              let d : k ≡ n + (k - n) = omega (arith, l) in
              ap (at r) d ∙ b (k - n) ∙ x (k - n) (omega (arith, l, h))

  rounds-lined : (e : Exp) (K : Rest) → K [] ≡ past_the_end → ((L : Rest) → L [] ≡ past_the_end → (us : List Tick) (q : Run) → q ∈ runs e L us → Lined L us q)
      → (n : ℕ) (ts : List Tick) (r : Run) → r ∈ rounds (runs e) K n ts → Lined K ts r
  unfolding rounds
  rounds-lined e K d g zero ts r i = lined-now K ts r i
  rounds-lined e K d g (suc n) [] r i = lined-end K d r i
  rounds-lined e K d g (suc n) (t ∷ ts) r i = ⊎_elim
      (lined-now K (t ∷ ts) r)
      (λ j. lined_then (rounds (runs e) K n) K (t ∷ ts) r (rounds-lined e K d g n) (g (rounds (runs e) K n) (ends n) (t ∷ ts) r j))
      (append-∈ (K (t ∷ ts)) i)
    where
      ends : (n : ℕ) → rounds (runs e) K n [] ≡ past_the_end
      ends zero = d
      ends (suc n) = refl

  -- A run of e followed by K is one own letter of e a tick, and then a run of K.
  lined : (e : Exp) → Counts c e → Quiet c e → (K : Rest) → K [] ≡ past_the_end → (ts : List Tick) (r : Run) → r ∈ runs e K ts → Lined K ts r
  unfolding runs own merge
  lined (letter l) h z K d [] r i = lined-end K d r i
  lined (letter l) h z K d (t ∷ ts) r i =
      let (m, j) = only-∈ (meets l t) i in
      let (q, w, p) = map-∈ (λ r. (l.number ∷ []) ∷ r) (K ts) j in
      (1, ts, q, w, omega arith, λ k g. subst (λ y. at y k ≡ 1) p (first q k g), λ k. subst (λ y. at y (1 + k) ≡ at q k) p (let e : 1 + k ≡ suc k = omega arith in ap (at ((l.number ∷ []) ∷ q)) e))
    where
      first : (q : Run) (k : ℕ) → k < 1 → at ((l.number ∷ []) ∷ q) k ≡ 1
      first q zero g = counts-one (c l.number) (h l (here refl))
      first q (suc k) g = absurd (omega (arith, g))
  lined (seq e f) h z K d ts r i =
      lined_then (runs f K) K ts r (lined f (λ x j. h x (∈-right (own e) j)) z.1 K d) (lined e (λ x j. h x (∈-left (own f) j)) z.0 (runs f K) (ended f K d) ts r i)
  lined (alt e f) h z K d [] r i = lined-end K d r i
  lined (alt e f) h z K d (t ∷ ts) r i = ⊎_elim
      (lined e (λ x j. h x (∈-left (own f) j)) z.0 K d (t ∷ ts) r) (lined f (λ x j. h x (∈-right (own e) j)) z.1 K d (t ∷ ts) r) (append-∈ (runs e K (t ∷ ts)) i)
  lined (star e) h z K d ts r i = rounds-lined e K d (lined e h z) (length ts) ts r i
  lined (pipe e f) h z K d ts r i =
      lined_then (λ us. both (K us) (runs f anything us)) K ts r
      (λ us q w. let (a, b, x, y, p) = both-∈ (K us) (runs f anything us) w in (
        0,
        us,
        a,
        x,
        omega arith,
        λ k g. absurd (omega (arith, g)),
        λ k. let o : 0 + k ≡ k = omega arith in
            let s = thread-silent f z.1 us b y k in
            ap (at q) o ∙ ap (λ v. at v k) p ∙ merge-at a b k ∙ omega (arith, s),
      ))
      (lined e h z.0 (λ us. both (K us) (runs f anything us)) (ap₂ both d (ended f anything refl)) ts r i)

  -- ---- the first tick

  -- asked at a tick, e has one own letter there, or it is nullable and K goes on
  starts : (e : Exp) → Solid e → Counts c e → (K : Rest) (t : Tick) (ts : List Tick) (r : Run) → r ∈ runs e K (t ∷ ts) → (at r 0 ≡ 1) ⊎ (T (nullable e) × (r ∈ K (t ∷ ts)))
  unfolding runs own nullable rounds
  starts (letter l) s h K t ts r i =
      let (m, j) = only-∈ (meets l t) i in
      let (q, w, p) = map-∈ (λ r. (l.number ∷ []) ∷ r) (K ts) j in
      inl (subst (λ y. at y 0 ≡ 1) p (counts-one (c l.number) (h l (here refl))))
  starts (seq e f) s h K t ts r i = ⊎_elim inl
      (λ (x, j). ⊎_elim inl (λ (y, k). inr (T_and (nullable e) (nullable f) x y, k)) (starts f s.1 (λ x j. h x (∈-right (own e) j)) K t ts r j))
      (starts e s.0 (λ x j. h x (∈-left (own f) j)) (runs f K) t ts r i)
  starts (alt e f) s h K t ts r i = ⊎_elim
      (λ j. ⊎_elim inl (λ (x, k). inr (T-or-left (nullable e) (nullable f) x, k)) (starts e s.0 (λ x j. h x (∈-left (own f) j)) K t ts r j))
      (λ j. ⊎_elim inl (λ (x, k). inr (T-or-right (nullable e) (nullable f) x, k)) (starts f s.1 (λ x j. h x (∈-right (own e) j)) K t ts r j))
      (append-∈ (runs e K (t ∷ ts)) i)
  starts (star e) s h K t ts r i = ⊎_elim
      (λ j. inr (tt, j))
      (λ j. ⊎_elim inl (λ (x, k). absurd (T_not (nullable e) s.0 x)) (starts e s.1 h (λ us. rounds (runs e) K (length ts) us) t ts r j))
      (append-∈ (K (t ∷ ts)) i)
  starts (pipe e f) s h K t ts r i =
      ⊎_elim inl (λ (x, k). absurd (T_not (nullable e) s.0 x)) (starts e s.2 h (λ us. both (K us) (runs f anything us)) t ts r i)

  -- ---- what follows letter n, an own one of e

  pub in-cond : (b : Bool) {A B : List Run} {r : Run} → r ∈ cond b A B → (T b × (r ∈ A)) ⊎ (T (not b) × (r ∈ B))
  in-cond true i = inl (tt, i)
  in-cond false i = inr (tt, i)

  -- after a last one that nothing follows inside e there is none
  ended-silent : (n : ℕ) (e : Exp) (K : Rest) → Numbered e → T (among (own e) n) → Ends n e → Quiet c e → Silent K → Silent (after n e K)
  unfolding after own
  ended-silent n (letter l) K a o z q g ts r i k = g ts r i k
  ended-silent n (seq e h) K a o z q g ts r i k =
      let (b, w) = seq-ends n e h a.0 z in
      ⊎_elim (λ (d, j). absurd (T_not (has n e) b d)) (λ (d, j). ended-silent n h K a.2 (own-there e h n d o) w q.1 g ts r j k) (in-cond (has n e) i)
  ended-silent n (alt e h) K a o z q g ts r i k =
      let (v, w) = alt-ends n e h a.0 z in
      ⊎_elim
      (λ (d, j). ended-silent n e K a.1 (own-here e h n a.0 d o) (v d) q.0 g ts r j k) (λ (d, j). ended-silent n h K a.2 (own-there e h n d o) (w d) q.1 g ts r j k)
      (in-cond (has n e) i)
  ended-silent n (star e) K a o z q g ts r i k = absurd (star-ends n e z)
  ended-silent n (pipe e h) K a o z q g ts r i k = ⊎_elim
      (λ (d, j). ended-silent n e (λ us. both (K us) (runs h anything us)) a.1 o (pipe-ends n e h z) q.0 (both-silent K (runs h anything) g (thread-silent h q.1)) ts r j k)
      (λ (d, j). absurd (T_not (has n e) d (own-has e n o)))
      (in-cond (has n e) i)

  -- K begins with one letter that is counted
  abbrev Begins : Rest → Tick → List Tick → Type 0
  Begins K t ts = (r : Run) → r ∈ K (t ∷ ts) → at r 0 ≡ 1

  asked-begins : (e : Exp) → Solid e → Counts c e → (K : Rest) (t : Tick) (ts : List Tick) → (T (nullable e) → Begins K t ts) → Begins (runs e K) t ts
  asked-begins e s h K t ts g r i = ⊎_elim (λ x. x) (λ (x, j). g x r j) (starts e s h K t ts r i)

  both-begins : (K : Rest) (f : Exp) → Uncounted f → (t : Tick) (ts : List Tick) → Begins K t ts → Begins (λ us. both (K us) (runs f anything us)) t ts
  both-begins K f z t ts g q w =
      let (a, b, x, y, p) = both-∈ (K (t ∷ ts)) (runs f anything (t ∷ ts)) w in
      let u = g a x in
      let v = thread-silent f z (t ∷ ts) b y 0 in
      ap (λ v. at v 0) p ∙ merge-at a b 0 ∙ omega (arith, u, v)

  after-begins : (n : ℕ) (e : Exp) (K : Rest) (t : Tick) (ts : List Tick) → Solid e → Numbered e → T (among (own e) n) → Counts c e → Quiet c e → Begins K t ts → Begins (after n e K) t ts
  unfolding after own
  after-begins n (letter l) K t ts s a o h q g r i = g r i
  after-begins n (seq e f) K t ts s a o h q g r i = ⊎_elim
      (λ (b, j). after-begins n e (runs f K) t ts s.0 a.1 (own-here e f n a.0 b o) (λ x m. h x (∈-left (own f) m)) q.0
      (asked-begins f s.1 (λ x m. h x (∈-right (own e) m)) K t ts (λ u. g)) r j)
      (λ (b, j). after-begins n f K t ts s.1 a.2 (own-there e f n b o) (λ x m. h x (∈-right (own e) m)) q.1 g r j)
      (in-cond (has n e) i)
  after-begins n (alt e f) K t ts s a o h q g r i = ⊎_elim
      (λ (b, j). after-begins n e K t ts s.0 a.1 (own-here e f n a.0 b o) (λ x m. h x (∈-left (own f) m)) q.0 g r j)
      (λ (b, j). after-begins n f K t ts s.1 a.2 (own-there e f n b o) (λ x m. h x (∈-right (own e) m)) q.1 g r j)
      (in-cond (has n e) i)
  after-begins n (star e) K t ts s a o h q g r i = after-begins n e (runs (star e) K) t ts s.1 a o h q (asked-begins (star e) s h K t ts (λ u. g)) r i
  after-begins n (pipe e f) K t ts s a o h q g r i = ⊎_elim
      (λ (b, j). after-begins n e (λ us. both (K us) (runs f anything us)) t ts s.2 a.1 o h q.0 (both-begins K f q.1 t ts g) r j)
      (λ (b, j). absurd (T_not (has n e) b (own-has e n o)))
      (in-cond (has n e) i)

  -- after one that is not a last one there is another, whatever follows e
  other-begins : (n : ℕ) (e : Exp) (K : Rest) (t : Tick) (ts : List Tick) → Solid e → Numbered e → T (among (own e) n) → T (not (last n e)) → Counts c e → Quiet c e → Begins (after n e K) t ts
  unfolding after own last
  other-begins n (letter l) K t ts s a o z h q r i = absurd (T_not (eqb n l.number) z (one-own l n o))
  other-begins n (seq e f) K t ts s a o z h q r i = ⊎_elim
      (λ (b, j). by-test (nullable f)
      (λ y. other-begins n e (runs f K) t ts s.0 a.1 (own-here e f n a.0 b o) ((seq-not-last n e f z).1 y) (λ x m. h x (∈-left (own f) m)) q.0 r j)
      (λ y. after-begins n e (runs f K) t ts s.0 a.1 (own-here e f n a.0 b o) (λ x m. h x (∈-left (own f) m)) q.0
      (asked-begins f s.1 (λ x m. h x (∈-right (own e) m)) K t ts (λ v. absurd (T_not (nullable f) y v))) r j))
      (λ (b, j). other-begins n f K t ts s.1 a.2 (own-there e f n b o) (seq-not-last n e f z).0 (λ x m. h x (∈-right (own e) m)) q.1 r j)
      (in-cond (has n e) i)
  other-begins n (alt e f) K t ts s a o z h q r i =
      let (v, w) = alt-not-last n e f z in
      ⊎_elim
      (λ (b, j). other-begins n e K t ts s.0 a.1 (own-here e f n a.0 b o) v (λ x m. h x (∈-left (own f) m)) q.0 r j)
      (λ (b, j). other-begins n f K t ts s.1 a.2 (own-there e f n b o) w (λ x m. h x (∈-right (own e) m)) q.1 r j)
      (in-cond (has n e) i)
  other-begins n (star e) K t ts s a o z h q r i = other-begins n e (runs (star e) K) t ts s.1 a o z h q r i
  other-begins n (pipe e f) K t ts s a o z h q r i = ⊎_elim
      (λ (b, j). other-begins n e (λ us. both (K us) (runs f anything us)) t ts s.2 a.1 o z h q.0 r j)
      (λ (b, j). absurd (T_not (has n e) b (own-has e n o)))
      (in-cond (has n e) i)

-- ---- a start of the thread f

module _ (f : Exp) (solid : Solid f) (filled : T (not (nullable f))) (numbered : Numbered f) where
  own-quiet : Quiet (among (own f)) f
  own-quiet = quiet-own (among (own f)) f numbered (λ x i w. w)

  own-counts : Counts (among (own f)) f
  own-counts x i = among-from (own f) x i

  begins : (t : Tick) (ts : List Tick) (r : Run) → r ∈ runs f anything (t ∷ ts) → required f (get_or r 0 []) ≡ 1
  begins t ts r i = asked-begins (among (own f)) f solid own-counts anything t ts (λ u. absurd (T_not (nullable f) filled u)) r i

  -- It requires one letter a tick, for so many ticks, and none behind them; there is one at least where there is a word.
  one-a-tick : (ts : List Tick) (r : Run) → r ∈ runs f anything ts
      → (n : ℕ) × (n ≤ length ts) × (0 < length ts → 0 < n) × ((k : ℕ) → k < n → required f (get_or r k []) ≡ 1) × ((k : ℕ) → n ≤ k → required f (get_or r k []) ≡ 0)
  one-a-tick ts r i =
      let (n, us, q, j, e, a, b) = lined (among (own f)) f own-counts own-quiet anything refl ts r i in
      let none : (k : ℕ) → n ≤ k → required f (get_or r k []) ≡ 0 = λ k h. let d : k ≡ n + (k - n) = omega (arith, h) in ap (at (among (own f)) r) d ∙ b (k - n) ∙ past-silent (among (own f)) q j (k - n) in
      (n, omega (arith, e), at_least n ts r i none, a, none)
    where
      at_least : (n : ℕ) (ts : List Tick) (r : Run) → r ∈ runs f anything ts → ((k : ℕ) → n ≤ k → required f (get_or r k []) ≡ 0) → 0 < length ts → 0 < n
      at_least zero [] r i none h = absurd (omega (arith, h))
      at_least zero (t ∷ ts) r i none h = let x = begins t ts r i in let y = none 0 (omega arith) in absurd (omega (arith, x, y))
      at_least (suc n) ts r i none h = omega arith

  -- Behind a last letter of the thread, where rule 11 lets nothing follow, it requires none;
  after_last : (n : ℕ) → T (among (own f) n) → Ends n f → (ts : List Tick) (r : Run) → r ∈ after n f anything ts → (k : ℕ) → required f (get_or r k []) ≡ 0
  after_last n o z ts r i k = ended-silent (among (own f)) n f anything numbered o z own-quiet (λ vs s w. past-silent (among (own f)) s w) ts r i k

  -- behind any other it requires one.
  after-other : (n : ℕ) → T (among (own f) n) → T (not (last n f)) → (t : Tick) (ts : List Tick) (r : Run) → r ∈ after n f anything (t ∷ ts) → required f (get_or r 0 []) ≡ 1
  after-other n o z t ts r i = other-begins (among (own f)) n f anything t ts solid numbered o z own-counts own-quiet r i

-- Every letter is required by the part itself, or by a thread in it.
required-by : (e : Exp) (x : Letter) → x ∈ letters e → (x ∈ own e) ⊎ ((f : Exp) × (f ∈ threads e) × (x ∈ own f))
unfolding letters own threads
required-by (letter l) x i = inl i
required-by (seq e g) x i = ⊎_elim
    (λ j. ⊎_elim (λ k. inl (∈-left (own g) k)) (λ (f, k, w). inr (f, ∈-left (threads g) k, w)) (required-by e x j))
    (λ j. ⊎_elim (λ k. inl (∈-right (own e) k)) (λ (f, k, w). inr (f, ∈-right (threads e) k, w)) (required-by g x j))
    (append-∈ (letters e) i)
required-by (alt e g) x i = ⊎_elim
    (λ j. ⊎_elim (λ k. inl (∈-left (own g) k)) (λ (f, k, w). inr (f, ∈-left (threads g) k, w)) (required-by e x j))
    (λ j. ⊎_elim (λ k. inl (∈-right (own e) k)) (λ (f, k, w). inr (f, ∈-right (threads e) k, w)) (required-by g x j))
    (append-∈ (letters e) i)
required-by (star e) x i = required-by e x i
required-by (pipe e g) x i = ⊎_elim
    (λ j. ⊎_elim inl (λ (f, k, w). inr (f, there (∈-left (threads g) k), w)) (required-by e x j))
    (λ j. inr (⊎_elim (λ k. (g, here refl, k)) (λ (f, k, w). (f, there (∈-right (threads e) k), w)) (required-by g x j)))
    (append-∈ (letters e) i)

-- ---- a thread of an accepted monitor

module _ (m : Exp) (ac : Accepted m) (f : Exp) (i : f ∈ threads m) where
  pub fs : Solid f × T (not (nullable f))
  fs = thread-solid m f ac.solid.1 i

  pub start-requires : (ts : List Tick) (r : Run) → r ∈ runs f anything ts
      → (n : ℕ) × (n ≤ length ts) × (0 < length ts → 0 < n) × ((k : ℕ) → k < n → required f (get_or r k []) ≡ 1) × ((k : ℕ) → n ≤ k → required f (get_or r k []) ≡ 0)
  start-requires = one-a-tick f fs.0 fs.1 (thread-numbered m f ac.numbered i)

  -- each letter of it is an own one or one of a thread inside it, and never both
  pub innermost : ((x : Letter) → x ∈ letters f → (x ∈ own f) ⊎ ((g : Exp) × (g ∈ threads f) × (x ∈ own g))) × ((g : Exp) → g ∈ threads f → (x : Letter) → x ∈ own g → x ∈ own f → ⊥)
  innermost = (
    required-by f,
    λ g j x a b. own-apart f g (thread-numbered m f ac.numbered i) j x.number (among-from (own g) x a) (among-from (own f) x b),
  )

  pub behind-last : (n : ℕ) → T (among (own f) n) → T (last n f) → (ts : List Tick) (r : Run) → r ∈ after n f anything ts → (k : ℕ) → required f (get_or r k []) ≡ 0
  behind-last n o z = after_last f fs.0 fs.1 (thread-numbered m f ac.numbered i) n o (z, λ x. thread-closed m f ac.closed i n x z)

  pub behind-other : (n : ℕ) → T (among (own f) n) → T (not (last n f)) → (t : Tick) (ts : List Tick) (r : Run) → r ∈ after n f anything (t ∷ ts) → required f (get_or r 0 []) ≡ 1
  behind-other = after-other f fs.0 fs.1 (thread-numbered m f ac.numbered i)

-- ---- fit, with the rule as F17 has it

module _ (m : Exp) where
  -- no thread has two letters there
  few : (ns : List ℕ) → T (not (occupied m ns)) → (f : Exp) → f ∈ threads m → required f ns ≤ 1
  unfolding occupied
  few ns h f i = by (leb 2 (required f ns)) refl
    where
      by : (b : Bool) → leb 2 (required f ns) ≡ b → required f ns ≤ 1
      by true e = absurd (T_not (occupied m ns) h (any-from (λ g. leb 2 (required g ns)) i (subst T (sym e) tt)))
      by false e = let x = leb-false 2 (required f ns) e in omega (arith, x)

  each-few : (r : Run) → T (unoccupied m r) → (f : Exp) → f ∈ threads m → (k : ℕ) → required f (get_or r k []) ≤ 1
  each-few [] h f i k = omega arith
  each-few (ns ∷ r) h f i zero = few ns (and_T (not (occupied m ns)) (unoccupied m r) h).0 f i
  each-few (ns ∷ r) h f i (suc k) = each-few r (and_T (not (occupied m ns)) (unoccupied m r) h).1 f i k

  none-occupied : (r : Run) → ((f : Exp) → f ∈ threads m → (k : ℕ) → required f (get_or r k []) ≤ 1) → T (unoccupied m r)
  none-occupied [] h = tt
  none-occupied (ns ∷ r) h = T_and (not (occupied m ns)) (unoccupied m r) (not-occupied m ns (λ f i. h f i 0)) (none-occupied r (λ f i k. h f i (suc k)))

  some-run : (A : List Run) → ◌≡◌ {A = Bool} (not (null A)) true → (r : Run) × (r ∈ A)
  some-run [] p = clash (cc p)
  some-run (r ∷ A) p = (r, here refl)

  -- Words fit a monitor exactly if some branch, of all that F6 to F13 allow, has at no tick two letters of one thread.
  pub fits-exactly : (ts : List Tick) → (◌≡◌ {A = Bool} (fits m ts) true) ↔ ((r : Run) × (r ∈ branches m ts) × ((f : Exp) → f ∈ threads m → (k : ℕ) → required f (get_or r k []) ≤ 1))
  fits-exactly ts = (
    λ p. let (r, i) = some-run (monitor m ts) p in let (j, h) = keep-∈ (unoccupied m) (branches m ts) i in (r, j, each-few r h),
    λ (r, i, h). ap not (not_null (∈-keep (unoccupied m) i (none-occupied r h))),
  )

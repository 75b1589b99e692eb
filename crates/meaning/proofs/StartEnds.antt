-- F17 on the runs of a start of a thread, in every accepted monitor: at the tick behind its last letter it requires none, and behind any other of its letters it requires one, where there is a word
-- (`start_ends`).
use mathlib.Core.List.{List, [], ◌∷◌}
use mathlib.Core.Bool.{Bool, true, false, not}
use mathlib.Core.Path.{◌≡◌, refl, sym, ap, ap₂, ◌∙◌, subst}
use mathlib.Core.Logic.{⊎_elim}
use Prim.Native.Nat.{ℕ, zero, suc, ◌+◌, ◌<◌, ◌≤◌}
use native.Mathlib.Omega.{arith}
use lib.Dec.{T, T_not, ltb}
use borrow.Author.Tests.{ltb-true, ltb-false}
use lib.ListN.{length, get_or}
use Rattle.meaning.specs.Lists.{◌∈◌}
use Rattle.meaning.specs.Expression.{Exp, letter, seq, alt, star, pipe, letters, own}
use Rattle.meaning.specs.Shape.{last, threads}
use Rattle.meaning.specs.Fit.{Tick, Run, Rest, anything, both, runs, among, required}
use Rattle.meaning.specs.Positions.{has}
use Rattle.meaning.proofs.ListLaws.{here, there, cons-∈, no-∈, map-∈, one-∈, ∈-left, ∈-right, is_false, by-test}
use Rattle.meaning.proofs.Step.{Good, goes_on, afters, Placed, both-∈, good-anything, afters-good, step, steps}
use Rattle.meaning.proofs.OneWay.{Numbered}
use Rattle.meaning.proofs.Threads.{thread-numbered, among-from, among-left, among-right, rest_has}
use Rattle.meaning.proofs.Active.{after, somewhere, placed}
use Rattle.meaning.proofs.Monitor.{Accepted}
use Rattle.meaning.proofs.Occupied.{Quiet, quiet_none, quiet-own, counted-one}
use Rattle.meaning.proofs.Requires.{merge-at, Silent, past-silent, both-silent, anything-silent, silent, Uncounted, thread-silent, in-cond, fs, start-requires, behind-last, behind-other}

-- Behind a letter that stands in a thread inside e nothing is counted, nor behind any where c counts no letter of e and nothing of K.
inner-silent : (c : ℕ → Bool) (n : ℕ) (e : Exp) (K : Rest) → T (has n e) → Quiet c e
    → (T (among (own e) n) → Uncounted c e × Silent c K) → Silent c (after n e K)
unfolding after own letters
inner-silent c n (letter l) K h q g ts r i k = (g h).1 ts r i k
inner-silent c n (seq e f) K h q g ts r i k = ⊎_elim
    (λ (b, j). inner-silent c n e (runs f K) b q.0 (λ u. let (z, s) = g (among-left (own e) (own f) n u) in (
      λ x w. z x (∈-left (letters f) w),
      silent c f (λ x w. is_false (c x.number) (z x (∈-right (letters e) w))) K s,
    )) ts r j k)
    (λ (b, j). inner-silent c n f K (rest_has (letters e) (letters f) n h b) q.1 (λ u. let (z, s) = g (among-right (own e) (own f) n u) in (λ x w. z x (∈-right (letters e) w), s)) ts r j k)
    (in-cond c (has n e) i)
inner-silent c n (alt e f) K h q g ts r i k = ⊎_elim
    (λ (b, j). inner-silent c n e K b q.0 (λ u. let (z, s) = g (among-left (own e) (own f) n u) in (λ x w. z x (∈-left (letters f) w), s)) ts r j k)
    (λ (b, j). inner-silent c n f K (rest_has (letters e) (letters f) n h b) q.1 (λ u. let (z, s) = g (among-right (own e) (own f) n u) in (λ x w. z x (∈-right (letters e) w), s)) ts r j k)
    (in-cond c (has n e) i)
inner-silent c n (star e) K h q g ts r i k =
    inner-silent c n e (runs (star e) K) h q (λ u. let (z, s) = g u in (z, silent c (star e) (λ x w. is_false (c x.number) (z x w)) K s)) ts r i k
inner-silent c n (pipe e f) K h q g ts r i k = ⊎_elim
    (λ (b, j). inner-silent c n e (λ us. both (K us) (runs f anything us)) b q.0 (λ u. let (z, s) = g u in (λ x w. z x (∈-left (letters f) w), both-silent c K (runs f anything) s (thread-silent c f q.1))) ts r j k)
    (λ (b, j). inner-silent c n f anything (rest_has (letters e) (letters f) n h b) (quiet_none c f q.1) (λ u. (q.1, anything-silent c)) ts r j k)
    (in-cond c (has n e) i)

-- ---- a run from one tick on

module _ (G : ℕ → Rest) where
  -- behind the first tick, a run of what follows its letters
  behind-first : (K : Rest) → Good G K → (t : Tick) (ts : List Tick) (r : Run) → r ∈ K (t ∷ ts)
      → (q : Run) × (q ∈ afters G (get_or r 0 []) ts) × ((k : ℕ) → get_or r (suc k) [] ≡ get_or q k [])
  unfolding goes_on afters
  behind-first K g t ts r i = let (p, a, b) = g.to t ts r i in by p b
    where
      by : (p : Run) → r ∈ goes_on G p ts → (q : Run) × (q ∈ afters G (get_or r 0 []) ts) × ((k : ℕ) → get_or r (suc k) [] ≡ get_or q k [])
      by [] b = let e = one-∈ b in ([], subst (λ z. [] ∈ afters G (get_or z 0 []) ts) (sym e) (here refl), λ k. ap (λ z. get_or z (suc k) []) e)
      by (ns ∷ p) b = let (q, j, e) = map-∈ (λ z. ns ∷ z) (afters G ns ts) b in (q, subst (λ z. q ∈ afters G (get_or z 0 []) ts) e j, λ k. ap (λ z. get_or z (suc k) []) (sym e))

  -- and so behind tick k
  behind-tick : ((n : ℕ) → Good G (G n)) → (k : ℕ) (ts : List Tick) (K : Rest) → Good G K → (r : Run) → r ∈ K ts → k < length ts
      → (us : List Tick) × (q : Run) × (q ∈ afters G (get_or r k []) us) × (suc k + length us ≡ length ts) × (get_or r (suc k) [] ≡ get_or q 0 [])
  behind-tick good k [] K g r i h = absurd (omega (arith, h))
  behind-tick good zero (t ∷ ts) K g r i h = let (q, j, e) = behind-first K g t ts r i in (ts, q, j, omega arith, e 0)
  behind-tick good (suc k) (t ∷ ts) K g r i h =
      let (q, j, e) = behind-first K g t ts r i in
      let (us, s, l, d, x) = behind-tick good k ts (afters G (get_or r 0 [])) (afters-good G good (get_or r 0 [])) q j (omega (arith, h)) in
      (us, s, subst (λ z. s ∈ afters G z us) (sym (e k)) l, omega (arith, d), e (suc k) ∙ x)

-- ---- a start of the thread f

module _ (m : Exp) (ac : Accepted m) (f : Exp) (i : f ∈ threads m) where
  -- what follows letter n of it
  abbrev behind : ℕ → Rest
  behind n = after n f anything

  numbered : Numbered f
  numbered = thread-numbered m f ac.numbered i

  is-placed : Placed behind f anything
  is-placed = placed behind f anything numbered (λ l j. refl)

  start_good : Good behind (runs f anything)
  start_good = step behind f anything (fs m ac f i).0 is-placed refl (λ h. good-anything behind)

  letter-good : (n : ℕ) → Good behind (behind n)
  letter-good n =
      let (l, j, p) = somewhere behind n f anything is-placed in
      rw p (steps behind f anything (fs m ac f i).0 is-placed refl (good-anything behind) l j)

  -- a start of f has letters of f alone
  run-has : (ts : List Tick) (r : Run) → r ∈ runs f anything ts → (k n : ℕ) → n ∈ get_or r k [] → T (has n f)
  run-has ts r j k n a = by-test (has n f) (λ h. h) (λ h.
      let x = silent out f (λ l w. is_false (out l.number) (λ o. T_not (has l.number f) o (among-from (letters f) l w))) anything (anything-silent out) ts r j k in
      let y = counted-one out n (get_or r k []) a h in
      absurd (omega (arith, x, y)))
    where
      out : ℕ → Bool
      out n = not (has n f)

  -- behind a letter of a thread inside f there is no own letter of f
  inner-behind : (n : ℕ) → T (has n f) → (T (among (own f) n) → ⊥) → Silent (among (own f)) (behind n)
  inner-behind n h o = inner-silent (among (own f)) n f anything h (quiet-own (among (own f)) f numbered (λ x j w. w)) (λ u. absurd (o u))

  -- none of ns is an own letter: no start goes on
  none-behind : (ns : List ℕ) → ((n : ℕ) → n ∈ ns → T (has n f)) → required f ns ≡ 0 → Silent (among (own f)) (afters behind ns)
  unfolding afters
  none-behind [] h z ts r j k = past-silent (among (own f)) r j k
  none-behind (n ∷ ns) h z ts r j k =
      let (a, b, x, y, p) = both-∈ (behind n ts) (afters behind ns ts) j in
      ap (λ v. required f (get_or v k [])) p
      ∙ merge-at (among (own f)) a b k
      ∙ ap₂ ◌+◌
      (inner-behind n (h n (here refl)) (λ u. let w = counted-one (among (own f)) n (n ∷ ns) (here refl) u in absurd (omega (arith, w, z))) ts a x k)
      (none-behind ns (λ l w. h l (there w)) (omega (arith, z)) ts b y k)

  -- n is the one own letter of ns: what is required next is required behind it
  one-behind : (n : ℕ) (ns : List ℕ) → n ∈ ns → T (among (own f) n) → required f ns ≤ 1 → ((l : ℕ) → l ∈ ns → T (has l f)) → (ts : List Tick) (r : Run) → r ∈ afters behind ns ts
      → (s : Run) × (s ∈ behind n ts) × (required f (get_or r 0 []) ≡ required f (get_or s 0 []))
  unfolding afters
  one-behind n [] w o c h ts r j = absurd (no-∈ w)
  one-behind n (l ∷ ns) w o c h ts r j =
      let (a, b, x, y, p) = both-∈ (behind l ts) (afters behind ns ts) j in
      let e = ap (λ v. required f (get_or v 0 [])) p ∙ merge-at (among (own f)) a b 0 in
      ⊎_elim
      (λ q. let u = counted-one (among (own f)) l (l ∷ []) (here refl) (subst (λ v. T (among (own f) v)) q o) in
      let z = none-behind ns (λ l w. h l (there w)) (omega (arith, c, u)) ts b y 0 in
      (a, subst (λ v. a ∈ behind v ts) (sym q) x, omega (arith, e, z)))
      (λ k. let (s, v, d) = one-behind n ns k o (omega (arith, c)) (λ l w. h l (there w)) ts b y in
      let u = counted-one (among (own f)) n ns k o in
      let z = inner-behind l (h l (here refl)) (λ g. let t = counted-one (among (own f)) l (l ∷ []) (here refl) g in absurd (omega (arith, c, u, t))) ts a x 0 in
      (s, v, omega (arith, e, z, d)))
      (cons-∈ w)

  -- where it has an own letter there is a word, and no second one
  one-there : (ts : List Tick) (r : Run) → r ∈ runs f anything ts → (k n : ℕ) → n ∈ get_or r k [] → T (among (own f) n) → (k < length ts) × (required f (get_or r k []) ≤ 1)
  one-there ts r j k n a o = let (l, h, b, x, y) = start-requires m ac f i ts r j in by l h x y (ltb k l) refl
    where
      by : (l : ℕ) → l ≤ length ts → ((k : ℕ) → k < l → required f (get_or r k []) ≡ 1) → ((k : ℕ) → l ≤ k → required f (get_or r k []) ≡ 0)
          → (b : Bool) → ltb k l ≡ b → (k < length ts) × (required f (get_or r k []) ≤ 1)
      by l h x y true e = let d = ltb-true k l e in let z = x k d in (omega (arith, d, h), omega (arith, z))
      by l h x y false e = let z = y k (ltb-false k l e) in let u = counted-one (among (own f)) n (get_or r k []) a o in absurd (omega (arith, z, u))

  -- F17: "to that of its last letter, and none behind that; S12 leaves no doubt which letter is its last"
  pub start_ends : (ts : List Tick) (r : Run) → r ∈ runs f anything ts → (k n : ℕ) → n ∈ get_or r k [] → T (among (own f) n)
      → (T (last n f) → required f (get_or r (suc k) []) ≡ 0) × (T (not (last n f)) → suc k < length ts → required f (get_or r (suc k) []) ≡ 1)
  start_ends ts r j k n a o =
      let (h, c) = one-there ts r j k n a o in
      let (us, q, w, e, d) = behind-tick behind letter-good k ts (runs f anything) start_good r j h in
      let (s, x, y) = one-behind n (get_or r k []) a o c (run-has ts r j k) us q w in
      (λ z. ap (required f) d ∙ y ∙ behind-last m ac f i n o z us s x 0, λ z g. ap (required f) d ∙ y ∙ other z us s x (omega (arith, e, g)))
    where
      other : T (not (last n f)) → (us : List Tick) (s : Run) → s ∈ behind n us → 0 < length us → required f (get_or s 0 []) ≡ 1
      other z [] s x h = absurd (omega (arith, h))
      other z (t ∷ us) s x h = behind-other m ac f i n o z t us s x

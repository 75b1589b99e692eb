-- One step: a rest's runs on a tick and more are its runs on that tick alone, each followed by what follows its letters.
use mathlib.Core.List.{List, [], ◌∷◌, ◌++◌, map, append-nil, append_assoc, map-map}
use mathlib.Core.Bool.{not}
use mathlib.Core.Path.{◌≡◌, refl, sym, ap, ap₂, ◌∙◌, subst, fun_ext}
use mathlib.Core.Logic.{◌⊎◌, inl, inr, ⊎_elim}
use Prim.Native.Nat.{ℕ, zero, suc, ◌≤◌, ◌<◌}
use native.Mathlib.Omega.{arith}
use lib.Dec.{T, T_not}
use lib.ListN.{length}
use Rattle.meaning.specs.Lists.{only, ◌∈◌}
use Rattle.meaning.specs.Expression.{Letter, Exp, letter, seq, alt, star, pipe, letters}
use Rattle.meaning.specs.Shape.{nullable}
use Rattle.meaning.specs.Fit.{Tick, meets, Run, Rest, past_the_end, anything, nothing, merge, both, either, rounds, runs}
use Rattle.meaning.proofs.ListLaws.{here, no-∈, append-∈, ∈-left, ∈-right, ∈-map, map-∈, ∈-cast, one-∈, ∈-each, each-∈, each-cong, each_map, map_each, each-each, map-id, T_and, T-or-left, T-or-right, ∈-only, only-∈}

-- rule 10 inside e
abbrev pub Solid : Exp → Type 0
Solid (letter l) = Unit {0}
Solid (seq e f) = Solid e × Solid f
Solid (alt e f) = Solid e × Solid f
Solid (star e) = T (not (nullable e)) × Solid e
Solid (pipe e f) = T (not (nullable e)) × T (not (nullable f)) × Solid e × Solid f

-- ---- what e followed by K does depends on K only where e can leave off ----

abbrev Near : Exp → Type 0
Near e = (K L : Rest) (ts : List Tick)
    → ((us : List Tick) → length us < length ts → K us ≡ L us)
    → (T (nullable e) → K ts ≡ L ts)
    → runs e K ts ≡ runs e L ts

rounds-near : (e : Exp) → Near e → T (not (nullable e)) → (K L : Rest) (n : ℕ) (ts : List Tick)
    → ((us : List Tick) → length us < length ts → K us ≡ L us)
    → K ts ≡ L ts
    → rounds (runs e) K n ts ≡ rounds (runs e) L n ts
unfolding rounds
rounds-near e ih solid K L zero ts h g = g
rounds-near e ih solid K L (suc n) [] h g = refl
rounds-near e ih solid K L (suc n) (t ∷ ts) h g =
    ap₂ ◌++◌ g
    (ih (rounds (runs e) K n) (rounds (runs e) L n) (t ∷ ts)
    (λ us lt. rounds-near e ih solid K L n us (λ vs lv. h vs (omega arith)) (h us lt))
    (λ he. absurd (T_not (nullable e) solid he)))

pub near : (e : Exp) → Solid e → Near e
unfolding runs nullable
near (letter l) s K L [] h g = refl
near (letter l) s K L (t ∷ ts) h g = ap (λ x. only (meets l t) (map (λ r. (l.number ∷ []) ∷ r) x)) (h ts (omega arith))
near (seq e f) s K L ts h g =
    near e s.0 (runs f K) (runs f L) ts
    (λ us lt. near f s.1 K L us (λ vs lv. h vs (omega arith)) (λ hf. h us lt))
    (λ he. near f s.1 K L ts h (λ hf. g (T_and (nullable e) (nullable f) he hf)))
near (alt e f) s K L [] h g = refl
near (alt e f) s K L (t ∷ ts) h g =
    ap₂ ◌++◌ (near e s.0 K L (t ∷ ts) h (λ he. g (T-or-left (nullable e) (nullable f) he)))
    (near f s.1 K L (t ∷ ts) h (λ hf. g (T-or-right (nullable e) (nullable f) hf)))
near (star e) s K L ts h g = rounds-near e (near e s.1) s.0 K L (length ts) ts h (g tt)
near (pipe e f) s K L ts h g =
    near e s.2 (λ us. both (K us) (runs f anything us)) (λ us. both (L us) (runs f anything us)) ts
    (λ us lt. ap (λ x. both x (runs f anything us)) (h us lt))
    (λ he. absurd (T_not (nullable e) s.0 he))

-- ---- a star's rounds: as many as there are ticks is enough ----

enough : (e : Exp) → Solid (star e) → (K : Rest) → K [] ≡ past_the_end → (n m : ℕ) (us : List Tick)
    → length us ≤ n → length us ≤ m → rounds (runs e) K n us ≡ rounds (runs e) K m us
unfolding rounds
enough e s K k zero zero us p q = refl
enough e s K k zero (suc m) [] p q = k
enough e s K k zero (suc m) (u ∷ us) p q = absurd (omega arith)
enough e s K k (suc n) zero [] p q = sym k
enough e s K k (suc n) zero (u ∷ us) p q = absurd (omega arith)
enough e s K k (suc n) (suc m) [] p q = refl
enough e s K k (suc n) (suc m) (u ∷ us) p q =
    ap (λ x. K (u ∷ us) ++ x)
    (near e s.1 (rounds (runs e) K n) (rounds (runs e) K m) (u ∷ us)
    (λ vs lv. enough e s K k n m vs (omega arith) (omega arith))
    (λ he. absurd (T_not (nullable e) s.0 he)))

-- `e*`: what follows, or e followed by `e*`
pub unroll : (e : Exp) → Solid (star e) → (K : Rest) → K [] ≡ past_the_end → (t : Tick) (ts : List Tick)
    → runs (star e) K (t ∷ ts) ≡ K (t ∷ ts) ++ runs e (runs (star e) K) (t ∷ ts)
unfolding runs rounds
unroll e s K k t ts =
    ap (λ x. K (t ∷ ts) ++ x)
    (near e s.1 (rounds (runs e) K (length ts)) (runs (star e) K) (t ∷ ts)
    (λ us lt. enough e s K k (length ts) (length us) us (omega arith) (omega arith))
    (λ he. absurd (T_not (nullable e) s.0 he)))

-- past the last word everything fits
pub ended : (e : Exp) (K : Rest) → K [] ≡ past_the_end → runs e K [] ≡ past_the_end
unfolding runs rounds merge
ended (letter l) K k = refl
ended (seq e f) K k = ended e (runs f K) (ended f K k)
ended (alt e f) K k = refl
ended (star e) K k = k
ended (pipe e f) K k = ended e (λ us. both (K us) (runs f anything us)) (ap₂ both k (ended f anything refl))

-- ---- runs at once ----

pub merge-nil : (r : Run) → merge r [] ≡ r
unfolding merge
merge-nil [] = refl
merge-nil (a ∷ r) = refl

pub merge-assoc : (r s u : Run) → merge (merge r s) u ≡ merge r (merge s u)
unfolding merge
merge-assoc [] s u = refl
merge-assoc (a ∷ r) [] u = refl
merge-assoc (a ∷ r) (b ∷ s) [] = refl
merge-assoc (a ∷ r) (b ∷ s) (c ∷ u) = ap₂ ◌∷◌ (append_assoc a b c) (merge-assoc r s u)

pub both-assoc : (A B C : List Run) → both (both A B) C ≡ both A (both B C)
both-assoc A B C =
    each-each A (λ a. map (merge a) B) (λ r. map (merge r) C)
    ∙ each-cong A (λ a. each_map B (merge a) (λ r. map (merge r) C)
    ∙ each-cong B (λ b. ap (λ f. map f C) (fun_ext (merge-assoc a b)) ∙ sym (map-map (merge a) (merge b) C))
    ∙ sym (map_each B (λ b. map (merge b) C) (merge a)))

pub both_left : (X : List Run) → both ([] ∷ []) X ≡ X
unfolding merge
both_left X = append-nil (map (merge []) X) ∙ map-id X

pub both_right : (X : List Run) → both X ([] ∷ []) ≡ X
unfolding merge
both_right [] = refl
both_right (r ∷ X) = ap₂ ◌∷◌ (merge-nil r) (both_right X)

pub ∈-both : {r s : Run} {A B : List Run} → r ∈ A → s ∈ B → merge r s ∈ both A B
∈-both {r} {B} i j = ∈-each (λ a. map (merge a) B) i (∈-map (merge r) j)

pub both-∈ : {q : Run} (A B : List Run) → q ∈ both A B → (r : Run) × (s : Run) × (r ∈ A) × (s ∈ B) × (q ≡ merge r s)
both-∈ A B i =
    let (r, j, k) = each-∈ A (λ a. map (merge a) B) i in
    let (s, l, p) = map-∈ (merge r) B k in
    (r, s, j, l, sym p)

-- ---- what follows each letter ----

-- G says what follows letter n; all that the letters ns are followed by must fit
unfoldable pub afters : (ℕ → Rest) → List ℕ → Rest
afters G [] ts = [] ∷ []
afters G (n ∷ ns) ts = both (G n ts) (afters G ns ts)

-- a run of one tick, followed by what follows its letters
unfoldable pub goes_on : (ℕ → Rest) → Run → Rest
goes_on G [] ts = [] ∷ []
goes_on G (ns ∷ r) ts = map (λ q. ns ∷ q) (afters G ns ts)

-- the runs of K on a tick and more are its runs on the tick, gone on with
pub record Good (G : ℕ → Rest) (K : Rest) : Type 0 where
  pub to : (t : Tick) (ts : List Tick) (r : Run) → r ∈ K (t ∷ ts) → (q : Run) × (q ∈ K (t ∷ [])) × (r ∈ goes_on G q ts)
  pub from : (t : Tick) (ts : List Tick) (q r : Run) → q ∈ K (t ∷ []) → r ∈ goes_on G q ts → r ∈ K (t ∷ ts)

module _ (G : ℕ → Rest) where
  pub afters-append : (ns ms : List ℕ) (ts : List Tick) → afters G (ns ++ ms) ts ≡ both (afters G ns ts) (afters G ms ts)
  unfolding afters
  afters-append [] ms ts = sym (both_left (afters G ms ts))
  afters-append (n ∷ ns) ms ts =
      ap (both (G n ts)) (afters-append ns ms ts) ∙ sym (both-assoc (G n ts) (afters G ns ts) (afters G ms ts))

  both-map : (ns ms : List ℕ) (X Y : List Run)
      → both (map (λ q. ns ∷ q) X) (map (λ q. ms ∷ q) Y) ≡ map (λ q. (ns ++ ms) ∷ q) (both X Y)
  unfolding merge
  both-map ns ms X Y =
      each_map X (λ q. ns ∷ q) (λ r. map (merge r) (map (λ q. ms ∷ q) Y))
      ∙ each-cong X (λ x. map-map (merge (ns ∷ x)) (λ q. ms ∷ q) Y ∙ sym (map-map (λ q. (ns ++ ms) ∷ q) (merge x) Y))
      ∙ sym (map_each X (λ x. map (merge x) Y) (λ q. (ns ++ ms) ∷ q))

  pub goes_on-both : (q p : Run) (ts : List Tick) → goes_on G (merge q p) ts ≡ both (goes_on G q ts) (goes_on G p ts)
  unfolding goes_on merge
  goes_on-both [] p ts = sym (both_left (goes_on G p ts))
  goes_on-both (ns ∷ q) [] ts = sym (both_right (map (λ q. ns ∷ q) (afters G ns ts)))
  goes_on-both (ns ∷ q) (ms ∷ p) ts =
      ap (map (λ r. (ns ++ ms) ∷ r)) (afters-append ns ms ts) ∙ sym (both-map ns ms (afters G ns ts) (afters G ms ts))

  pub good-both : (K L : Rest) → Good G K → Good G L → Good G (λ ts. both (K ts) (L ts))
  good-both K L a b = record {
    to = λ t ts r i. fwd t ts r (both-∈ (K (t ∷ ts)) (L (t ∷ ts)) i);
    from = λ t ts q r i j. bwd t ts q r (both-∈ (K (t ∷ [])) (L (t ∷ [])) i) j;
  }
    where
      fwd : (t : Tick) (ts : List Tick) (r : Run) → (x : Run) × (y : Run) × (x ∈ K (t ∷ ts)) × (y ∈ L (t ∷ ts)) × (r ≡ merge x y)
          → (q : Run) × (q ∈ both (K (t ∷ [])) (L (t ∷ []))) × (r ∈ goes_on G q ts)
      fwd t ts r (x, y, i, j, p) =
          let (q, iq, xq) = a.to t ts x i in
          let (u, iu, yu) = b.to t ts y j in
          (merge q u, ∈-both iq iu, ∈-cast p (rw (goes_on-both q u ts) (∈-both xq yu)))

      bwd : (t : Tick) (ts : List Tick) (q r : Run) → (x : Run) × (y : Run) × (x ∈ K (t ∷ [])) × (y ∈ L (t ∷ [])) × (q ≡ merge x y)
          → r ∈ goes_on G q ts → r ∈ both (K (t ∷ ts)) (L (t ∷ ts))
      bwd t ts q r (x, y, i, j, p) m =
          let (v, w, iv, iw, e) = both-∈ (goes_on G x ts) (goes_on G y ts) (subst (λ l. r ∈ l) (ap (λ z. goes_on G z ts) p ∙ goes_on-both x y ts) m) in
          ∈-cast e (∈-both (a.from t ts x v i iv) (b.from t ts y w j iw))

  pub good-either : (K L : Rest) → Good G K → Good G L → Good G (either K L)
  good-either K L a b = record {
    to = λ t ts r i. fwd t ts r (append-∈ (K (t ∷ ts)) i);
    from = λ t ts q r i j. bwd t ts q r (append-∈ (K (t ∷ [])) i) j;
  }
    where
      fwd : (t : Tick) (ts : List Tick) (r : Run) → (r ∈ K (t ∷ ts)) ⊎ (r ∈ L (t ∷ ts))
          → (q : Run) × (q ∈ K (t ∷ []) ++ L (t ∷ [])) × (r ∈ goes_on G q ts)
      fwd t ts r (inl i) = let (q, j, k) = a.to t ts r i in (q, ∈-left (L (t ∷ [])) j, k)
      fwd t ts r (inr i) = let (q, j, k) = b.to t ts r i in (q, ∈-right (K (t ∷ [])) j, k)

      bwd : (t : Tick) (ts : List Tick) (q r : Run) → (q ∈ K (t ∷ [])) ⊎ (q ∈ L (t ∷ []))
          → r ∈ goes_on G q ts → r ∈ K (t ∷ ts) ++ L (t ∷ ts)
      bwd t ts q r (inl i) j = ∈-left (L (t ∷ ts)) (a.from t ts q r i j)
      bwd t ts q r (inr i) j = ∈-right (K (t ∷ ts)) (b.from t ts q r i j)

  pub good-same : (K L : Rest) → ((t : Tick) (ts : List Tick) → K (t ∷ ts) ≡ L (t ∷ ts)) → Good G L → Good G K
  good-same K L p g = record {
    to = λ t ts r i. let (q, j, k) = g.to t ts r (subst (λ x. r ∈ x) (p t ts) i) in (q, subst (λ x. q ∈ x) (sym (p t [])) j, k);
    from = λ t ts q r i j. subst (λ x. r ∈ x) (sym (p t ts)) (g.from t ts q r (subst (λ x. q ∈ x) (p t []) i) j);
  }

  pub good-anything : Good G anything
  unfolding goes_on
  good-anything = record {
    to = λ t ts r i. ([], here refl, i);
    from = λ t ts q r i j. subst (λ x. r ∈ goes_on G x ts) (one-∈ i) j;
  }

  pub afters-good : ((n : ℕ) → Good G (G n)) → (ns : List ℕ) → Good G (afters G ns)
  unfolding afters
  afters-good g [] = good-anything
  afters-good g (n ∷ ns) = good-both (G n) (afters G ns) (g n) (afters-good g ns)

  pub good-nothing : Good G nothing
  good-nothing = record {
    to = λ t ts r i. absurd (no-∈ i);
    from = λ t ts q r i j. absurd (no-∈ i);
  }

  -- G is right at each letter of e followed by K
  abbrev pub Placed : Exp → Rest → Type 0
  Placed (letter l) K = G l.number ≡ K
  Placed (seq e f) K = Placed e (runs f K) × Placed f K
  Placed (alt e f) K = Placed e K × Placed f K
  Placed (star e) K = Placed e (runs (star e) K)
  Placed (pipe e f) K = Placed e (λ us. both (K us) (runs f anything us)) × Placed f anything

  good-letter : (l : Letter) (K : Rest) → G l.number ≡ K → K [] ≡ past_the_end → Good G (runs (letter l) K)
  unfolding runs goes_on afters
  good-letter l K p k = record {
    to = λ t ts r i. let (m, j) = only-∈ (meets l t) i in
        ((l.number ∷ []) ∷ [], ∈-only (meets l t) m (rw k (here refl)), subst (λ x. r ∈ map (λ q. (l.number ∷ []) ∷ q) x) (same ts) j);
    from = λ t ts q r i j. let (m, a) = only-∈ (meets l t) i in
        ∈-only (meets l t) m (subst (λ x. r ∈ map (λ q. (l.number ∷ []) ∷ q) x) (sym (same ts)) (subst (λ x. r ∈ goes_on G x ts) (one-∈ (subst (λ x. q ∈ map (λ z. (l.number ∷ []) ∷ z) x) k a)) j));
  }
    where
      same : (ts : List Tick) → K ts ≡ both (G l.number ts) ([] ∷ [])
      same ts = sym (both_right (G l.number ts) ∙ ap (λ f. f ts) p)

  pub step : (e : Exp) (K : Rest) → Solid e → Placed e K → K [] ≡ past_the_end → (T (nullable e) → Good G K) → Good G (runs e K)
  unfolding runs nullable rounds merge
  step (letter l) K s p k g = good-letter l K p k
  step (seq e f) K s p k g =
      step e (runs f K) s.0 p.0 (ended f K k) (λ he. step f K s.1 p.1 k (λ hf. g (T_and (nullable e) (nullable f) he hf)))
  step (alt e f) K s p k g =
      good-either (runs e K) (runs f K)
      (step e K s.0 p.0 k (λ he. g (T-or-left (nullable e) (nullable f) he)))
      (step f K s.1 p.1 k (λ hf. g (T-or-right (nullable e) (nullable f) hf)))
  step (star e) K s p k g =
      good-same (runs (star e) K) (either K (runs e (runs (star e) K))) (unroll e s K k)
      (good-either K (runs e (runs (star e) K)) (g tt)
      (step e (runs (star e) K) s.1 p k (λ he. absurd (T_not (nullable e) s.0 he))))
  step (pipe e f) K s p k g =
      step e (λ us. both (K us) (runs f anything us)) s.2 p.0 (ap₂ both k (ended f anything refl)) (λ he. absurd (T_not (nullable e) s.0 he))

  -- so it is at each letter
  pub steps : (e : Exp) (K : Rest) → Solid e → Placed e K → K [] ≡ past_the_end → Good G K → (l : Letter) → l ∈ letters e → Good G (G l.number)
  unfolding letters merge
  steps (letter l) K s p k g x i = rw (one-∈ i) (rw p g)
  steps (seq e f) K s p k g x i = ⊎_elim
      (steps e (runs f K) s.0 p.0 (ended f K k) (step f K s.1 p.1 k (λ h. g)) x)
      (steps f K s.1 p.1 k g x)
      (append-∈ (letters e) i)
  steps (alt e f) K s p k g x i = ⊎_elim (steps e K s.0 p.0 k g x) (steps f K s.1 p.1 k g x) (append-∈ (letters e) i)
  steps (star e) K s p k g x i = steps e (runs (star e) K) s.1 p (ended (star e) K k) (step (star e) K s p k (λ h. g)) x i
  steps (pipe e f) K s p k g x i = ⊎_elim
      (steps e (λ us. both (K us) (runs f anything us)) s.2 p.0 (ap₂ both k (ended f anything refl))
      (good-both K (runs f anything) g (step f anything s.3 p.1 refl (λ h. good-anything))) x)
      (steps f anything s.3 p.1 refl good-anything x)
      (append-∈ (letters e) i)

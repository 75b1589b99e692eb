-- The positions are right: the machine goes on exactly where the ticks fit, and they are the letters met.
use mathlib.Core.List.{List, [], ◌∷◌, ◌++◌, map, append-nil}
use mathlib.Core.Bool.{Bool, true, false, cond}
use mathlib.Core.Option.{Option, none, some, none-ne-some, some-injective}
use mathlib.Core.Path.{◌≡◌, refl, sym, ap, ap₂, ◌∙◌, subst, fun_ext}
use mathlib.Core.Logic.{⊎_elim}
use Prim.Native.Nat.{ℕ, suc}
use lib.Dec.{T, T_not, eqb, eqb→eq, eqb_refl}
use lib.ListN.{length, get_or}
use Rattle.meaning.specs.Lists.{all, only, ◌∈◌}
use Rattle.meaning.specs.Expression.{Letter, Exp, letter, seq, alt, star, pipe, letters}
use Rattle.meaning.specs.Shape.{nullable}
use Rattle.meaning.specs.Fit.{Tick, meets, Run, Rest, past_the_end, anything, merge, both, runs}
use Rattle.meaning.specs.Positions.{Way, over, joined, Entered, met, passed, blocked, or_enter, or_pass, enter, goes_by, ask, has, leave, Positions, at_start, on}
use Rattle.meaning.proofs.ListLaws.{here, no-∈, append-∈, ∈-left, ∈-right, ∈-map, map-∈, one-∈, T_and, and_T, T-or-left, T-or-right, is_true, is_false, any-from, any-to}
use Rattle.meaning.proofs.Step.{Solid, unroll, ended, Good, goes_on, afters, Placed, afters-good, ∈-both, both-∈}
use Rattle.meaning.proofs.Entering.{goes_then}
use Rattle.meaning.proofs.OneWay.{Same, Apart, Numbered}

-- ---- the machine takes one of the runs of a tick ----

-- the letters of a run's first tick
abbrev pub front : Run → List ℕ
front [] = []
front (ns ∷ r) = ns

-- o is the front of one of the runs A, or none where there is no run
abbrev pub Leads : Option (List ℕ) → List Run → Type 0
Leads none A = (r : Run) → r ∈ A → ⊥
Leads (some ns) A = (r : Run) × (r ∈ A) × (front r ≡ ns)

-- A and B are the runs of two alternatives
leads-left : (o : Option (List ℕ)) (A B : List Run) → Leads o A → (o ≡ none → Leads none B) → Leads o (A ++ B)
leads-left none A B h g = λ r i. ⊎_elim (h r) (g refl r) (append-∈ A i)
leads-left (some ns) A B (r, i, p) g = (r, ∈-left B i, p)

leads-right : (o : Option (List ℕ)) (A B : List Run) → Leads none A → Leads o B → Leads o (A ++ B)
leads-right none A B g h = λ r i. ⊎_elim (g r) (h r) (append-∈ A i)
leads-right (some ns) A B g (r, i, p) = (r, ∈-right A i, p)

leads-or : (a b : Entered) (o : Option (List ℕ)) (A B : List Run) → Leads (goes_by a o) A → Leads (goes_by b o) B → Leads (goes_by (or_enter a b) o) (A ++ B)
leads-or (met n) b o A B (r, i, p) h = (r, ∈-left B i, p)
leads-or passed (met n) o A B g (r, i, p) = (r, ∈-right A i, p)
leads-or passed passed o A B g h = leads-left o A B g (λ q. subst (λ x. Leads x B) q h)
leads-or passed blocked o A B g h = leads-left o A B g (λ q. h)
leads-or blocked b o A B g h = leads-right (goes_by b o) A B g h

-- A follows a star, and B are the runs of its body
leads-star : (a : Entered) (o : Option (List ℕ)) (A B : List Run) → Leads o A → Leads (goes_by a none) B → Leads (goes_by (or_pass a) o) (A ++ B)
leads-star (met n) o A B g (r, i, p) = (r, ∈-right A i, p)
leads-star passed o A B g h = leads-left o A B g (λ q. h)
leads-star blocked o A B g h = leads-left o A B g (λ q. h)

front-merge : (r s : Run) → front (merge r s) ≡ front r ++ front s
unfolding merge
front-merge [] s = refl
front-merge (a ∷ r) [] = sym (append-nil a)
front-merge (a ∷ r) (b ∷ s) = refl

pub leads-both : (o p : Option (List ℕ)) (A B : List Run) → Leads o A → Leads p B → Leads (joined o p) (both A B)
leads-both none p A B g h = λ r i. let (x, y, j, k, e) = both-∈ A B i in g x j
leads-both (some ns) none A B g h = λ r i. let (x, y, j, k, e) = both-∈ A B i in h y k
leads-both (some ns) (some ms) A B (x, i, p) (y, j, q) = (merge x y, ∈-both i j, front-merge x y ∙ ap₂ ◌++◌ p q)

leads-letter : (n : ℕ) (b : Bool) (o : Option (List ℕ)) (A : List Run) → A ≡ past_the_end → Leads (goes_by (cond b (met n) blocked) o) (only b (map (λ r. (n ∷ []) ∷ r) A))
leads-letter n true o A p = ((n ∷ []) ∷ [], rw p (here refl), refl)
leads-letter n false o A p = λ r i. no-∈ i

-- asking goes as one of the runs of e followed by K, if o goes as one of K, which counts only where e can be left at once
pub ask-leads : (e : Exp) (K : Rest) (o : Option (List ℕ)) → Solid e → K [] ≡ past_the_end → (t : Tick) → (T (nullable e) → Leads o (K (t ∷ [])))
    → Leads (goes_by (enter e t) o) (runs e K (t ∷ []))
unfolding runs enter nullable merge
ask-leads (letter l) K o s k t h = leads-letter l.number (meets l t) o (K []) k
ask-leads (seq e f) K o s k t h = rw (goes_then (enter e t) (enter f t) o)
    (ask-leads e (runs f K) (goes_by (enter f t) o) s.0 (ended f K k) t
    (λ he. ask-leads f K o s.1 k t (λ hf. h (T_and (nullable e) (nullable f) he hf))))
ask-leads (alt e f) K o s k t h = leads-or (enter e t) (enter f t) o (runs e K (t ∷ [])) (runs f K (t ∷ []))
    (ask-leads e K o s.0 k t (λ he. h (T-or-left (nullable e) (nullable f) he)))
    (ask-leads f K o s.1 k t (λ hf. h (T-or-right (nullable e) (nullable f) hf)))
ask-leads (star e) K o s k t h = subst (Leads (goes_by (or_pass (enter e t)) o)) (sym (unroll e s K k t []))
    (leads-star (enter e t) o (K (t ∷ [])) (runs e (runs (star e) K) (t ∷ [])) (h tt)
    (ask-leads e (runs (star e) K) none s.1 (ended (star e) K k) t (λ he. absurd (T_not (nullable e) s.0 he))))
ask-leads (pipe e f) K o s k t h =
    ask-leads e (λ us. both (K us) (runs f anything us)) o s.2 (ap₂ both k (ended f anything refl)) t (λ he. absurd (T_not (nullable e) s.0 he))

-- what follows letter n of e followed by K
unfoldable pub after : ℕ → Exp → Rest → Rest
after n (letter l) K ts = K ts
after n (seq e f) K ts = cond (has n e) (after n e (runs f K) ts) (after n f K ts)
after n (alt e f) K ts = cond (has n e) (after n e K ts) (after n f K ts)
after n (star e) K ts = after n e (runs (star e) K) ts
after n (pipe e f) K ts = cond (has n e) (after n e (λ us. both (K us) (runs f anything us)) ts) (after n f anything ts)

leads-cond : (b : Bool) (o p : Option (List ℕ)) (A B : List Run) → Leads o A → Leads p B → Leads (cond b o p) (cond b A B)
leads-cond true o p A B g h = g
leads-cond false o p A B g h = h

-- no thread is busy: every start is let in, as in `branches`, which F17 has not judged
abbrev pub idle : Exp → Bool
idle f = false

pub leave-leads : (n : ℕ) (e : Exp) (K : Rest) (W : Way) → Solid e → K [] ≡ past_the_end → (t : Tick) → Leads (W t) (K (t ∷ []))
    → Leads (leave idle n e W t) (after n e K (t ∷ []))
unfolding after leave merge
leave-leads n (letter l) K W s k t h = h
leave-leads n (seq e f) K W s k t h = leads-cond (has n e) _ _ _ _
    (leave-leads n e (runs f K) (ask f W) s.0 (ended f K k) t (ask-leads f K (W t) s.1 k t (λ hf. h)))
    (leave-leads n f K W s.1 k t h)
leave-leads n (alt e f) K W s k t h = leads-cond (has n e) _ _ _ _ (leave-leads n e K W s.0 k t h) (leave-leads n f K W s.1 k t h)
leave-leads n (star e) K W s k t h =
    leave-leads n e (runs (star e) K) (ask (star e) W) s.1 (ended (star e) K k) t (ask-leads (star e) K (W t) s k t (λ hs. h))
leave-leads n (pipe e f) K W s k t h = leads-cond (has n e) _ _ _ _
    (leave-leads n e (λ us. both (K us) (runs f anything us)) (λ u. joined (W u) (ask f over u)) s.2 (ap₂ both k (ended f anything refl)) t
    (leads-both (W t) (ask f over t) (K (t ∷ [])) (runs f anything (t ∷ [])) h (ask-leads f anything (some []) s.3 refl t (λ hf. ([], here refl, refl)))))
    (leave-leads n f anything over s.3 refl t ([], here refl, refl))

-- ---- `after` is right at each letter ----

-- a letter of e, and one of f beside it
pub in_left : {X : Type 0} (e : Exp) (l : Letter) (a b : X) → l ∈ letters e → cond (has l.number e) a b ≡ a
in_left e l a b i = ap (λ z. cond z a b) (is_true (has l.number e) (any-from (λ x. eqb l.number x.number) i (eqb_refl l.number)))

pub in_right : {X : Type 0} (e f : Exp) (l : Letter) (a b : X) → Apart e f → l ∈ letters f → cond (has l.number e) a b ≡ b
in_right e f l a b apart i = ap (λ z. cond z a b) (is_false (has l.number e) (λ t.
    let (x, j, q) = any-to (λ x. eqb l.number x.number) (letters e) t in
    apart x l j i (sym (eqb→eq l.number x.number q))))

module _ (G : ℕ → Rest) where
  -- A is what follows some letter of e
  abbrev Follows : Exp → Rest → Type 0
  Follows e A = (l : Letter) × (l ∈ letters e) × (A ≡ G l.number)

  either-follows : (e f : Exp) (A B : Rest) (b : Bool) → Follows e A → Follows f B
      → (l : Letter) × (l ∈ letters e ++ letters f) × ((λ ts. cond b (A ts) (B ts)) ≡ G l.number)
  either-follows e f A B true (l, i, q) y = (l, ∈-left (letters f) i, q)
  either-follows e f A B false x (l, i, q) = (l, ∈-right (letters e) i, q)

  -- whatever n is, what follows it is what follows some letter
  pub somewhere : (n : ℕ) (e : Exp) (K : Rest) → Placed G e K → (l : Letter) × (l ∈ letters e) × (after n e K ≡ G l.number)
  unfolding after letters
  somewhere n (letter l) K p = (l, here refl, sym p)
  somewhere n (seq e f) K p = either-follows e f _ _ (has n e) (somewhere n e (runs f K) p.0) (somewhere n f K p.1)
  somewhere n (alt e f) K p = either-follows e f _ _ (has n e) (somewhere n e K p.0) (somewhere n f K p.1)
  somewhere n (star e) K p = somewhere n e (runs (star e) K) p
  somewhere n (pipe e f) K p =
      either-follows e f _ _ (has n e) (somewhere n e (λ us. both (K us) (runs f anything us)) p.0) (somewhere n f anything p.1)

  pub placed : (e : Exp) (K : Rest) → Numbered e → ((l : Letter) → l ∈ letters e → G l.number ≡ after l.number e K) → Placed G e K
  unfolding after letters
  placed (letter l) K a h = h l (here refl)
  placed (seq e f) K a h = (
    placed e (runs f K) a.1 (λ l i. h l (∈-left (letters f) i) ∙ fun_ext (λ ts. in_left e l _ _ i)),
    placed f K a.2 (λ l i. h l (∈-right (letters e) i) ∙ fun_ext (λ ts. in_right e f l _ _ a.0 i)),
  )
  placed (alt e f) K a h = (
    placed e K a.1 (λ l i. h l (∈-left (letters f) i) ∙ fun_ext (λ ts. in_left e l _ _ i)),
    placed f K a.2 (λ l i. h l (∈-right (letters e) i) ∙ fun_ext (λ ts. in_right e f l _ _ a.0 i)),
  )
  placed (star e) K a h = placed e (runs (star e) K) a h
  placed (pipe e f) K a h = (
    placed e (λ us. both (K us) (runs f anything us)) a.1 (λ l i. h l (∈-left (letters f) i) ∙ fun_ext (λ ts. in_left e l _ _ i)),
    placed f anything a.2 (λ l i. h l (∈-right (letters e) i) ∙ fun_ext (λ ts. in_right e f l _ _ a.0 i)),
  )

-- ---- the positions after a list of ticks ----

abbrev pub then : Option (List ℕ) → (List ℕ → Option Positions) → Option Positions
then none f = none
then (some ns) f = f ns

-- the positions after the ticks; none: some tick was bad
unfoldable pub positions_after : (Positions → Way) → Positions → List Tick → Option Positions
positions_after W x [] = some x
positions_after W x (t ∷ ts) = then (W x t) (λ ns. positions_after W (on ns) ts)

-- P judges the letters of a tick; only a way whose letters pass goes on
abbrev pub passing : (P : List ℕ → Bool) → Option (List ℕ) → Option (List ℕ)
passing P none = none
passing P (some ns) = cond (P ns) (some ns) none

passing-some : (P : List ℕ → Bool) (o : Option (List ℕ)) (ns : List ℕ) → passing P o ≡ some ns → (o ≡ some ns) × T (P ns)
passing-some P none ns p = absurd (none-ne-some ns p)
passing-some P (some ms) ns p = by (P ms) refl p
  where
    by : (b : Bool) → P ms ≡ b → cond b (some ms) none ≡ some ns → (some ms ≡ some ns) × T (P ns)
    by true e q = (q, subst (λ z. T (P z)) (some-injective ms ns q) (rw e tt))
    by false e q = absurd (none-ne-some ns q)

pub passing-yes : (P : List ℕ → Bool) (o : Option (List ℕ)) (ns : List ℕ) → o ≡ some ns → T (P ns) → passing P o ≡ some ns
passing-yes P o ns e h = ap (passing P) e ∙ ap (λ b. cond b (some ns) none) (is_true (P ns) h)

-- start is what must fit from the start, and G what must fit after each letter
abbrev pub rest : Rest → (ℕ → Rest) → Positions → Rest
rest start G at_start = start
rest start G (on ns) = afters G ns

leads-to : (A : List Run) → ((r s : Run) → r ∈ A → s ∈ A → r ≡ s) → (o : Option (List ℕ)) → Leads o A → (r : Run) → r ∈ A → o ≡ some (front r)
leads-to A same none h r i = absurd (h r i)
leads-to A same (some ns) (q, j, p) r i = ap some (sym p ∙ ap front (same q r j i))

pub then_some : (o : Option (List ℕ)) (f : List ℕ → Option Positions) (y : Positions) → then o f ≡ some y → (ns : List ℕ) × (o ≡ some ns) × (f ns ≡ some y)
then_some none f y p = absurd (none-ne-some y p)
then_some (some ns) f y p = (ns, refl, p)

front_at : (r : Run) → front r ≡ get_or r 0 []
front_at [] = refl
front_at (ns ∷ r) = refl

-- What follows each position is fixed by one tick at a time, one tick leaves it at most one way, and the machine W goes that way.
pub record Exact (start : Rest) (G : ℕ → Rest) (W : Positions → Way) : Type 0 where
  pub start_ends : start [] ≡ past_the_end
  pub G-ends : (n : ℕ) → G n [] ≡ past_the_end
  pub start_good : Good G start
  pub G-good : (n : ℕ) → Good G (G n)
  pub start_same : (t : Tick) → Same t start
  pub G-same : (n : ℕ) (t : Tick) → Same t (G n)
  pub goes : (x : Positions) (t : Tick) → Leads (W x t) (rest start G x (t ∷ []))

module _ (start : Rest) (G : ℕ → Rest) (W : Positions → Way) (ex : Exact start G W) (P : List ℕ → Bool) (P-nil : T (P [])) where
  -- the machine, whose letters must pass
  abbrev machine : Positions → Way
  machine x t = passing P (W x t)

  afters-ends : (ns : List ℕ) → afters G ns [] ≡ past_the_end
  unfolding afters merge
  afters-ends [] = refl
  afters-ends (n ∷ ns) = ap₂ both (ex.G-ends n) (afters-ends ns)

  afters-same : (ns : List ℕ) (t : Tick) → Same t (afters G ns)
  unfolding afters
  afters-same [] t r s i j = one-∈ i ∙ sym (one-∈ j)
  afters-same (n ∷ ns) t r s i j =
      let (r₁, r₂, i₁, i₂, u) = both-∈ (G n (t ∷ [])) (afters G ns (t ∷ [])) i in
      let (s₁, s₂, j₁, j₂, v) = both-∈ (G n (t ∷ [])) (afters G ns (t ∷ [])) j in
      u ∙ ap₂ merge (ex.G-same n t r₁ s₁ i₁ j₁) (afters-same ns t r₂ s₂ i₂ j₂) ∙ sym v

  rest-ends : (x : Positions) → rest start G x [] ≡ past_the_end
  rest-ends at_start = ex.start_ends
  rest-ends (on ns) = afters-ends ns

  rest-good : (x : Positions) → Good G (rest start G x)
  rest-good at_start = ex.start_good
  rest-good (on ns) = afters-good G ex.G-good ns

  rest-same : (x : Positions) (t : Tick) → Same t (rest start G x)
  rest-same at_start = ex.start_same
  rest-same (on ns) = afters-same ns

  -- so whichever run the machine takes, it goes as any other would
  way_of : (x : Positions) (t : Tick) (q : Run) → q ∈ rest start G x (t ∷ []) → W x t ≡ some (front q)
  way_of x t q i = leads-to (rest start G x (t ∷ [])) (rest-same x t) (W x t) (ex.goes x t) q i

  -- a run gone on with: its front, then a run of what follows the front's letters; it passes if these do
  go-in : (q : Run) (ts : List Tick) (r : Run) → r ∈ goes_on G q ts
      → (s : Run) × (s ∈ afters G (front q) ts) × ((k : ℕ) → get_or r (suc k) [] ≡ get_or s k []) × (T (all P r) → T (P (front q)) × T (all P s))
  unfolding goes_on afters
  go-in [] ts r i = ([], here refl, λ k. ap (λ z. get_or z (suc k) []) (one-∈ i), λ h. (P-nil, tt))
  go-in (ns ∷ q) ts r i =
      let (s, j, p) = map-∈ (λ z. ns ∷ z) (afters G ns ts) i in
      (s, j, λ k. ap (λ z. get_or z (suc k) []) (sym p), λ h. and_T (P ns) (all P s) (subst (λ z. T (all P z)) (sym p) h))

  go-out : (q : Run) (ts : List Tick) (s : Run) → s ∈ afters G (front q) ts → T (P (front q)) → T (all P s) → (r : Run) × (r ∈ goes_on G q ts) × T (all P r)
  unfolding goes_on afters
  go-out [] ts s i g h = ([], here refl, tt)
  go-out (ns ∷ q) ts s i g h = (ns ∷ s, ∈-map (λ z. ns ∷ z) i, T_and (P ns) (all P s) g h)

  same-on : (q : Run) (ts : List Tick) → ((r s : Run) → r ∈ afters G (front q) ts → s ∈ afters G (front q) ts → r ≡ s)
      → (r s : Run) → r ∈ goes_on G q ts → s ∈ goes_on G q ts → r ≡ s
  unfolding goes_on
  same-on [] ts h r s i j = one-∈ i ∙ sym (one-∈ j)
  same-on (ns ∷ q) ts h r s i j =
      let (a, k, p) = map-∈ (λ z. ns ∷ z) (afters G ns ts) i in
      let (b, l, e) = map-∈ (λ z. ns ∷ z) (afters G ns ts) j in
      sym p ∙ ap (λ z. ns ∷ z) (h a b k l) ∙ e

  -- where the machine goes on there is a run that passes
  pub runs-if : (ts : List Tick) (x y : Positions) → positions_after machine x ts ≡ some y → (r : Run) × (r ∈ rest start G x ts) × T (all P r)
  unfolding positions_after
  runs-if [] x y p = ([], rw (rest-ends x) (here refl), tt)
  runs-if (t ∷ ts) x y p =
      let (ns, a, b) = then_some (machine x t) (λ ns. positions_after machine (on ns) ts) y p in
      let (c, g) = passing-some P (W x t) ns a in
      let (q, i, e) = subst (λ o. Leads o (rest start G x (t ∷ []))) c (ex.goes x t) in
      let (s, j, h) = runs-if ts (on ns) y b in
      let (r, k, d) = go-out q ts s (subst (λ z. s ∈ afters G z ts) (sym e) j) (subst (λ z. T (P z)) (sym e) g) h in
      (r, (rest-good x).from t ts q r i k, d)

  -- where there is one the machine goes on
  pub goes-if : (ts : List Tick) (x : Positions) (r : Run) → r ∈ rest start G x ts → T (all P r) → (y : Positions) × (positions_after machine x ts ≡ some y)
  unfolding positions_after
  goes-if [] x r i h = (x, refl)
  goes-if (t ∷ ts) x r i h =
      let (q, j, m) = (rest-good x).to t ts r i in
      let (s, l, g, d) = go-in q ts r m in
      let (y, p) = goes-if ts (on (front q)) s l (d h).1 in
      (y, ap (λ o. then o (λ ns. positions_after machine (on ns) ts)) (passing-yes P (W x t) (front q) (way_of x t q j) (d h).0) ∙ p)

  -- and then its positions are the letters of the last tick
  pub positions-if : (ts : List Tick) (t : Tick) (x : Positions) (r : Run) → r ∈ rest start G x (ts ++ t ∷ []) → T (all P r)
      → positions_after machine x (ts ++ t ∷ []) ≡ some (on (get_or r (length ts) []))
  unfolding positions_after
  positions-if [] t x r i h =
      ap (λ o. then o (λ ns. some (on ns))) (passing-yes P (W x t) (front r) (way_of x t r i) (front-passes r h)) ∙ ap (λ z. some (on z)) (front_at r)
    where
      front-passes : (r : Run) → T (all P r) → T (P (front r))
      front-passes [] h = P-nil
      front-passes (ns ∷ r) h = (and_T (P ns) (all P r) h).0
  positions-if (u ∷ ts) t x r i h =
      let (q, j, m) = (rest-good x).to u (ts ++ t ∷ []) r i in
      let (s, l, g, d) = go-in q (ts ++ t ∷ []) r m in
      ap (λ o. then o (λ ns. positions_after machine (on ns) (ts ++ t ∷ []))) (passing-yes P (W x u) (front q) (way_of x u q j) (d h).0)
      ∙ positions-if ts t (on (front q)) s l (d h).1
      ∙ ap (λ z. some (on z)) (sym (g (length ts)))

  -- there is only one run, though several branches may have it
  pub one-run : (ts : List Tick) (x : Positions) (r s : Run) → r ∈ rest start G x ts → s ∈ rest start G x ts → r ≡ s
  one-run [] x r s i j = one-∈ (rw (rest-ends x) at i) ∙ sym (one-∈ (rw (rest-ends x) at j))
  one-run (t ∷ ts) x r s i j =
      let (q, a, m) = (rest-good x).to t ts r i in
      let (p, b, n) = (rest-good x).to t ts s j in
      same-on q ts (one-run ts (on (front q))) r s m (subst (λ z. s ∈ goes_on G z ts) (rest-same x t p q b a) n)

-- Positions as sets: only which letters are active counts, and they are the monitor's.
use mathlib.Core.List.{List, [], ◌∷◌, ◌++◌}
use mathlib.Core.Bool.{Bool, true, false, cond}
use mathlib.Core.Option.{Option, none, some, none-ne-some, some-injective}
use mathlib.Core.Path.{◌≡◌, refl, sym, ap, ap₂, ◌∙◌, subst, fun_ext}
use mathlib.Core.Logic.{◌⊎◌, inl, inr, ⊎_elim}
use Prim.Native.Nat.{ℕ}
use lib.Dec.{T, eqb, eqb→eq, eqb_refl}
use Rattle.meaning.specs.Lists.{only, member, ◌∈◌}
use Rattle.meaning.specs.Expression.{Letter, Exp, letter, seq, alt, star, pipe, letters, own}
use Rattle.meaning.specs.Fit.{Tick, meets}
use Rattle.meaning.specs.Positions.{Way, stuck, over, joined, Entered, met, passed, blocked, then_enter, or_enter, or_pass, enter, goes_by, ask, has, under_way, busy, begin, leave, Positions, at_start, on, go_all, go, kept}
use Rattle.meaning.proofs.ListLaws.{here, there, cons-∈, no-∈, append-∈, ∈-left, ∈-right, ∈-cast, one-∈, each-∈, ∈-each, ∈-only, only-∈, any-from, any-to, same_truth}
use Rattle.meaning.proofs.OneWay.{Has}
use Rattle.meaning.proofs.Threads.{own-letters}

-- ---- sets of positions ----

abbrev pub Within : List ℕ → List ℕ → Type 0
Within ns ms = (k : ℕ) → k ∈ ns → k ∈ ms

-- the same set of positions
abbrev pub Alike : Positions → Positions → Type 0
Alike at_start at_start = Unit {0}
Alike at_start (on ms) = ⊥
Alike (on ns) at_start = ⊥
Alike (on ns) (on ms) = Within ns ms × Within ms ns

pub joined-some : (o q : Option (List ℕ)) (ns : List ℕ) → joined o q ≡ some ns → (cs : List ℕ) × (bs : List ℕ) × (o ≡ some cs) × (q ≡ some bs) × (cs ++ bs ≡ ns)
joined-some none q ns p = absurd (none-ne-some ns p)
joined-some (some cs) none ns p = absurd (none-ne-some ns p)
joined-some (some cs) (some bs) ns p = (cs, bs, refl, refl, some-injective (cs ++ bs) ns p)

module _ (W : ℕ → Way) (t : Tick) where
  -- each position's letters are among all
  each_goes : (ns os : List ℕ) (n : ℕ) → go_all W ns t ≡ some os → n ∈ ns → (qs : List ℕ) × (W n t ≡ some qs) × Within qs os
  unfolding go_all
  each_goes [] os n p i = absurd (no-∈ i)
  each_goes (m ∷ ns) os n p i =
      let (cs, bs, a, b, e) = joined-some (W m t) (go_all W ns t) os p in
      pick cs bs a e (each_goes ns bs n b) (cons-∈ i)
    where
      pick : (cs bs : List ℕ) → W m t ≡ some cs → cs ++ bs ≡ os → (n ∈ ns → (qs : List ℕ) × (W n t ≡ some qs) × Within qs bs)
          → (n ≡ m) ⊎ (n ∈ ns) → (qs : List ℕ) × (W n t ≡ some qs) × Within qs os
      pick cs bs a e ih (inl q) = (cs, ap (λ z. W z t) q ∙ a, λ k j. subst (λ l. k ∈ l) e (∈-left bs j))
      pick cs bs a e ih (inr j) = let (qs, c, w) = ih j in (qs, c, λ k l. subst (λ l. k ∈ l) e (∈-right cs (w k l)))

  -- and each of all is some position's
  some-goes : (ns os : List ℕ) (k : ℕ) → go_all W ns t ≡ some os → k ∈ os → (n : ℕ) × (qs : List ℕ) × (n ∈ ns) × (W n t ≡ some qs) × (k ∈ qs)
  unfolding go_all
  some-goes [] os k p i = absurd (no-∈ (subst (λ l. k ∈ l) (sym (some-injective [] os p)) i))
  some-goes (m ∷ ns) os k p i =
      let (cs, bs, a, b, e) = joined-some (W m t) (go_all W ns t) os p in
      pick cs bs a (some-goes ns bs k b) (append-∈ cs (subst (λ l. k ∈ l) (sym e) i))
    where
      pick : (cs bs : List ℕ) → W m t ≡ some cs → (k ∈ bs → (n : ℕ) × (qs : List ℕ) × (n ∈ ns) × (W n t ≡ some qs) × (k ∈ qs))
          → (k ∈ cs) ⊎ (k ∈ bs) → (n : ℕ) × (qs : List ℕ) × (n ∈ m ∷ ns) × (W n t ≡ some qs) × (k ∈ qs)
      pick cs bs a ih (inl j) = (m, cs, here refl, a, j)
      pick cs bs a ih (inr j) = let (n, qs, l, c, w) = ih j in (n, qs, there l, c, w)

  all_go : (ns : List ℕ) → ((n : ℕ) → n ∈ ns → (qs : List ℕ) × (W n t ≡ some qs)) → (os : List ℕ) × (go_all W ns t ≡ some os)
  unfolding go_all
  all_go [] h = ([], refl)
  all_go (m ∷ ns) h =
      let (cs, a) = h m (here refl) in
      let (bs, b) = all_go ns (λ n i. h n (there i)) in
      (cs ++ bs, ap₂ joined a b)

  -- fewer positions: fewer letters
  fewer-go : (ns ms os : List ℕ) → Within ms ns → go_all W ns t ≡ some os → (qs : List ℕ) × (go_all W ms t ≡ some qs) × Within qs os
  fewer-go ns ms os h p =
      let (qs, q) = all_go ms (λ n i. let (cs, a, w) = each_goes ns os n p (h n i) in (cs, a)) in (
        qs,
        q,
        λ k i.
            let (n, cs, j, a, l) = some-goes ms qs k q i in
            let (bs, b, w) = each_goes ns os n p (h n j) in
            w k (subst (λ z. k ∈ z) (some-injective cs bs (sym a ∙ b)) l),
      )

-- the same threads are busy
busy-alike : (ns ms : List ℕ) → Within ns ms × Within ms ns → busy ms ≡ busy ns
busy-alike ns ms h = fun_ext (λ f. same_truth (busy ms f) (busy ns f)
    (λ t. let (n, i, u) = any-to (λ n. under_way n f) ms t in any-from (λ n. under_way n f) (h.1 n i) u)
    (λ t. let (n, i, u) = any-to (λ n. under_way n f) ns t in any-from (λ n. under_way n f) (h.0 n i) u))

-- the same set of positions goes on alike
pub go-alike : (m : Exp) (x y : Positions) (t : Tick) (os : List ℕ) → Alike x y → go m x t ≡ some os → (qs : List ℕ) × (go m y t ≡ some qs) × Within qs os × Within os qs
unfolding go
go-alike m at_start at_start t os h p = (os, p, λ k i. i, λ k i. i)
go-alike m at_start (on ms) t os h p = absurd h
go-alike m (on ns) at_start t os h p = absurd h
go-alike m (on ns) (on ms) t os h p =
    let W : ℕ → Way = λ n. leave (busy ns) n (star m) stuck in
    let (qs, q, w) = fewer-go W t ns ms os h.1 p in
    let (rs, r, v) = fewer-go W t ms ns qs h.0 q in (
      qs,
      ap (λ B. go_all (λ n. leave B n (star m) stuck) ms t) (busy-alike ns ms h) ∙ q,
      w,
      λ k i. v k (subst (λ z. k ∈ z) (some-injective os rs (sym p ∙ r)) i),
    )

pub alike-back : (x y : Positions) → Alike x y → Alike y x
alike-back at_start at_start h = tt
alike-back at_start (on ms) h = absurd h
alike-back (on ns) at_start h = absurd h
alike-back (on ns) (on ms) h = (h.1, h.0)

-- ---- the letters that the machine reaches are the monitor's ----

abbrev Inside : Exp → Option (List ℕ) → Type 0
Inside m o = (ns : List ℕ) → o ≡ some ns → (k : ℕ) → k ∈ ns → Has k m

inside-none : (m : Exp) → Inside m none
inside-none m ns p = absurd (none-ne-some ns p)

inside-over : (m : Exp) → Inside m (some [])
inside-over m ns p k i = absurd (no-∈ (subst (λ l. k ∈ l) (sym (some-injective [] ns p)) i))

inside-joined : (m : Exp) (o q : Option (List ℕ)) → Inside m o → Inside m q → Inside m (joined o q)
inside-joined m o q a b ns p k i =
    let (cs, bs, c, d, e) = joined-some o q ns p in
    ⊎_elim (a cs c k) (b bs d k) (append-∈ cs (subst (λ l. k ∈ l) (sym e) i))

inside-cond : (m : Exp) (b : Bool) (o q : Option (List ℕ)) → Inside m o → Inside m q → Inside m (cond b o q)
inside-cond m true o q c d = c
inside-cond m false o q c d = d

-- the letters of e are the monitor's
abbrev Part : Exp → Exp → Type 0
Part m e = (l : Letter) → l ∈ letters e → Has l.number m

-- what Q says of each of a part's own letters it says of one that entering met
abbrev pub MetIn : (Q : ℕ → Type 0) → Entered → Type 0
MetIn Q (met n) = Q n
MetIn Q passed = Unit {0}
MetIn Q blocked = Unit {0}

module _ (Q : ℕ → Type 0) where
  met-letter : (n : ℕ) (b : Bool) → Q n → MetIn Q (cond b (met n) blocked)
  met-letter n true h = h
  met-letter n false h = tt

  met-then : (a b : Entered) → MetIn Q a → MetIn Q b → MetIn Q (then_enter a b)
  met-then (met n) b p q = p
  met-then passed b p q = q
  met-then blocked b p q = tt

  met-or : (a b : Entered) → MetIn Q a → MetIn Q b → MetIn Q (or_enter a b)
  met-or (met n) b p q = p
  met-or passed (met n) p q = q
  met-or passed passed p q = tt
  met-or passed blocked p q = tt
  met-or blocked b p q = q

  met-star : (a : Entered) → MetIn Q a → MetIn Q (or_pass a)
  met-star (met n) p = p
  met-star passed p = tt
  met-star blocked p = tt

  pub enter-own : (e : Exp) (t : Tick) → ((l : Letter) → l ∈ own e → Q l.number) → MetIn Q (enter e t)
  unfolding enter own
  enter-own (letter l) t h = met-letter l.number (meets l t) (h l (here refl))
  enter-own (seq e f) t h = met-then (enter e t) (enter f t) (enter-own e t (λ l i. h l (∈-left (own f) i))) (enter-own f t (λ l i. h l (∈-right (own e) i)))
  enter-own (alt e f) t h = met-or (enter e t) (enter f t) (enter-own e t (λ l i. h l (∈-left (own f) i))) (enter-own f t (λ l i. h l (∈-right (own e) i)))
  enter-own (star e) t h = met-star (enter e t) (enter-own e t h)
  enter-own (pipe e f) t h = enter-own e t h

goes-inside : (m : Exp) (a : Entered) (o : Option (List ℕ)) → MetIn (λ n. Has n m) a → Inside m o → Inside m (goes_by a o)
goes-inside m (met n) o h g = λ ns p k i. subst (λ z. Has z m) (sym (one-∈ (subst (λ z. k ∈ z) (sym (some-injective (n ∷ []) ns p)) i))) h
goes-inside m passed o h g = g
goes-inside m blocked o h g = inside-none m

ask-inside : (m e : Exp) (K : Way) (t : Tick) → Part m e → Inside m (K t) → Inside m (ask e K t)
ask-inside m e K t h k = goes-inside m (enter e t) (K t) (enter-own (λ n. Has n m) e t (λ l i. h l (own-letters e l i))) k

leave-inside : (B : Exp → Bool) (n : ℕ) (m e : Exp) (K : Way) (t : Tick) → Part m e → Inside m (K t) → Inside m (leave B n e K t)
unfolding leave letters
leave-inside B n m (letter l) K t h k = k
leave-inside B n m (seq e f) K t h k = inside-cond m (has n e) _ _
    (leave-inside B n m e (ask f K) t (λ l i. h l (∈-left (letters f) i)) (ask-inside m f K t (λ l i. h l (∈-right (letters e) i)) k))
    (leave-inside B n m f K t (λ l i. h l (∈-right (letters e) i)) k)
leave-inside B n m (alt e f) K t h k = inside-cond m (has n e) _ _
    (leave-inside B n m e K t (λ l i. h l (∈-left (letters f) i)) k) (leave-inside B n m f K t (λ l i. h l (∈-right (letters e) i)) k)
leave-inside B n m (star e) K t h k = leave-inside B n m e (ask (star e) K) t h (ask-inside m (star e) K t h k)
leave-inside B n m (pipe e f) K t h k = inside-cond m (has n e) _ _
    (leave-inside B n m e (λ u. joined (K u) (begin B f u)) t (λ l i. h l (∈-left (letters f) i))
    (inside-joined m (K t) (begin B f t) k (inside-cond m (B f) none (ask f over t) (inside-none m) (ask-inside m f over t (λ l i. h l (∈-right (letters e) i)) (inside-over m)))))
    (leave-inside B n m f over t (λ l i. h l (∈-right (letters e) i)) (inside-over m))

pub go-inside : (m : Exp) (x : Positions) (t : Tick) → Inside m (go m x t)
unfolding go letters
go-inside m at_start t = ask-inside m (star m) stuck t (λ l i. (l, i, refl)) (inside-none m)
go-inside m (on ms) t = each-inside ms
  where
    each-inside : (ns : List ℕ) → Inside m (go_all (λ n. leave (busy ms) n (star m) stuck) ns t)
    each-inside ns os p k i =
        let (n, qs, j, q, l) = some-goes (λ n. leave (busy ms) n (star m) stuck) t ns os k p i in
        leave-inside (busy ms) n m (star m) stuck t (λ l i. (l, i, refl)) (inside-none m) qs q k l

pub kept_in : (m : Exp) (ns : List ℕ) (k : ℕ) → k ∈ kept m ns → k ∈ ns
unfolding kept
kept_in m ns k i =
    let (l, j, p) = each-∈ (letters m) (λ l. only (member l.number ns) (l.number ∷ [])) i in
    let (t, q) = only-∈ (member l.number ns) p in
    let (n, a, e) = any-to (eqb l.number) ns t in
    ∈-cast (one-∈ q ∙ eqb→eq l.number n e) a

pub in_kept : (m : Exp) (ns : List ℕ) (k : ℕ) → Has k m → k ∈ ns → k ∈ kept m ns
unfolding kept
in_kept m ns k (l, j, p) i =
    ∈-each (λ l. only (member l.number ns) (l.number ∷ [])) j
    (∈-only (member l.number ns) (any-from (eqb l.number) i (subst (λ z. T (eqb l.number z)) p (eqb_refl l.number))) (here (sym p)))

-- What specs/Touched says over branches, said without them: a monitor touches at its start what `touches_at_start` of proofs/Counting lists (`touches-start`), and behind some ticks
-- what `touches_after` lists of each letter met at the last of them (`touches-met`).
use mathlib.Core.List.{List, [], ◌∷◌, ◌++◌, map, append-nil, map-append, map-map}
use mathlib.Core.Bool.{Bool, true, false}
use mathlib.Core.Path.{◌≡◌, refl, sym, ap, ap₂, ◌∙◌, subst}
use mathlib.Core.Logic.{⊎_elim}
use Prim.Native.Nat.{ℕ, zero, suc, ◌+◌}
use native.Mathlib.Omega.{arith}
use lib.ListN.{length, get_or, length-append}
use Rattle.meaning.specs.Lists.{each, only, keep, ◌∈◌}
use Rattle.meaning.specs.Expression.{Letter, Exp, letter, seq, alt, star, pipe, letters, rows}
use Rattle.meaning.specs.Fit.{Tick, meets, Run, Rest as Runs, past_the_end, anything as any_run, nothing as no_run, merge, both as both_runs, either as either_runs, rounds as round_runs, runs, branches as branch_runs, unoccupied, met}
use Rattle.meaning.specs.Touched.{Touch, asked, left, Branch, Rest, standing, beside, both, either, noting, anything, nothing, rounds, having, reach, branches, touches}
use Rattle.meaning.proofs.ListLaws.{here, there, no-∈, append-∈, ∈-left, ∈-right, map-∈, one-∈, only-∈, each-∈, each_append, each-cong, each_map, map_each}
use Rattle.meaning.proofs.OneWay.{Numbered}
use Rattle.meaning.proofs.Active.{in_left, in_right}
use Rattle.meaning.proofs.Counting.{asking, leaving, touches_at_start, touches_after}

-- ---- where the words end ----

-- X is what K touches there
abbrev Border : Rest → List Touch → Type 0
Border K X = K [] ≡ standing X

-- two at once
border-both : {A B : List Branch} {X Y : List Touch} → A ≡ standing X → B ≡ standing Y → both A B ≡ standing (X ++ Y)
unfolding merge
border-both a b = ap₂ both a b

-- a touch more
border-noting : (x : Touch) (K : Rest) {X : List Touch} → Border K X → Border (noting x K) (x ∷ X)
unfolding merge
border-noting x K k = ap (both (standing (x ∷ []))) k

-- one round tells what all do
border-rounds : (body : Rest → Rest) (K : Rest) {X Y : List Touch} → Border K X → Border (body K) Y → (n : ℕ) → Border (rounds body K n) (X ++ Y)
unfolding rounds
border-rounds body K k b zero = border-both k b
border-rounds body K k b (suc n) = border-both k b

-- e is asked, and what is behind it touched where it is left at once
border : (r : ℕ) (e : Exp) (K : Rest) {X : List Touch} → Border K X → Border (reach r e K) (asking r e X)
unfolding reach asking
border r (letter l) K k = refl
border r (seq e f) K k =
    let L = reach (suc r + rows e) f (noting (left r) K) in
    border-noting (asked r) (reach (suc r) e L) (border (suc r) e L (border (suc r + rows e) f (noting (left r) K) (border-noting (left r) K k)))
border r (alt e f) K k =
    let L = noting (left r) K in
    let l = border-noting (left r) K k in
    border-noting (asked r) (either (reach (suc r) e L) (reach (suc r + rows e) f L)) (border-both (border (suc r) e L l) (border (suc r + rows e) f L l))
border r (star e) K k =
    let L = noting (left r) K in
    let l = border-noting (left r) K k in
    border-noting (asked r) (rounds (reach (suc r) e) L 0) (border-rounds (reach (suc r) e) L l (border (suc r) e L l) 0)
border r (pipe e f) K k =
    let L : Rest = λ us. both (noting (left r) K us) (reach (suc r + rows e) f anything us) in
    border-noting (asked r) (reach (suc r) e L) (border (suc r) e L (border-both (border-noting (left r) K k) (border (suc r + rows e) f anything refl)))

-- a monitor's rounds
border-monitor : (m : Exp) (n : ℕ) → Border (rounds (reach 0 m) nothing n) (asking 0 m [])
border-monitor m n = border-rounds (reach 0 m) nothing refl (border 0 m nothing refl) n

-- What a monitor touches before its first tick.
pub touches-start : (m : Exp) → touches m [] ≡ touches_at_start m
touches-start m = ap (λ A. each (keep (λ b. unoccupied m b.run) A) (λ b. b.touches)) (border-monitor m 0) ∙ append-nil (asking 0 m [])

-- ---- without the touches the branches are those of Fit ----

-- what the branches did
abbrev pub ran : List Branch → List Run
ran A = map (λ b. b.run) A

-- K does what M does
abbrev Erased : Rest → Runs → Type 0
Erased K M = (us : List Tick) → ran (K us) ≡ M us

-- where the words end
erased-end : (A : List Branch) {X : List Touch} → A ≡ standing X → ran A ≡ past_the_end
erased-end A a = ap ran a

-- two at once
erased-both : (A B : List Branch) → ran (both A B) ≡ both_runs (ran A) (ran B)
erased-both A B =
    map_each A (λ a. map (beside a) B) (λ b. b.run)
    ∙ each-cong A (λ a. map-map (λ b. b.run) (beside a) B ∙ sym (map-map (merge a.run) (λ b. b.run) B))
    ∙ sym (each_map A (λ a. a.run) (λ s. map (merge s) (ran B)))

-- one or the other
erased-either : (K L : Rest) (M N : Runs) {X Y : List Touch} → Border K X → Border L Y → Erased K M → Erased L N → Erased (either K L) (either_runs M N)
erased-either K L M N k l g h [] = erased-end (both (K []) (L [])) (border-both k l)
erased-either K L M N k l g h (t ∷ ts) = map-append (λ b. b.run) (K (t ∷ ts)) (L (t ∷ ts)) ∙ ap₂ ◌++◌ (g (t ∷ ts)) (h (t ∷ ts))

-- a touch is nothing done
erased-noting : (x : Touch) (K : Rest) (M : Runs) {X : List Touch} → Border K X → Erased K M → Erased (noting x K) M
erased-noting x K M k g [] = erased-end (noting x K []) (border-noting x K k) ∙ sym (erased-end (K []) k) ∙ g []
erased-noting x K M k g (t ∷ ts) = g (t ∷ ts)

-- so does e with them behind it
abbrev Erases : ℕ → Exp → Type 0
Erases r e = (K : Rest) (M : Runs) (X : List Touch) → Border K X → Erased K M → Erased (reach r e K) (runs e M)

-- rounds of it
erased-rounds : (r : ℕ) (e : Exp) → Erases r e → (K : Rest) (M : Runs) (X : List Touch) → Border K X → Erased K M → (n : ℕ) → Erased (rounds (reach r e) K n) (round_runs (runs e) M n)
unfolding rounds round_runs
erased-rounds r e ih K M X k g zero [] = erased-end (both (K []) (reach r e K [])) (border-both k (border r e K k)) ∙ sym (erased-end (K []) k) ∙ g []
erased-rounds r e ih K M X k g zero (t ∷ ts) = g (t ∷ ts)
erased-rounds r e ih K M X k g (suc n) [] = erased-end (both (K []) (reach r e K [])) (border-both k (border r e K k))
erased-rounds r e ih K M X k g (suc n) (t ∷ ts) =
    map-append (λ b. b.run) (K (t ∷ ts)) (reach r e (rounds (reach r e) K n) (t ∷ ts))
    ∙ ap₂ ◌++◌ (g (t ∷ ts))
    (ih (rounds (reach r e) K n) (round_runs (runs e) M n) (X ++ asking r e X) (border-rounds (reach r e) K k (border r e K k) n) (erased-rounds r e ih K M X k g n) (t ∷ ts))

-- the branches whose first tick a letter had
erased-only : (l : Letter) (b : Bool) (A : List Branch) → ran (only b (map (having l) A)) ≡ only b (map (λ s. (l.number ∷ []) ∷ s) (ran A))
erased-only l true A = map-map (λ b. b.run) (having l) A ∙ sym (map-map (λ s. (l.number ∷ []) ∷ s) (λ b. b.run) A)
erased-only l false A = refl

-- a letter
erased-letter : (r : ℕ) (l : Letter) → Erases r (letter l)
unfolding reach runs
erased-letter r l K M X k g [] = refl
erased-letter r l K M X k g (t ∷ ts) =
    erased-only l (meets l t) (noting (left r) K ts) ∙ ap (λ A. only (meets l t) (map (λ s. (l.number ∷ []) ∷ s) A)) (erased-noting (left r) K M k g ts)

-- every e
erased : (r : ℕ) (e : Exp) → Erases r e
unfolding reach runs
erased r (letter l) K M X k g = erased-letter r l K M X k g
erased r (seq e f) K M X k g =
    let L = noting (left r) K in
    let N = reach (suc r + rows e) f L in
    let l = border-noting (left r) K k in
    let n = border (suc r + rows e) f L l in
    erased-noting (asked r) (reach (suc r) e N) (runs e (runs f M)) (border (suc r) e N n)
    (erased (suc r) e N (runs f M) (asking (suc r + rows e) f (left r ∷ X)) n (erased (suc r + rows e) f L M (left r ∷ X) l (erased-noting (left r) K M k g)))
erased r (alt e f) K M X k g =
    let L = noting (left r) K in
    let l = border-noting (left r) K k in
    let h = erased-noting (left r) K M k g in
    let a = border (suc r) e L l in
    let b = border (suc r + rows e) f L l in
    erased-noting (asked r) (either (reach (suc r) e L) (reach (suc r + rows e) f L)) (either_runs (runs e M) (runs f M)) (border-both a b)
    (erased-either (reach (suc r) e L) (reach (suc r + rows e) f L) (runs e M) (runs f M) a b (erased (suc r) e L M (left r ∷ X) l h) (erased (suc r + rows e) f L M (left r ∷ X) l h))
erased r (star e) K M X k g =
    let L = noting (left r) K in
    let l = border-noting (left r) K k in
    erased-noting (asked r) (λ us. rounds (reach (suc r) e) L (length us) us) (λ us. round_runs (runs e) M (length us) us) (border-rounds (reach (suc r) e) L l (border (suc r) e L l) 0)
    (λ us. erased-rounds (suc r) e (erased (suc r) e) L M (left r ∷ X) l (erased-noting (left r) K M k g) (length us) us)
erased r (pipe e f) K M X k g =
    let L = noting (left r) K in
    let N = reach (suc r + rows e) f anything in
    let n = border-both (border-noting (left r) K k) (border (suc r + rows e) f anything refl) in
    erased-noting (asked r) (reach (suc r) e (λ us. both (L us) (N us))) (runs e (λ us. both_runs (M us) (runs f any_run us))) (border (suc r) e (λ us. both (L us) (N us)) n)
    (erased (suc r) e (λ us. both (L us) (N us)) (λ us. both_runs (M us) (runs f any_run us)) ((left r ∷ X) ++ asking (suc r + rows e) f []) n
    (λ us. erased-both (L us) (N us) ∙ ap₂ both_runs (erased-noting (left r) K M k g us) (erased (suc r + rows e) f anything any_run [] refl (λ vs. refl) us)))

-- the branches of a monitor
pub same-branches : (m : Exp) (ts : List Tick) → ran (branches m ts) ≡ branch_runs m ts
unfolding runs
same-branches m ts = erased-rounds 0 m (erased 0 m) nothing no_run [] refl none (length ts) ts
  where
    none : Erased nothing no_run
    none [] = refl
    none (t ∷ ts) = refl

-- ---- a branch touches what its letters at the last tick do ----

-- at tick k of two runs at once are the letters of both
both_at : (q s : Run) (k : ℕ) → get_or (merge q s) k [] ≡ get_or q k [] ++ get_or s k []
unfolding merge
both_at [] s k = refl
both_at (a ∷ q) [] zero = sym (append-nil a)
both_at (a ∷ q) [] (suc k) = sym (append-nil (get_or q k []))
both_at (a ∷ q) (b ∷ s) zero = refl
both_at (a ∷ q) (b ∷ s) (suc k) = both_at q s k

-- F says what a letter touches
module _ (F : ℕ → List Touch) where
  -- b touches what its letters at tick k do
  abbrev Tells : ℕ → Branch → Type 0
  Tells k b = b.touches ≡ each (get_or b.run k []) F

  -- so does each branch of K at its last tick
  abbrev Told : Rest → Type 0
  Told K = (t : Tick) (ts : List Tick) (b : Branch) → b ∈ K (t ∷ ts) → Tells (length ts) b

  -- two branches at once
  tells-beside : (k : ℕ) (a b : Branch) → Tells k a → Tells k b → Tells k (beside a b)
  tells-beside k a b p q =
      ap₂ ◌++◌ p q ∙ sym (each_append (get_or a.run k []) (get_or b.run k []) F) ∙ ap (λ ns. each ns F) (sym (both_at a.run b.run k))

  -- two at once
  told-both : (K L : Rest) → Told K → Told L → Told (λ us. both (K us) (L us))
  told-both K L g h t ts b i =
      let (a, j, m) = each-∈ (K (t ∷ ts)) (λ a. map (beside a) (L (t ∷ ts))) i in
      let (c, n, p) = map-∈ (beside a) (L (t ∷ ts)) m in
      subst (Tells (length ts)) p (tells-beside (length ts) a c (g t ts a j) (h t ts c n))

  -- one or the other
  told-either : (K L : Rest) → Told K → Told L → Told (either K L)
  told-either K L g h t ts b i = ⊎_elim (g t ts b) (h t ts b) (append-∈ (K (t ∷ ts)) i)

  -- behind a thread nothing is touched
  told-anything : Told anything
  told-anything t ts b i = subst (Tells (length ts)) (sym (one-∈ i)) refl

  -- rounds of e, if e keeps it
  told-rounds : (r : ℕ) (e : Exp) (K : Rest) {X : List Touch} → Border K X → Told K
      → ((L : Rest) → Border L (X ++ asking r e X) → Told L → Told (reach r e L)) → (n : ℕ) → Told (rounds (reach r e) K n)
  unfolding rounds
  told-rounds r e K k g h zero t ts b i = g t ts b i
  told-rounds r e K k g h (suc n) t ts b i = ⊎_elim (g t ts b)
      (h (rounds (reach r e) K n) (border-rounds (reach r e) K k (border r e K k) n) (told-rounds r e K k g h n) t ts b)
      (append-∈ (K (t ∷ ts)) i)

  -- F is right at each letter of e, whose row is r, with X touched where e is left: as `leaving`
  abbrev Right : ℕ → Exp → List Touch → Type 0
  Right r (letter l) X = F l.number ≡ left r ∷ X
  Right r (seq e f) X = Right (suc r) e (asking (suc r + rows e) f (left r ∷ X)) × Right (suc r + rows e) f (left r ∷ X)
  Right r (alt e f) X = Right (suc r) e (left r ∷ X) × Right (suc r + rows e) f (left r ∷ X)
  Right r (star e) X = Right (suc r) e ((left r ∷ X) ++ asking (suc r) e (left r ∷ X))
  Right r (pipe e f) X = Right (suc r) e ((left r ∷ X) ++ asking (suc r + rows e) f []) × Right (suc r + rows e) f []

  -- `leaving` is right, since letters are numbered apart
  right : (r : ℕ) (e : Exp) (X : List Touch) → Numbered e → ((l : Letter) → l ∈ letters e → F l.number ≡ leaving l.number r e X) → Right r e X
  unfolding leaving letters
  right r (letter l) X a h = h l (here refl)
  right r (seq e f) X a h = (
    right (suc r) e (asking (suc r + rows e) f (left r ∷ X)) a.1 (λ l i. h l (∈-left (letters f) i) ∙ in_left e l _ _ i),
    right (suc r + rows e) f (left r ∷ X) a.2 (λ l i. h l (∈-right (letters e) i) ∙ in_right e f l _ _ a.0 i),
  )
  right r (alt e f) X a h = (
    right (suc r) e (left r ∷ X) a.1 (λ l i. h l (∈-left (letters f) i) ∙ in_left e l _ _ i),
    right (suc r + rows e) f (left r ∷ X) a.2 (λ l i. h l (∈-right (letters e) i) ∙ in_right e f l _ _ a.0 i),
  )
  right r (star e) X a h = right (suc r) e ((left r ∷ X) ++ asking (suc r) e (left r ∷ X)) a h
  right r (pipe e f) X a h = (
    right (suc r) e ((left r ∷ X) ++ asking (suc r + rows e) f []) a.1 (λ l i. h l (∈-left (letters f) i) ∙ in_left e l _ _ i),
    right (suc r + rows e) f [] a.2 (λ l i. h l (∈-right (letters e) i) ∙ in_right e f l _ _ a.0 i),
  )

  -- a letter, which had the last tick or one before it
  told-letter : (r : ℕ) (l : Letter) (K : Rest) (X : List Touch) → F l.number ≡ left r ∷ X → Border K X → Told K → Told (reach r (letter l) K)
  unfolding reach
  told-letter r l K X p k g t [] b i =
      let (m, j) = only-∈ (meets l t) i in
      let (c, n, q) = map-∈ (having l) (noting (left r) K []) j in
      subst (Tells 0) (ap (having l) (sym (one-∈ (subst (λ A. c ∈ A) (border-noting (left r) K k) n))) ∙ q) (sym p ∙ sym (append-nil (F l.number)))
  told-letter r l K X p k g t (u ∷ us) b i =
      let (m, j) = only-∈ (meets l t) i in
      let (c, n, q) = map-∈ (having l) (K (u ∷ us)) j in
      subst (Tells (suc (length us))) q (g u us c n)

  -- every e, with F right at its letters
  told : (r : ℕ) (e : Exp) (K : Rest) (X : List Touch) → Right r e X → Border K X → Told K → Told (reach r e K)
  unfolding reach
  told r (letter l) K X p k g = told-letter r l K X p k g
  told r (seq e f) K X p k g =
      let k₁ = border-noting (left r) K k in
      told (suc r) e (reach (suc r + rows e) f (noting (left r) K)) (asking (suc r + rows e) f (left r ∷ X)) p.0 (border (suc r + rows e) f (noting (left r) K) k₁)
      (told (suc r + rows e) f (noting (left r) K) (left r ∷ X) p.1 k₁ g)
  told r (alt e f) K X p k g =
      let k₁ = border-noting (left r) K k in
      told-either (reach (suc r) e (noting (left r) K)) (reach (suc r + rows e) f (noting (left r) K))
      (told (suc r) e (noting (left r) K) (left r ∷ X) p.0 k₁ g) (told (suc r + rows e) f (noting (left r) K) (left r ∷ X) p.1 k₁ g)
  told r (star e) K X p k g = λ t ts.
      told-rounds (suc r) e (noting (left r) K) (border-noting (left r) K k) g
      (λ L l h. told (suc r) e L ((left r ∷ X) ++ asking (suc r) e (left r ∷ X)) p l h) (suc (length ts)) t ts
  told r (pipe e f) K X p k g =
      told (suc r) e (λ us. both (noting (left r) K us) (reach (suc r + rows e) f anything us)) ((left r ∷ X) ++ asking (suc r + rows e) f []) p.0
      (border-both (border-noting (left r) K k) (border (suc r + rows e) f anything refl))
      (told-both (noting (left r) K) (reach (suc r + rows e) f anything) g (told (suc r + rows e) f anything [] p.1 refl told-anything))

  -- the last tick, counted from the first
  told-last : (K : Rest) → Told K → (ts : List Tick) (t : Tick) (b : Branch) → b ∈ K (ts ++ t ∷ []) → Tells (length ts) b
  told-last K g [] t b i = g t [] b i
  told-last K g (u ∷ ts) t b i =
      let n = length-append ts (t ∷ []) in
      let e : length (ts ++ t ∷ []) ≡ suc (length ts) = omega (arith, n) in
      subst (λ k. Tells k b) e (g u (ts ++ t ∷ []) b i)

  -- all that branches kept by their runs touch
  touched-by : (p : Run → Bool) (k : ℕ) (A : List Branch) → ((b : Branch) → b ∈ A → Tells k b)
      → each (keep (λ b. p b.run) A) (λ b. b.touches) ≡ each (each (keep p (ran A)) (λ q. get_or q k [])) F
  touched-by p k [] h = refl
  touched-by p k (b ∷ A) h = by (p b.run) (touched-by p k A (λ c i. h c (there i)))
    where
      by : (d : Bool) → each (keep (λ b. p b.run) A) (λ b. b.touches) ≡ each (each (keep p (ran A)) (λ q. get_or q k [])) F
          → each (only d (b ∷ []) ++ keep (λ b. p b.run) A) (λ b. b.touches) ≡ each (each (only d (b.run ∷ []) ++ keep p (ran A)) (λ q. get_or q k [])) F
      by true e = ap₂ ◌++◌ (h b (here refl)) e ∙ sym (each_append (get_or b.run k []) (each (keep p (ran A)) (λ q. get_or q k [])) F)
      by false e = e

-- What a monitor touches behind some ticks: of each letter met at the last of them, what is touched where it is left.
pub touches-met : (m : Exp) → Numbered m → (ts : List Tick) (t : Tick) → touches m (ts ++ t ∷ []) ≡ each (met m ts t) (touches_after m)
touches-met m a ts t =
    touched-by (touches_after m) (unoccupied m) (length ts) (branches m (ts ++ t ∷ [])) (λ b i.
    told-last (touches_after m) (rounds (reach 0 m) nothing (length (ts ++ t ∷ []))) all_told ts t b i)
    ∙ ap (λ A. each (each (keep (unoccupied m) A) (λ q. get_or q (length ts) [])) (touches_after m)) (same-branches m (ts ++ t ∷ []))
  where
    all_told : Told (touches_after m) (rounds (reach 0 m) nothing (length (ts ++ t ∷ [])))
    all_told = told-rounds (touches_after m) 0 m nothing refl (λ u us b i. absurd (no-∈ i))
        (λ L l h. told (touches_after m) 0 m L (asking 0 m []) (right (touches_after m) 0 m (asking 0 m []) a (λ x i. refl)) l h) (length (ts ++ t ∷ []))

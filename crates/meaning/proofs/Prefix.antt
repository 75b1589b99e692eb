-- A star and a monitor unrolled, whatever their shape: the bound on rounds changes nothing. And what fits, fits up to each of its words.
use mathlib.Core.List.{List, [], ◌∷◌, ◌++◌, map, append-nil, append_assoc}
use mathlib.Core.Bool.{Bool, true}
use mathlib.Core.Path.{◌≡◌, refl, sym, ap, ◌∙◌, subst}
use mathlib.Core.Logic.{◌⊎◌, inl, inr, ⊎_elim, ◌↔◌}
use Prim.Native.Nat.{ℕ, zero, suc, ◌≤◌, ◌<◌}
use native.Mathlib.Omega.{arith}
use lib.Dec.{T, ltb, ltb→lt, lt→ltb}
use lib.ListN.{length}
use Rattle.meaning.specs.Lists.{◌∈◌, carry, only}
use Rattle.meaning.specs.Expression.{Exp, letter, seq, alt, star, pipe}
use Rattle.meaning.specs.Fit.{Tick, meets, Run, Rest, past_the_end, anything, nothing, merge, both, rounds, runs, branches, fits, History, tick, start, onward, history}
use Rattle.meaning.proofs.ListLaws.{carry-append, here, append-∈, ∈-left, ∈-right, ∈-map, map-∈, no-∈, ∈-only, only-∈}
use Rattle.meaning.proofs.Step.{∈-both, both-∈}
use Rattle.meaning.proofs.Monitor.{Accepted, fits-prefix}

-- ---- there is a run ----

abbrev pub Some : List Run → Type 0
Some A = (r : Run) × (r ∈ A)

past : Some past_the_end
past = ([], here refl)

some_left : {A : List Run} (B : List Run) → Some A → Some (A ++ B)
some_left B (r, i) = (r, ∈-left B i)

some_right : (A : List Run) {B : List Run} → Some B → Some (A ++ B)
some_right A (r, i) = (r, ∈-right A i)

either-some : (A : List Run) {B : List Run} → Some (A ++ B) → Some A ⊎ Some B
either-some A (r, i) = ⊎_elim (λ j. inl (r, j)) (λ j. inr (r, j)) (append-∈ A i)

some-both : {A B : List Run} → Some A → Some B → Some (both A B)
some-both (r, i) (s, j) = (merge r s, ∈-both i j)

both_some : (A B : List Run) → Some (both A B) → Some A × Some B
both_some A B (q, i) = let (r, s, j, k, p) = both-∈ A B i in ((r, j), (s, k))

-- a letter's runs
met_some : (b : Bool) (f : Run → Run) (A : List Run) → Some (only b (map f A)) → T b × Some A
met_some b f A (q, i) =
    let (t, j) = only-∈ b i in
    let (r, k, p) = map-∈ f A j in
    (t, (r, k))

some-met : (b : Bool) (f : Run → Run) (A : List Run) → T b → Some A → Some (only b (map f A))
some-met b f A t (r, i) = (f r, ∈-only b t (∈-map f i))

-- ---- more of what follows, more that fits ----

abbrev Grows : Exp → Type 0
Grows e = (K L : Rest) (ts : List Tick) → ((us : List Tick) → length us ≤ length ts → Some (K us) → Some (L us)) → Some (runs e K ts) → Some (runs e L ts)

rounds-grow : (e : Exp) → Grows e → (K L : Rest) (n : ℕ) (ts : List Tick) → ((us : List Tick) → length us ≤ length ts → Some (K us) → Some (L us))
    → Some (rounds (runs e) K n ts) → Some (rounds (runs e) L n ts)
unfolding rounds
rounds-grow e ih K L zero ts h s = h ts (omega arith) s
rounds-grow e ih K L (suc n) [] h s = past
rounds-grow e ih K L (suc n) (t ∷ ts) h s = ⊎_elim
    (λ a. some_left (runs e (rounds (runs e) L n) (t ∷ ts)) (h (t ∷ ts) (omega arith) a))
    (λ b. some_right (L (t ∷ ts)) (ih (rounds (runs e) K n) (rounds (runs e) L n) (t ∷ ts) (λ us le. rounds-grow e ih K L n us (λ vs lv. h vs (omega arith))) b))
    (either-some (K (t ∷ ts)) s)

grow : (e : Exp) → Grows e
unfolding runs
grow (letter l) K L [] h s = past
grow (letter l) K L (t ∷ ts) h s = let (b, a) = met_some (meets l t) _ (K ts) s in some-met (meets l t) _ (L ts) b (h ts (omega arith) a)
grow (seq e f) K L ts h s = grow e (runs f K) (runs f L) ts (λ us le. grow f K L us (λ vs lv. h vs (omega arith))) s
grow (alt e f) K L [] h s = past
grow (alt e f) K L (t ∷ ts) h s = ⊎_elim
    (λ a. some_left (runs f L (t ∷ ts)) (grow e K L (t ∷ ts) h a)) (λ b. some_right (runs e L (t ∷ ts)) (grow f K L (t ∷ ts) h b)) (either-some (runs e K (t ∷ ts)) s)
grow (star e) K L ts h s = rounds-grow e (grow e) K L (length ts) ts h s
grow (pipe e f) K L ts h s = grow e _ _ ts (λ us le x. let (a, b) = both_some (K us) (runs f anything us) x in some-both (h us le a) b) s

more-rounds : (e : Exp) (K : Rest) (n : ℕ) (ts : List Tick) → Some (rounds (runs e) K n ts) → Some (rounds (runs e) K (suc n) ts)
unfolding rounds
more-rounds e K zero [] s = past
more-rounds e K zero (t ∷ ts) s = some_left _ s
more-rounds e K (suc n) [] s = past
more-rounds e K (suc n) (t ∷ ts) s = ⊎_elim
    (λ a. some_left _ a)
    (λ b. some_right (K (t ∷ ts)) (grow e _ _ (t ∷ ts) (λ us le. more-rounds e K n us) b))
    (either-some (K (t ∷ ts)) s)

-- ---- what fits takes a tick, or is left at once ----

-- K on fewer ticks than ts
abbrev shorter : List Tick → Rest → Rest
shorter ts K us = only (ltb (length us) (length ts)) (K us)

some-shorter : (ts us : List Tick) (K : Rest) → length us < length ts → Some (K us) → Some (shorter ts K us)
some-shorter ts us K h (r, i) = (r, ∈-only (ltb (length us) (length ts)) (lt→ltb (length us) (length ts) h) i)

shorter-some : (ts us : List Tick) (K : Rest) → Some (shorter ts K us) → (length us < length ts) × Some (K us)
shorter-some ts us K (r, i) = let (t, j) = only-∈ (ltb (length us) (length ts)) i in (ltb→lt (length us) (length ts) t, (r, j))

abbrev Goes : Exp → Rest → List Tick → Type 0
Goes e K ts = Some (runs e (shorter ts K) ts) ⊎ (Some (K ts) × ((L : Rest) → Some (L ts) → Some (runs e L ts)))

rounds-go : (e : Exp) (K : Rest) (t : Tick) (ts : List Tick) → ((L : Rest) → Some (runs e L (t ∷ ts)) → Goes e L (t ∷ ts)) → (n : ℕ)
    → Some (rounds (runs e) K n (t ∷ ts)) → Some (rounds (runs e) (shorter (t ∷ ts) K) n (t ∷ ts)) ⊎ Some (K (t ∷ ts))
unfolding rounds
rounds-go e K t ts ih zero s = inr s
rounds-go e K t ts ih (suc n) s = ⊎_elim
    inr
    (λ b. ⊎_elim
    (λ a. inl (some_right (shorter (t ∷ ts) K (t ∷ ts)) (grow e _ (rounds (runs e) (shorter (t ∷ ts) K) n) (t ∷ ts)
    (λ us le x. let (lt, y) = shorter-some (t ∷ ts) us (rounds (runs e) K n) x in
    rounds-grow e (grow e) K (shorter (t ∷ ts) K) n us (λ vs lv. some-shorter (t ∷ ts) vs K (omega arith)) y) a)))
    (λ (a, g). ⊎_elim (λ x. inl (more-rounds e (shorter (t ∷ ts) K) n (t ∷ ts) x)) inr (rounds-go e K t ts ih n a))
    (ih (rounds (runs e) K n) b))
    (either-some (K (t ∷ ts)) s)

goes : (e : Exp) (K : Rest) (t : Tick) (ts : List Tick) → Some (runs e K (t ∷ ts)) → Goes e K (t ∷ ts)
unfolding runs rounds
goes (letter l) K t ts s =
    let (b, a) = met_some (meets l t) _ (K ts) s in
    inl (some-met (meets l t) _ (shorter (t ∷ ts) K ts) b (some-shorter (t ∷ ts) ts K (omega arith) a))
goes (seq e f) K t ts s = ⊎_elim
    (λ a. inl (grow e _ _ (t ∷ ts)
    (λ us le x. let (lt, y) = shorter-some (t ∷ ts) us (runs f K) x in
    grow f K (shorter (t ∷ ts) K) us (λ vs lv. some-shorter (t ∷ ts) vs K (omega arith)) y) a))
    (λ (a, g). ⊎_elim (λ x. inl (g (runs f (shorter (t ∷ ts) K)) x)) (λ (x, k). inr (x, λ L y. g (runs f L) (k L y))) (goes f K t ts a))
    (goes e (runs f K) t ts s)
goes (alt e f) K t ts s = ⊎_elim
    (λ a. ⊎_elim (λ x. inl (some_left _ x)) (λ (x, g). inr (x, λ L y. some_left _ (g L y))) (goes e K t ts a))
    (λ b. ⊎_elim (λ x. inl (some_right (runs e (shorter (t ∷ ts) K) (t ∷ ts)) x)) (λ (x, g). inr (x, λ L y. some_right (runs e L (t ∷ ts)) (g L y))) (goes f K t ts b))
    (either-some (runs e K (t ∷ ts)) s)
goes (star e) K t ts s = ⊎_elim inl (λ a. inr (a, λ L y. some_left _ y)) (rounds-go e K t ts (λ L. goes e L t ts) (length (t ∷ ts)) s)
goes (pipe e f) K t ts s = ⊎_elim
    (λ a. inl (grow e _ _ (t ∷ ts)
    (λ us le x.
    let (lt, y) = shorter-some (t ∷ ts) us (λ vs. both (K vs) (runs f anything vs)) x in
    let (c, d) = both_some (K us) (runs f anything us) y in
    some-both (some-shorter (t ∷ ts) us K lt c) d) a))
    (λ (a, g).
    let (c, d) = both_some (K (t ∷ ts)) (runs f anything (t ∷ ts)) a in
    inr (c, λ L y. g (λ vs. both (L vs) (runs f anything vs)) (some-both y d)))
    (goes e (λ us. both (K us) (runs f anything us)) t ts s)

-- so as many rounds as there are ticks are enough
enough-at : (e : Exp) (K : Rest) (n : ℕ) (t : Tick) (ts : List Tick)
    → ((k : ℕ) (us : List Tick) → length us ≤ n → Some (rounds (runs e) K k us) → Some (rounds (runs e) K n us))
    → length (t ∷ ts) ≤ suc n → (m : ℕ) → Some (rounds (runs e) K m (t ∷ ts)) → Some (rounds (runs e) K (suc n) (t ∷ ts))
unfolding rounds
enough-at e K n t ts ih le zero s = some_left _ s
enough-at e K n t ts ih le (suc m) s = ⊎_elim
    (λ a. some_left _ a)
    (λ b. ⊎_elim
    (λ a. some_right (K (t ∷ ts)) (grow e _ _ (t ∷ ts)
    (λ us lu x. let (lt, y) = shorter-some (t ∷ ts) us (rounds (runs e) K m) x in ih m us (omega arith) y) a))
    (λ (a, g). enough-at e K n t ts ih le m a)
    (goes e (rounds (runs e) K m) t ts b))
    (either-some (K (t ∷ ts)) s)

enough : (e : Exp) (K : Rest) → K [] ≡ past_the_end → (n m : ℕ) (ts : List Tick) → length ts ≤ n → Some (rounds (runs e) K m ts) → Some (rounds (runs e) K n ts)
unfolding rounds
enough e K k zero m [] le s = subst Some (sym k) past
enough e K k zero m (t ∷ ts) le s = absurd (omega arith)
enough e K k (suc n) m [] le s = past
enough e K k (suc n) m (t ∷ ts) le s = enough-at e K n t ts (λ j us lu. enough e K k n j us lu) le m s

-- "`e*`: what follows fits from here, or e does, followed by `e*` and what follows", whatever e is: the bound on its
-- rounds changes nothing.
pub star-exactly : (e : Exp) (K : Rest) → K [] ≡ past_the_end → (t : Tick) (ts : List Tick)
    → Some (runs (star e) K (t ∷ ts)) ↔ (Some (K (t ∷ ts)) ⊎ Some (runs e (runs (star e) K) (t ∷ ts)))
unfolding runs rounds
star-exactly e K k t ts = (
  λ s. ⊎_elim inl
      (λ b. inr (grow e _ _ (t ∷ ts) (λ us le. enough e K k (length us) (length ts) us (omega arith)) b))
      (either-some (K (t ∷ ts)) s),
  ⊎_elim
      (some_left _)
      (λ b. ⊎_elim
      (λ a. some_right (K (t ∷ ts)) (grow e _ _ (t ∷ ts)
      (λ us le x. let (lt, y) = shorter-some (t ∷ ts) us (runs (star e) K) x in enough e K k (length ts) (length us) us (omega arith) y) a))
      (λ (a, g). a)
      (goes e (runs (star e) K) t ts b)),
)

-- F13: "as often as m ends it is asked once more"
pub monitor-exactly : (m : Exp) (t : Tick) (ts : List Tick) → Some (branches m (t ∷ ts)) ↔ Some (runs m (branches m) (t ∷ ts))
monitor-exactly m t ts =
    let unrolled = star-exactly m nothing refl t ts in
    (λ s. ⊎_elim (λ a. absurd (no-∈ a.1)) (λ b. b) (unrolled.0 s), λ b. unrolled.1 (inr b))

-- ---- the theorems ----

-- one history goes on from the other
further : (ms : List Exp) (h : History) (ws : List ℕ) → (us : List Tick) × ((carry (onward ms) h ws).ticks ≡ h.ticks ++ us)
unfolding onward
further ms h [] = ([], sym (append-nil h.ticks))
further ms h (w ∷ ws) =
    let (us, p) = further ms (onward ms h w) ws in
    (tick h w ∷ us, p ∙ append_assoc h.ticks (tick h w ∷ []) us)

-- Words that fit a monitor fit it up to each of them (proofs/Monitor has it of ticks), with the stores that they lead to.
pub fits-history : (m : Exp) → Accepted m → (ms : List Exp) (initial ws vs : List ℕ)
    → fits m (history ms initial (ws ++ vs)).ticks ≡ true → fits m (history ms initial ws).ticks ≡ true
fits-history m ac ms initial ws vs p =
    let (us, q) = further ms (history ms initial ws) vs in
    fits-prefix m ac (history ms initial ws).ticks us
    (ap (fits m) (sym (ap (λ h. h.ticks) (carry-append (onward ms) (start initial) ws vs) ∙ q)) ∙ p)

-- The watch is right: where it stands as the words so far lead, its answer is the verdict, and it stands as one word more leads.
use mathlib.Core.List.{List, [], ◌∷◌, ◌++◌, map}
use mathlib.Core.Bool.{cond}
use mathlib.Core.Option.{Option, none, some, none-ne-some}
use mathlib.Core.Path.{subst, ◌≡◌, refl, sym, ap, ap₂, ◌∙◌, fun_ext}
use Prim.Native.Nat.{ℕ, suc}
use Rattle.meaning.specs.Lists.{carry, member}
use Rattle.meaning.specs.Expression.{Exp, letters}
use Rattle.meaning.specs.Fit.{History, start, tick, ok, bad, onward, history, Tick, met, write_met, write, verdict}
use Rattle.meaning.specs.Positions.{Watch, seen, ticked, answer, told, moved, moved_by, opened, Positions, at_start, on, go, Ticked, fine, wrong, go_on, go_each, write_each, kept_each}
use Rattle.meaning.proofs.ListLaws.{carry-append, clash}
use Rattle.meaning.proofs.Active.{then, positions_after}
use Rattle.meaning.proofs.Monitor.{Accepted, go_counted, same-member, positions-snoc, fits-yes, fits-no, positions-met}
use Rattle.meaning.proofs.Sets.{Alike, go-alike, alike-back, go-inside, kept_in, in_kept}
use Rattle.meaning.proofs.Occupied.{goes-counted, steady-after}

-- ---- all monitors ----

-- the positions xs are, as sets, those after the ticks ts
abbrev pub Tracked : List Exp → List Tick → List Positions → Type 0
Tracked [] ts [] = Unit {0}
Tracked [] ts (x ∷ xs) = ⊥
Tracked (m ∷ ms) ts [] = ⊥
Tracked (m ∷ ms) ts (x ∷ xs) = ((y : Positions) × (positions_after (go_counted m) at_start ts ≡ some y) × Alike x y) × Tracked ms ts xs

abbrev pub AllAccepted : List Exp → Type 0
AllAccepted [] = Unit {0}
AllAccepted (m ∷ ms) = Accepted m × AllAccepted ms

-- what the machine found at the tick t is right
abbrev Right : ℕ → List Exp → List Tick → Tick → Ticked → Type 0
Right i ms ts t (wrong j) = verdict i ms (ts ++ t ∷ []) ≡ bad j
Right i ms ts t (fine nss) = (verdict i ms (ts ++ t ∷ []) ≡ ok) × Tracked ms (ts ++ t ∷ []) (kept_each ms nss)
    × ((σ : List ℕ) → write_each t ms nss σ ≡ carry (λ s m. write_met t m (met m ts t) s) σ ms)

write_same : (t : Tick) (m : Exp) (ns ms : List ℕ) → ((k : ℕ) → member k ns ≡ member k ms) → (σ : List ℕ) → write_met t m ns σ ≡ write_met t m ms σ
unfolding write_met
write_same t m ns ms h σ =
    ap (λ f. carry f σ (letters m)) (fun_ext (λ s. fun_ext (λ l. ap (λ b. cond b (carry (write t) s l.writes) s) (h l.number))))

-- where the counting machine stands, the two go on alike
counted : (m : Exp) → Accepted m → (ts : List Tick) (y : Positions) → positions_after (go_counted m) at_start ts ≡ some y → (t : Tick) → go m y t ≡ go_counted m y t
counted m ac ts y p t = goes-counted m ac y (steady-after m ac ts at_start y tt p) t

one_right : (i : ℕ) (m : Exp) (ms : List Exp) (ts : List Tick) (t : Tick) (x y : Positions) → Accepted m → positions_after (go_counted m) at_start ts ≡ some y → Alike x y
    → (o : Option (List ℕ)) → go m x t ≡ o → (k : Ticked) → Right (suc i) ms ts t k → Right i (m ∷ ms) ts t (go_on i o k)
unfolding verdict write_each kept_each
one_right i m ms ts t x y ac p a none e k h =
    ap (λ b. cond b (verdict (suc i) ms (ts ++ t ∷ [])) (bad i))
    (fits-no m ac (ts ++ t ∷ []) (positions-snoc (go_counted m) ts t at_start y p ∙ ap (λ o. then o (λ ns. some (on ns))) (sym (counted m ac ts y p t) ∙ also-none (go m y t) refl)))
  where
    also-none : (q : Option (List ℕ)) → go m y t ≡ q → go m y t ≡ none
    also-none none f = f
    also-none (some os) f = let (qs, q, w, v) = go-alike m y x t os (alike-back x y a) f in absurd (none-ne-some qs (sym e ∙ q))
one_right i m ms ts t x y ac p a (some ns) e (wrong j) h =
    let (qs, f, w, v) = go-alike m x y t ns a e in
    ap (λ b. cond b (verdict (suc i) ms (ts ++ t ∷ [])) (bad i))
    (fits-yes m ac (ts ++ t ∷ []) (on qs) (positions-snoc (go_counted m) ts t at_start y p ∙ ap (λ o. then o (λ ns. some (on ns))) (sym (counted m ac ts y p t) ∙ f)))
    ∙ h
one_right i m ms ts t x y ac p a (some ns) e (fine nss) h =
    let (qs, f, w, v) = go-alike m x y t ns a e in
    let q : positions_after (go_counted m) at_start (ts ++ t ∷ []) ≡ some (on qs) = positions-snoc (go_counted m) ts t at_start y p ∙ ap (λ o. then o (λ ns. some (on ns))) (sym (counted m ac ts y p t) ∙ f) in (
      ap (λ b. cond b (verdict (suc i) ms (ts ++ t ∷ [])) (bad i)) (fits-yes m ac (ts ++ t ∷ []) (on qs) q) ∙ h.0,
      ((on qs, q, (λ k j. v k (kept_in m ns k j), λ k j. in_kept m ns k (go-inside m x t ns e k (w k j)) (w k j))), h.1),
      λ σ. h.2 (write_met t m ns σ)
          ∙ ap (λ s. carry (λ s m. write_met t m (met m ts t) s) s ms)
          (write_same t m ns (met m ts t) (λ k. same-member ns qs v w k ∙ sym (positions-met m ac ts t qs q k)) σ),
    )

all_right : (i : ℕ) (ms : List Exp) (xs : List Positions) (ts : List Tick) (t : Tick) → AllAccepted ms → Tracked ms ts xs → Right i ms ts t (go_each i ms xs t)
unfolding go_each verdict write_each kept_each
all_right i [] [] ts t ac h = (refl, tt, λ σ. refl)
all_right i [] (x ∷ xs) ts t ac h = absurd h
all_right i (m ∷ ms) [] ts t ac h = absurd h
all_right i (m ∷ ms) (x ∷ xs) ts t ac h =
    let (y, p, a) = h.0 in
    one_right i m ms ts t x y ac.0 p a (go m x t) refl (go_each (suc i) ms xs t) (all_right (suc i) ms xs ts t ac.1 h.1)

-- ---- the word before ----

-- F22: it is the last of the words so far, and 0 before the first
pub last_word : (ms : List Exp) (initial ws : List ℕ) (w : ℕ) → (history ms initial (ws ++ w ∷ [])).last ≡ w
unfolding onward
last_word ms initial ws w = ap (λ h. h.last) (carry-append (onward ms) (start initial) ws (w ∷ []))

pub no-word-yet : (ms : List Exp) (initial : List ℕ) → (history ms initial []).last ≡ 0
no-word-yet ms initial = refl

-- ---- one tick of the watch ----

-- the watch v stands where the words of h lead
abbrev pub Tracks : List Exp → History → Watch → Type 0
Tracks ms h v = Tracked ms h.ticks v.positions × (h.last ≡ v.last) × (h.stores ≡ v.stores)

opened-tracked : (ms : List Exp) → Tracked ms [] (map (λ m. at_start) ms)
unfolding positions_after
opened-tracked [] = tt
opened-tracked (m ∷ ms) = ((at_start, refl, tt), opened-tracked ms)

pub opened-tracks : (ms : List Exp) (initial : List ℕ) → Tracks ms (start initial) (opened ms initial)
opened-tracks ms initial = (opened-tracked ms, refl, refl)

module _ (ms : List Exp) (ac : AllAccepted ms) (h : History) (v : Watch) (tr : Tracks ms h v) (w : ℕ) where
  same-tick : tick h w ≡ seen v w
  same-tick = ap₂ (λ (b : ℕ) (σ : List ℕ). record { word = w; before = b; stores = σ }) tr.1 tr.2

  ticked-right : Right 0 ms h.ticks (tick h w) (ticked ms v w)
  ticked-right = subst (λ t. Right 0 ms h.ticks (tick h w) (go_each 0 ms v.positions t)) same-tick
      (all_right 0 ms v.positions h.ticks (tick h w) ac tr.0)

  -- it answers with the verdict
  pub same-verdict : answer ms v w ≡ verdict 0 ms (h.ticks ++ tick h w ∷ [])
  same-verdict = by (ticked ms v w) ticked-right
    where
      by : (k : Ticked) → Right 0 ms h.ticks (tick h w) k → told k ≡ verdict 0 ms (h.ticks ++ tick h w ∷ [])
      by (wrong j) r = sym r
      by (fine nss) r = sym r.0

  -- and if that is ok it stands where one word more leads
  pub same_move : verdict 0 ms (h.ticks ++ tick h w ∷ []) ≡ ok → Tracks ms (onward ms h w) (moved ms v w)
  unfolding onward
  same_move p = by (ticked ms v w) ticked-right
    where
      by : (k : Ticked) → Right 0 ms h.ticks (tick h w) k → Tracks ms (onward ms h w) (moved_by ms v w k)
      by (wrong j) r = clash (cc)
      by (fine nss) r = (r.1, refl, sym (r.2 h.stores) ∙ ap₂ (λ t σ. write_each t ms nss σ) same-tick tr.2)

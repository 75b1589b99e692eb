-- One monitor: the machine goes on exactly where the ticks fit, and its positions are the letters met.
use mathlib.Core.List.{List, [], ◌∷◌, ◌++◌}
use mathlib.Core.Bool.{Bool, true, false, not, cond}
use mathlib.Core.Option.{Option, none, some, none-ne-some, some-injective}
use mathlib.Core.Logic.{inl, inr}
use mathlib.Core.Path.{◌≡◌, refl, sym, ap, ap₂, ◌∙◌, subst}
use Prim.Native.Nat.{ℕ}
use lib.Dec.{T, eqb, leb}
use lib.ListN.{length, get_or}
use Rattle.meaning.specs.Lists.{any, keep, only, null, member, ◌∈◌}
use Rattle.meaning.specs.Expression.{Literal, wire, wire_store, wire_past, store, Letter, Exp, letter, seq, alt, star, pipe, letters}
use Rattle.meaning.specs.Shape.{SideBySide, meets_wires, wire_holds, first, follow, threads}
use Rattle.meaning.specs.ShapeTests.{together}
use Rattle.meaning.specs.Fit.{Tick, meets, holds, Run, Rest, past_the_end, anything, nothing, merge, both, runs, branches, required, occupied, unoccupied, monitor, fits, met}
use Rattle.meaning.specs.Positions.{Way, stuck, has, ask, leave, Positions, at_start, on, go_all}
use Rattle.meaning.proofs.ListLaws.{here, there, no-∈, one-∈, ∈-cast, ∈-left, ∈-right, each-∈, ∈-each, ∈-only, only-∈, any-from, any-to, all-at, all_from, same_truth, clash}
use Rattle.meaning.proofs.Step.{Solid, ended, Good, afters, Placed, step, steps, good-nothing}
use Rattle.meaning.proofs.OneWay.{Same, Excludes, Exclusive, Numbered, Closed, Threads, same_runs, one_way}
use Rattle.meaning.proofs.Bits.{meets-together}
use Rattle.meaning.proofs.Active.{Leads, leads-both, ask-leads, leave-leads, idle, after, somewhere, placed, passing, then, then_some, positions_after, rest, Exact, runs-if, goes-if, positions-if, one-run}

-- rule 12: no word meets two letters side by side
abbrev pub Unambiguous : Exp → Type 0
Unambiguous m = (x y : Letter) → SideBySide m x y → T (together x y) → x.number ≡ y.number

-- A monitor that was accepted: the rules 10, 11 and 12, and its letters numbered apart.
pub record Accepted (m : Exp) : Type 0 where
  pub solid : Solid (star m)
  pub closed : Closed m
  pub unambiguous : Unambiguous m
  pub numbered : Numbered m

-- ---- one monitor ----

meets-wires : (x : Letter) (t : Tick) → T (meets x t) → T (meets_wires x t.word)
unfolding meets meets_wires
meets-wires x t m = all_from (wire_holds t.word) x.literals (λ l i. one l (all-at (holds t) i m))
  where
    one : (l : Literal) → T (holds t l) → T (wire_holds t.word l)
    one (wire lo width v) h = h
    one (wire_store lo width s) h = tt
    one (wire_past lo width) h = tt
    one (store s v) h = tt

one-met : (m : Exp) → Unambiguous m → (t : Tick) (x y : Letter) → SideBySide m x y → T (meets x t) → T (meets y t) → x.number ≡ y.number
one-met m un t x y s p q = un x y s (meets-together x y t.word (meets-wires x t p) (meets-wires y t q))

threads-exclusive : (t : Tick) (e : Exp) → ((f : Exp) → f ∈ threads e → Exclusive t (first f)) → Threads t e
unfolding threads
threads-exclusive t (letter l) h = tt
threads-exclusive t (seq e f) h = (threads-exclusive t e (λ g i. h g (∈-left (threads f) i)), threads-exclusive t f (λ g i. h g (∈-right (threads e) i)))
threads-exclusive t (alt e f) h = (threads-exclusive t e (λ g i. h g (∈-left (threads f) i)), threads-exclusive t f (λ g i. h g (∈-right (threads e) i)))
threads-exclusive t (star e) h = threads-exclusive t e h
threads-exclusive t (pipe e f) h =
    (h f (here refl), threads-exclusive t e (λ g i. h g (there (∈-left (threads f) i))), threads-exclusive t f (λ g i. h g (there (∈-right (threads e) i))))

cond_both : (b : Bool) (X Y Z : List Run) → X ≡ Z → Y ≡ Z → cond b X Y ≡ Z
cond_both true X Y Z p q = p
cond_both false X Y Z p q = q

after-ends : (n : ℕ) (e : Exp) (K : Rest) → K [] ≡ past_the_end → after n e K [] ≡ past_the_end
unfolding after merge
after-ends n (letter l) K k = k
after-ends n (seq e f) K k = cond_both (has n e) _ _ _ (after-ends n e (runs f K) (ended f K k)) (after-ends n f K k)
after-ends n (alt e f) K k = cond_both (has n e) _ _ _ (after-ends n e K k) (after-ends n f K k)
after-ends n (star e) K k = after-ends n e (runs (star e) K) (ended (star e) K k)
after-ends n (pipe e f) K k =
    cond_both (has n e) _ _ _ (after-ends n e (λ us. both (K us) (runs f anything us)) (ap₂ both k (ended f anything refl))) (after-ends n f anything refl)

-- what follows letter n of the monitor m
abbrev pub following : Exp → ℕ → Rest
following m n = after n (star m) nothing

-- ---- lists ----

-- a run of those kept is one that passes
pub ∈-keep : (p : Run → Bool) {r : Run} {A : List Run} → r ∈ A → T (p r) → r ∈ keep p A
∈-keep p {r} i h = ∈-each (λ s. only (p s) (s ∷ [])) i (∈-only (p r) h (here refl))

pub keep-∈ : (p : Run → Bool) {r : Run} (A : List Run) → r ∈ keep p A → (r ∈ A) × T (p r)
keep-∈ p {r} A i =
    let (s, j, k) = each-∈ A (λ s. only (p s) (s ∷ [])) i in
    let (h, l) = only-∈ (p s) k in
    let e = one-∈ l in
    (∈-cast e j, subst (λ z. T (p z)) (sym e) h)

pub not_null : {r : Run} {A : List Run} → r ∈ A → null A ≡ false
not_null (here p) = refl
not_null (there i) = refl

pub is-null : (A : List Run) → ((r : Run) → r ∈ A → ⊥) → null A ≡ true
is-null [] h = refl
is-null (r ∷ A) h = absurd (h r (here refl))

pub same-member : (ns ms : List ℕ) → ((k : ℕ) → k ∈ ns → k ∈ ms) → ((k : ℕ) → k ∈ ms → k ∈ ns) → (k : ℕ) → member k ns ≡ member k ms
same-member ns ms f g k = same_truth _ _
    (λ t. let (n, i, e) = any-to (eqb k) ns t in any-from (eqb k) (f n i) e)
    (λ t. let (n, i, e) = any-to (eqb k) ms t in any-from (eqb k) (g n i) e)

-- a bad tick stays bad, whatever comes behind it
positions-stay : (W : Positions → Way) (ts us : List Tick) (x : Positions) → positions_after W x ts ≡ none → positions_after W x (ts ++ us) ≡ none
unfolding positions_after
positions-stay W [] us x p = absurd (none-ne-some x (sym p))
positions-stay W (t ∷ ts) us x p = by (W x t) (λ ns. positions-stay W ts us (on ns)) p
  where
    by : (o : Option (List ℕ)) → ((ns : List ℕ) → positions_after W (on ns) ts ≡ none → positions_after W (on ns) (ts ++ us) ≡ none)
        → then o (λ ns. positions_after W (on ns) ts) ≡ none → then o (λ ns. positions_after W (on ns) (ts ++ us)) ≡ none
    by none h q = refl
    by (some ns) h q = h ns q

-- one tick more
pub positions-snoc : (W : Positions → Way) (ts : List Tick) (t : Tick) (x y : Positions) → positions_after W x ts ≡ some y
    → positions_after W x (ts ++ t ∷ []) ≡ then (W y t) (λ ns. some (on ns))
unfolding positions_after
positions-snoc W [] t x y p = ap (λ z. then (W z t) (λ ns. some (on ns))) (some-injective x y p)
positions-snoc W (u ∷ ts) t x y p =
    let (ns, a, b) = then_some (W x u) (λ ns. positions_after W (on ns) ts) y p in
    ap (λ o. then o (λ ns. positions_after W (on ns) (ts ++ t ∷ []))) a ∙ positions-snoc W ts t (on ns) y b

-- ---- the machine that lets every start in, and looks at the letters afterwards ----

unfoldable pub go_idle : Exp → Positions → Way
go_idle m at_start t = ask (star m) stuck t
go_idle m (on ns) t = go_all (λ n. leave idle n (star m) stuck) ns t

-- F17, of the letters of a tick
abbrev pub admits : Exp → List ℕ → Bool
admits m ns = not (occupied m ns)

abbrev pub go_counted : Exp → Positions → Way
go_counted m x t = passing (admits m) (go_idle m x t)

-- no letters, none twice
admits-none : (m : Exp) → T (admits m [])
unfolding occupied
admits-none m = none (threads m)
  where
    none : (fs : List Exp) → T (not (any (λ f. leb 2 (required f [])) fs))
    none [] = tt
    none (f ∷ fs) = none fs

module _ (m : Exp) (ac : Accepted m) where
  is-placed : Placed (following m) (star m) nothing
  is-placed = placed (following m) (star m) nothing ac.numbered (λ l i. refl)

  start_good : Good (following m) (branches m)
  start_good = step (following m) (star m) nothing ac.solid is-placed refl (λ h. good-nothing (following m))

  letter-good : (n : ℕ) → Good (following m) (following m n)
  unfolding letters
  letter-good n =
      let (l, i, p) = somewhere (following m) n (star m) nothing is-placed in
      rw p (steps (following m) (star m) nothing ac.solid is-placed refl (good-nothing (following m)) l i)

  first-exclusive : (t : Tick) → Exclusive t (first m)
  first-exclusive t x y i j = one-met m ac.unambiguous t x y (inl (i, j))

  thread-exclusive : (t : Tick) (f : Exp) → f ∈ threads m → Exclusive t (first f)
  thread-exclusive t f k x y i j = one-met m ac.unambiguous t x y (inr (inl (f, k, i, j)))

  follow-exclusive : (t : Tick) (n : ℕ) → Exclusive t (follow n (star m))
  follow-exclusive t n x y i j = one-met m ac.unambiguous t x y (inr (inr (n, i, j)))

  no-runs : (t : Tick) (g : List Letter) → Same t nothing × Excludes t nothing g
  no-runs t g = (λ r s i j. absurd (no-∈ i), λ r x i j u. no-∈ i)

  start_same : (t : Tick) → Same t (branches m)
  unfolding first
  start_same t = same_runs t (star m) nothing ac.solid refl (first-exclusive t) (λ h. no-runs t (first m))

  letter-same : (n : ℕ) (t : Tick) → Same t (following m n)
  unfolding letters threads
  letter-same n t =
      let (l, i, p) = somewhere (following m) n (star m) nothing is-placed in
      rw p (one_way (following m) t (star m) nothing ac.solid ac.numbered ac.closed is-placed refl
      (threads-exclusive t m (thread-exclusive t))
      (follow-exclusive t) (λ n h. no-runs t (follow n (star m))) l i)

  -- the machine goes as one of the runs does
  go-leads : (x : Positions) (t : Tick) → Leads (go_idle m x t) (rest (branches m) (following m) x (t ∷ []))
  unfolding go_idle go_all afters
  go-leads at_start t = ask-leads (star m) nothing none ac.solid refl t (λ h r i. no-∈ i)
  go-leads (on ns) t = all-lead ns
    where
      all-lead : (ns : List ℕ) → Leads (go_all (λ n. leave idle n (star m) stuck) ns t) (afters (following m) ns (t ∷ []))
      all-lead [] = ([], here refl, refl)
      all-lead (n ∷ ns) =
          leads-both (leave idle n (star m) stuck t) (go_all (λ n. leave idle n (star m) stuck) ns t) (following m n (t ∷ [])) (afters (following m) ns (t ∷ []))
          (leave-leads n (star m) nothing stuck ac.solid refl t (λ r i. no-∈ i)) (all-lead ns)

  exact : Exact (branches m) (following m) (go_idle m)
  exact =
      record {
        start_ends = ended (star m) nothing refl;
        G-ends = λ n. after-ends n (star m) nothing refl;
        start_good = start_good;
        G-good = letter-good;
        start_same = start_same;
        G-same = letter-same;
        goes = go-leads;
      }

  -- where the machine goes on there is a branch that fits
  a-run : (ts : List Tick) (y : Positions) → positions_after (go_counted m) at_start ts ≡ some y → (r : Run) × (r ∈ monitor m ts)
  a-run ts y p =
      let (r, i, h) = runs-if (branches m) (following m) (go_idle m) exact (admits m) (admits-none m) ts at_start y p in
      (r, ∈-keep (unoccupied m) i h)

  -- so the ticks fit
  pub fits-yes : (ts : List Tick) (y : Positions) → positions_after (go_counted m) at_start ts ≡ some y → fits m ts ≡ true
  fits-yes ts y p = let (r, i) = a-run ts y p in ap not (not_null i)

  -- where it does not they do not
  pub fits-no : (ts : List Tick) → positions_after (go_counted m) at_start ts ≡ none → fits m ts ≡ false
  fits-no ts p = ap not (is-null (monitor m ts) (λ r i.
      let (j, h) = keep-∈ (unoccupied m) (branches m ts) i in
      let (y, q) = goes-if (branches m) (following m) (go_idle m) exact (admits m) (admits-none m) ts at_start r j h in
      none-ne-some y (sym p ∙ q)))

  -- its positions are the letters met at the last tick
  pub positions-met : (ts : List Tick) (t : Tick) (ns : List ℕ) → positions_after (go_counted m) at_start (ts ++ t ∷ []) ≡ some (on ns)
      → (k : ℕ) → member k (met m ts t) ≡ member k ns
  positions-met ts t ns p = same-member (met m ts t) ns
      (λ k i. let (r, j, l) = each-∈ (monitor m (ts ++ t ∷ [])) (λ r. get_or r (length ts) []) i in subst (λ z. k ∈ z) (all_same r j) l)
      (λ k i. let (r, j) = a-run (ts ++ t ∷ []) (on ns) p in
      ∈-each (λ r. get_or r (length ts) []) j (subst (λ z. k ∈ z) (sym (all_same r j)) i))
    where
      all_same : (r : Run) → r ∈ monitor m (ts ++ t ∷ []) → get_or r (length ts) [] ≡ ns
      all_same r j =
          let (i, h) = keep-∈ (unoccupied m) (branches m (ts ++ t ∷ [])) j in
          let q : some (on (get_or r (length ts) [])) ≡ some (on ns) = sym (positions-if (branches m) (following m) (go_idle m) exact (admits m) (admits-none m) ts t at_start r i h) ∙ p in
          cc

  -- all branches have the same run, and so have those that fit
  pub one-branch : (ts : List Tick) (r s : Run) → r ∈ branches m ts → s ∈ branches m ts → r ≡ s
  one-branch ts r s i j = one-run (branches m) (following m) (go_idle m) exact (admits m) (admits-none m) ts at_start r s i j

  pub one-run-only : (ts : List Tick) (r s : Run) → r ∈ monitor m ts → s ∈ monitor m ts → r ≡ s
  one-run-only ts r s i j = one-branch ts r s (keep-∈ (unoccupied m) (branches m ts) i).0 (keep-∈ (unoccupied m) (branches m ts) j).0

  -- Words that fit a monitor fit it up to each of them.
  pub fits-prefix : (ts us : List Tick) → fits m (ts ++ us) ≡ true → fits m ts ≡ true
  fits-prefix ts us p = by (positions_after (go_counted m) at_start ts) refl
    where
      by : (o : Option Positions) → positions_after (go_counted m) at_start ts ≡ o → fits m ts ≡ true
      by (some y) e = fits-yes ts y e
      by none e = clash (cc (fits-no (ts ++ us) (positions-stay (go_counted m) ts us at_start e), p))

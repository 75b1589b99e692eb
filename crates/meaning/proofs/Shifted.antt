-- Letters numbered from k on instead of 0: the machine does the same, each number k greater. Assumes nothing.
use mathlib.Core.Path.{◌≡◌, refl, sym, ap, ap₂, ◌∙◌, subst}
use mathlib.Core.Bool.{Bool, true, false, cond, not, ◌&&◌, ◌||◌}
use mathlib.Core.List.{List, [], ◌∷◌, ◌++◌, map, map-append}
use mathlib.Core.Option.{Option, none, some}
use Prim.Native.Nat.{ℕ, ◌+◌}
use native.Mathlib.Omega.{arith}
use lib.Dec.{T, eqb}
use borrow.Author.Tests.{eqb-true, eqb-false, eq-eqb, ne_eqb}
use Rattle.meaning.specs.Lists.{◌∈◌, carry, each, only, member}
use Rattle.meaning.specs.Expression.{Letter, Exp, letter, seq, alt, star, pipe, letters, own, size, renumbered, Ordered}
use Rattle.meaning.specs.Shape.{nullable, first, last, follow, threads}
use Rattle.meaning.specs.Fit.{Tick, meets, among, write, write_met}
use Rattle.meaning.specs.Positions.{Way, stuck, over, joined, Entered, met, passed, blocked, then_enter, or_enter, or_pass, enter, goes_by, ask, has, busy, begin, leave, Positions, at_start, on, go_all, go, kept}
use Rattle.meaning.proofs.ListLaws.{map-∈}
use Rattle.meaning.proofs.Step.{Solid}
use Rattle.meaning.proofs.OneWay.{Closed, last_has}
use Rattle.meaning.proofs.Summary.{nullable-renumbered}

module _ (k : ℕ) where
  -- ---- k added to each number ----

  abbrev pub shift_all : List ℕ → List ℕ
  shift_all ns = map (λ n. k + n) ns

  abbrev pub shift : Option (List ℕ) → Option (List ℕ)
  shift none = none
  shift (some ns) = some (shift_all ns)

  abbrev pub shift_entered : Entered → Entered
  shift_entered (met n) = met (k + n)
  shift_entered passed = passed
  shift_entered blocked = blocked

  abbrev pub shift_positions : Positions → Positions
  shift_positions at_start = at_start
  shift_positions (on ns) = on (shift_all ns)

  abbrev pub shift_letter : Letter → Letter
  shift_letter l = record { number = k + l.number; literals = l.literals; writes = l.writes; through = l.through }

  unfoldable pub shifted : Exp → Exp
  shifted (letter l) = letter (shift_letter l)
  shifted (seq e f) = seq (shifted e) (shifted f)
  shifted (alt e f) = alt (shifted e) (shifted f)
  shifted (star e) = star (shifted e)
  shifted (pipe e f) = pipe (shifted e) (shifted f)

  -- what is numbered from j on is numbered from k + j on
  pub renumbered-shifted : (i j : ℕ) (e : Exp) → i ≡ k + j → Ordered j e → renumbered i e ≡ shifted e
  unfolding renumbered shifted
  renumbered-shifted i j (letter l) p o = ap (λ n. letter (record { number = n; literals = l.literals; writes = l.writes; through = l.through })) (omega (arith, o))
  renumbered-shifted i j (seq e f) p (o, u) = ap₂ seq (renumbered-shifted i j e p o) (renumbered-shifted (i + size e) (j + size e) f (omega arith) u)
  renumbered-shifted i j (alt e f) p (o, u) = ap₂ alt (renumbered-shifted i j e p o) (renumbered-shifted (i + size e) (j + size e) f (omega arith) u)
  renumbered-shifted i j (star e) p o = ap star (renumbered-shifted i j e p o)
  renumbered-shifted i j (pipe e f) p (o, u) = ap₂ pipe (renumbered-shifted i j e p o) (renumbered-shifted (i + size e) (j + size e) f (omega arith) u)

  -- ---- letters ----

  pub letters-shifted : (e : Exp) → letters (shifted e) ≡ map shift_letter (letters e)
  unfolding letters shifted
  letters-shifted (letter l) = refl
  letters-shifted (seq e f) = ap₂ ◌++◌ (letters-shifted e) (letters-shifted f) ∙ sym (map-append shift_letter (letters e) (letters f))
  letters-shifted (alt e f) = ap₂ ◌++◌ (letters-shifted e) (letters-shifted f) ∙ sym (map-append shift_letter (letters e) (letters f))
  letters-shifted (star e) = letters-shifted e
  letters-shifted (pipe e f) = ap₂ ◌++◌ (letters-shifted e) (letters-shifted f) ∙ sym (map-append shift_letter (letters e) (letters f))

  pub eqb-shifted : (a b : ℕ) → eqb (k + a) (k + b) ≡ eqb a b
  eqb-shifted a b = by (eqb a b) refl
    where
      by : (o : Bool) → eqb a b ≡ o → eqb (k + a) (k + b) ≡ o
      by true p = eq-eqb (k + a) (k + b) (omega (arith, eqb-true a b p))
      by false p = ne_eqb (k + a) (k + b) (λ e. eqb-false a b p (omega arith))

  pub member-shifted : (n : ℕ) (ns : List ℕ) → member (k + n) (shift_all ns) ≡ member n ns
  member-shifted n [] = refl
  member-shifted n (m ∷ ns) = ap₂ ◌||◌ (eqb-shifted n m) (member-shifted n ns)

  among-shifted : (n : ℕ) (ls : List Letter) → among (map shift_letter ls) (k + n) ≡ among ls n
  among-shifted n [] = refl
  among-shifted n (l ∷ ls) = ap₂ ◌||◌ (eqb-shifted n l.number) (among-shifted n ls)

  has-shifted : (n : ℕ) (e : Exp) → has (k + n) (shifted e) ≡ has n e
  has-shifted n e = ap (λ ls. among ls (k + n)) (letters-shifted e) ∙ among-shifted n (letters e)

  -- ---- threads ----

  pub own-shifted : (e : Exp) → own (shifted e) ≡ map shift_letter (own e)
  unfolding own shifted
  own-shifted (letter l) = refl
  own-shifted (seq e f) = ap₂ ◌++◌ (own-shifted e) (own-shifted f) ∙ sym (map-append shift_letter (own e) (own f))
  own-shifted (alt e f) = ap₂ ◌++◌ (own-shifted e) (own-shifted f) ∙ sym (map-append shift_letter (own e) (own f))
  own-shifted (star e) = own-shifted e
  own-shifted (pipe e f) = own-shifted e

  pub threads-shifted : (e : Exp) → threads (shifted e) ≡ map (shifted) (threads e)
  unfolding threads shifted
  threads-shifted (letter l) = refl
  threads-shifted (seq e f) = ap₂ ◌++◌ (threads-shifted e) (threads-shifted f) ∙ sym (map-append (shifted) (threads e) (threads f))
  threads-shifted (alt e f) = ap₂ ◌++◌ (threads-shifted e) (threads-shifted f) ∙ sym (map-append (shifted) (threads e) (threads f))
  threads-shifted (star e) = threads-shifted e
  threads-shifted (pipe e f) = ap (λ gs. shifted f ∷ gs) (ap₂ ◌++◌ (threads-shifted e) (threads-shifted f) ∙ sym (map-append (shifted) (threads e) (threads f)))

  pub nullable-shifted : (e : Exp) → nullable (shifted e) ≡ nullable e
  unfolding nullable shifted
  nullable-shifted (letter l) = refl
  nullable-shifted (seq e f) = ap₂ ◌&&◌ (nullable-shifted e) (nullable-shifted f)
  nullable-shifted (alt e f) = ap₂ ◌||◌ (nullable-shifted e) (nullable-shifted f)
  nullable-shifted (star e) = refl
  nullable-shifted (pipe e f) = refl

  pub last-shifted : (n : ℕ) (e : Exp) → last (k + n) (shifted e) ≡ last n e
  unfolding last shifted
  last-shifted n (letter l) = eqb-shifted n l.number
  last-shifted n (seq e f) = ap₂ ◌||◌ (last-shifted n f) (ap₂ ◌&&◌ (nullable-shifted f) (last-shifted n e))
  last-shifted n (alt e f) = ap₂ ◌||◌ (last-shifted n e) (last-shifted n f)
  last-shifted n (star e) = last-shifted n e
  last-shifted n (pipe e f) = last-shifted n e

  only-shifted : (b : Bool) (ls : List Letter) → only b (map shift_letter ls) ≡ map shift_letter (only b ls)
  only-shifted true ls = refl
  only-shifted false ls = refl

  first-shifted : (e : Exp) → first (shifted e) ≡ map shift_letter (first e)
  unfolding first shifted
  first-shifted (letter l) = refl
  first-shifted (seq e f) =
      ap₂ ◌++◌ (first-shifted e) (ap₂ only (nullable-shifted e) (first-shifted f) ∙ only-shifted (nullable e) (first f)) ∙ sym (map-append shift_letter (first e) (only (nullable e) (first f)))
  first-shifted (alt e f) = ap₂ ◌++◌ (first-shifted e) (first-shifted f) ∙ sym (map-append shift_letter (first e) (first f))
  first-shifted (star e) = first-shifted e
  first-shifted (pipe e f) = first-shifted e

  -- what can follow a last letter of e
  behind-last : (n : ℕ) (e f : Exp) → only (last (k + n) (shifted e)) (first (shifted f)) ≡ map shift_letter (only (last n e) (first f))
  behind-last n e f = ap₂ only (last-shifted n e) (first-shifted f) ∙ only-shifted (last n e) (first f)

  follow-shifted : (n : ℕ) (e : Exp) → follow (k + n) (shifted e) ≡ map shift_letter (follow n e)
  unfolding follow shifted
  follow-shifted n (letter l) = refl
  follow-shifted n (seq e f) =
      ap₂ ◌++◌ (ap₂ ◌++◌ (follow-shifted n e) (follow-shifted n f) ∙ sym (map-append shift_letter (follow n e) (follow n f))) (behind-last n e f)
      ∙ sym (map-append shift_letter (follow n e ++ follow n f) (only (last n e) (first f)))
  follow-shifted n (alt e f) = ap₂ ◌++◌ (follow-shifted n e) (follow-shifted n f) ∙ sym (map-append shift_letter (follow n e) (follow n f))
  follow-shifted n (star e) = ap₂ ◌++◌ (follow-shifted n e) (behind-last n e e) ∙ sym (map-append shift_letter (follow n e) (only (last n e) (first e)))
  follow-shifted n (pipe e f) = ap₂ ◌++◌ (follow-shifted n e) (follow-shifted n f) ∙ sym (map-append shift_letter (follow n e) (follow n f))

  -- rule 11 asks for no numbers
  closed-shifted : (e : Exp) → Closed e → Closed (shifted e)
  unfolding shifted
  closed-shifted (letter l) c = tt
  closed-shifted (seq e f) c = (closed-shifted e c.0, closed-shifted f c.1)
  closed-shifted (alt e f) c = (closed-shifted e c.0, closed-shifted f c.1)
  closed-shifted (star e) c = closed-shifted e c
  closed-shifted (pipe e f) c = (
    λ n x t i.
        let (l, j, p) = last_has n (shifted f) t in
        let (y, m, q) = map-∈ shift_letter (letters f) (subst (λ ls. l ∈ ls) (letters-shifted f) j) in
        let d : n ≡ k + y.number = sym p ∙ ap (λ z. z.number) (sym q) in
        let (w, u, v) = map-∈ shift_letter (follow y.number f) (subst (λ ls. x ∈ ls) (ap (λ z. follow z (shifted f)) d ∙ follow-shifted y.number f) i) in
        c.0 y.number w (subst T (ap (λ z. last z (shifted f)) d ∙ last-shifted y.number f) t) u,
    closed-shifted e c.1,
    closed-shifted f c.2,
  )

  busy-shifted : (ns : List ℕ) (f : Exp) → busy (shift_all ns) (shifted f) ≡ busy ns f
  busy-shifted [] f = refl
  busy-shifted (n ∷ ns) f =
      ap₂ ◌||◌ (ap₂ (λ a b. a && not b) (ap (λ ls. among ls (k + n)) (own-shifted f) ∙ among-shifted n (own f)) (last-shifted n f)) (busy-shifted ns f)

  -- ---- entering ----

  shift-met : (n : ℕ) (b : Bool) → cond b (met (k + n)) blocked ≡ shift_entered (cond b (met n) blocked)
  shift-met n true = refl
  shift-met n false = refl

  shift-then : (a b : Entered) → then_enter (shift_entered a) (shift_entered b) ≡ shift_entered (then_enter a b)
  shift-then (met n) b = refl
  shift-then passed b = refl
  shift-then blocked b = refl

  shift-or : (a b : Entered) → or_enter (shift_entered a) (shift_entered b) ≡ shift_entered (or_enter a b)
  shift-or (met n) b = refl
  shift-or passed (met n) = refl
  shift-or passed passed = refl
  shift-or passed blocked = refl
  shift-or blocked b = refl

  shift-star : (a : Entered) → or_pass (shift_entered a) ≡ shift_entered (or_pass a)
  shift-star (met n) = refl
  shift-star passed = refl
  shift-star blocked = refl

  pub enter-shifted : (e : Exp) (t : Tick) → enter (shifted e) t ≡ shift_entered (enter e t)
  unfolding enter shifted meets
  enter-shifted (letter l) t = shift-met l.number (meets l t)
  enter-shifted (seq e f) t = ap₂ then_enter (enter-shifted e t) (enter-shifted f t) ∙ shift-then (enter e t) (enter f t)
  enter-shifted (alt e f) t = ap₂ or_enter (enter-shifted e t) (enter-shifted f t) ∙ shift-or (enter e t) (enter f t)
  enter-shifted (star e) t = ap or_pass (enter-shifted e t) ∙ shift-star (enter e t)
  enter-shifted (pipe e f) t = enter-shifted e t

  -- ---- ways ----

  shift-goes : (a : Entered) (o : Option (List ℕ)) → goes_by (shift_entered a) (shift o) ≡ shift (goes_by a o)
  shift-goes (met n) o = refl
  shift-goes passed o = refl
  shift-goes blocked o = refl

  shift-joined : (a b : Option (List ℕ)) → joined (shift a) (shift b) ≡ shift (joined a b)
  shift-joined none b = refl
  shift-joined (some ns) none = refl
  shift-joined (some ns) (some ms) = ap some (sym (map-append (λ n. k + n) ns ms))

  shift-cond : (o p : Bool) (a b x y : Option (List ℕ)) → p ≡ o → x ≡ shift a → y ≡ shift b → cond p x y ≡ shift (cond o a b)
  shift-cond true p a b x y q u v = rw q u
  shift-cond false p a b x y q u v = rw q v

  -- L does what K does
  abbrev pub Like : (L K : Way) → Type 0
  Like L K = (t : Tick) → L t ≡ shift (K t)

  joined-like : (L K M N : Way) → Like L K → Like M N → Like (λ t. joined (L t) (M t)) (λ t. joined (K t) (N t))
  joined-like L K M N h g t = ap₂ joined (h t) (g t) ∙ shift-joined (K t) (N t)

  pub ask-shifted : (e : Exp) (L K : Way) → Like L K → Like (ask (shifted e) L) (ask e K)
  ask-shifted e L K h t = ap₂ goes_by (enter-shifted e t) (h t) ∙ shift-goes (enter e t) (K t)

  shift-begin : (a b : Bool) (o p : Option (List ℕ)) → b ≡ a → p ≡ shift o → cond b none p ≡ shift (cond a none o)
  shift-begin true b o p q u = rw q
  shift-begin false b o p q u = rw q u

  -- C shuts what B does
  pub leave-shifted : (C B : Exp → Bool) → ((f : Exp) → C (shifted f) ≡ B f)
      → (n : ℕ) (e : Exp) (L K : Way) → Like L K → Like (leave C (k + n) (shifted e) L) (leave B n e K)
  unfolding leave shifted
  leave-shifted C B q n (letter l) L K h t = h t
  leave-shifted C B q n (seq e f) L K h t = shift-cond (has n e) (has (k + n) (shifted e)) _ _ _ _ (has-shifted n e)
      (leave-shifted C B q n e (ask (shifted f) L) (ask f K) (ask-shifted f L K h) t) (leave-shifted C B q n f L K h t)
  leave-shifted C B q n (alt e f) L K h t = shift-cond (has n e) (has (k + n) (shifted e)) _ _ _ _ (has-shifted n e) (leave-shifted C B q n e L K h t) (leave-shifted C B q n f L K h t)
  leave-shifted C B q n (star e) L K h t = leave-shifted C B q n e (ask (star (shifted e)) L) (ask (star e) K) (ask-shifted (star e) L K h) t
  leave-shifted C B q n (pipe e f) L K h t = shift-cond (has n e) (has (k + n) (shifted e)) _ _ _ _ (has-shifted n e)
      (leave-shifted C B q n e _ _ (joined-like L K (begin C (shifted f)) (begin B f) h (λ u. shift-begin (B f) (C (shifted f)) _ _ (q f) (ask-shifted f over over (λ v. refl) u))) t)
      (leave-shifted C B q n f over over (λ u. refl) t)

  pub go_all-shifted : (X W : ℕ → Way) → ((n : ℕ) → Like (X (k + n)) (W n)) → (ns : List ℕ) (t : Tick) → go_all X (shift_all ns) t ≡ shift (go_all W ns t)
  unfolding go_all
  go_all-shifted X W h [] t = refl
  go_all-shifted X W h (n ∷ ns) t = ap₂ joined (h n t) (go_all-shifted X W h ns t) ∙ shift-joined (W n t) (go_all W ns t)

  go-shifted : (m : Exp) (x : Positions) (t : Tick) → go (shifted m) (shift_positions x) t ≡ shift (go m x t)
  unfolding go shifted
  go-shifted m at_start t = ask-shifted (star m) stuck stuck (λ u. refl) t
  go-shifted m (on ns) t = go_all-shifted _ _ (λ n. leave-shifted (busy (shift_all ns)) (busy ns) (busy-shifted ns) n (star m) stuck stuck (λ u. refl)) ns t

  -- ---- letters met ----

  kept-shifted : (m : Exp) (ns : List ℕ) → kept (shifted m) (shift_all ns) ≡ shift_all (kept m ns)
  unfolding kept
  kept-shifted m ns = ap (λ ls. each ls (λ l. only (member l.number (shift_all ns)) (l.number ∷ []))) (letters-shifted m) ∙ over-all (letters m)
    where
      one : (o p : Bool) (n : ℕ) (xs : List ℕ) → p ≡ o → only p ((k + n) ∷ []) ++ shift_all xs ≡ shift_all (only o (n ∷ []) ++ xs)
      one true p n xs q = rw q
      one false p n xs q = rw q

      over-all : (ls : List Letter)
          → each (map shift_letter ls) (λ l. only (member l.number (shift_all ns)) (l.number ∷ [])) ≡ shift_all (each ls (λ l. only (member l.number ns) (l.number ∷ [])))
      over-all [] = refl
      over-all (l ∷ ls) = ap (λ xs. only (member (k + l.number) (shift_all ns)) ((k + l.number) ∷ []) ++ xs) (over-all ls)
          ∙ one (member l.number ns) (member (k + l.number) (shift_all ns)) l.number _ (member-shifted l.number ns)

  write_met-shifted : (t : Tick) (m : Exp) (ns σ : List ℕ) → write_met t (shifted m) (shift_all ns) σ ≡ write_met t m ns σ
  unfolding write_met
  write_met-shifted t m ns σ =
      ap (carry (λ s l. cond (member l.number (shift_all ns)) (carry (write t) s l.writes) s) σ) (letters-shifted m) ∙ over-all (letters m) σ
    where
      over-all : (ls : List Letter) (σ : List ℕ)
          → carry (λ s l. cond (member l.number (shift_all ns)) (carry (write t) s l.writes) s) σ (map shift_letter ls)
          ≡ carry (λ s l. cond (member l.number ns) (carry (write t) s l.writes) s) σ ls
      over-all [] σ = refl
      over-all (l ∷ ls) σ = over-all ls _ ∙ ap (λ o. carry (λ s l. cond (member l.number ns) (carry (write t) s l.writes) s) (cond o (carry (write t) σ l.writes) σ) ls) (member-shifted l.number ns)

-- ---- a part numbered from j on, now from k + j on ----

module _ (k j : ℕ) (e : Exp) (ordered : Ordered j e) where
  same-part : renumbered (k + j) e ≡ shifted k e
  same-part = renumbered-shifted k (k + j) j e refl ordered

  -- literals and writes are as they were
  pub letters-renumbered : letters (renumbered (k + j) e) ≡ map (shift_letter k) (letters e)
  letters-renumbered = ap letters same-part ∙ letters-shifted k e

  pub ask-renumbered : (L K : Way) → Like k L K → Like k (ask (renumbered (k + j) e) L) (ask e K)
  ask-renumbered L K h t = rw same-part (ask-shifted k e L K h t)

-- ---- a monitor, numbered from k on ----

module _ (k : ℕ) (m : Exp) (ordered : Ordered 0 m) where
  same-monitor : renumbered k m ≡ shifted k m
  same-monitor = renumbered-shifted k k 0 m (omega arith) ordered

  pub go-renumbered : (x : Positions) (t : Tick) → go (renumbered k m) (shift_positions k x) t ≡ shift k (go m x t)
  go-renumbered x t = rw same-monitor (go-shifted k m x t)

  pub closed-renumbered : Closed m → Closed (renumbered k m)
  closed-renumbered c = rw same-monitor (closed-shifted k m c)

  pub kept-renumbered : (ns : List ℕ) → kept (renumbered k m) (shift_all k ns) ≡ shift_all k (kept m ns)
  kept-renumbered ns = rw same-monitor (kept-shifted k m ns)

  pub write_met-renumbered : (t : Tick) (ns σ : List ℕ) → write_met t (renumbered k m) (shift_all k ns) σ ≡ write_met t m ns σ
  write_met-renumbered t ns σ = rw same-monitor (write_met-shifted k t m ns σ)

-- rule 10 asks for no numbers
pub renumbered-solid : (k : ℕ) (e : Exp) → Solid e → Solid (renumbered k e)
unfolding renumbered
renumbered-solid k (letter l) s = tt
renumbered-solid k (seq e f) s = (renumbered-solid k e s.0, renumbered-solid (k + size e) f s.1)
renumbered-solid k (alt e f) s = (renumbered-solid k e s.0, renumbered-solid (k + size e) f s.1)
renumbered-solid k (star e) s = (subst (λ b. T (not b)) (sym (nullable-renumbered k e)) s.0, renumbered-solid k e s.1)
renumbered-solid k (pipe e f) s = (
  subst (λ b. T (not b)) (sym (nullable-renumbered k e)) s.0,
  subst (λ b. T (not b)) (sym (nullable-renumbered (k + size e) f)) s.1,
  renumbered-solid k e s.2,
  renumbered-solid (k + size e) f s.3,
)

-- The walk is right: over the rows of a monitor it ends within its count, and finds the ways of the machine. Assumes nothing.
use mathlib.Core.List.{List, [], ◌∷◌}
use mathlib.Core.Bool.{Bool, true, false, not, cond}
use mathlib.Core.Option.{none}
use mathlib.Core.Path.{◌≡◌, refl, sym, ap, ap₂, ◌∙◌, subst}
use mathlib.Core.Logic.{⊎_elim}
use Prim.Native.Nat.{ℕ, zero, suc, ◌+◌, ◌-◌, ◌*◌, ◌≤◌}
use native.Mathlib.Omega.{arith}
use lib.Dec.{T, T_not, eqb, eqb→eq, eqb_refl}
use Rattle.meaning.specs.Lists.{◌∈◌}
use Rattle.meaning.specs.Expression.{rows, Letter, Exp, letter, seq, alt, star, pipe, letters}
use Rattle.meaning.specs.Shape.{nullable}
use Rattle.meaning.specs.Fit.{Tick}
use Rattle.meaning.specs.Positions.{Way, stuck, over, joined, Entered, met, passed, blocked, then_enter, or_enter, or_pass, enter, goes_by, ask, busy, begin, leave, on, at_start, go, go_all}
use Rattle.meaning.specs.Table.{Under, Holds, Kind, is_letter, is_seq, is_alt, is_star, is_pipe, Table}
use Rattle.meaning.specs.RowWalk.{enter_by, leave_by, enter_row, ask_row, leave_row}
use Rattle.meaning.proofs.ListLaws.{here, there, append-∈, one-∈, is_true, is_false, clash}
use Rattle.meaning.proofs.Step.{Solid}
use Rattle.meaning.proofs.Entering.{passed-nullable}
use Rattle.meaning.proofs.OneWay.{Numbered, Has}
use Rattle.meaning.proofs.Active.{in_left, in_right}
use Rattle.meaning.proofs.Ends.{EntersBy, LeavesBy, EnterEnds, AskEnds, LeaveEnds, goes_same, enter-calls, enter-once, ask-calls, ask-once, leave-calls, leave-once, own-calls, own-once}

pub a-row : (e : Exp) → 1 ≤ rows e
unfolding rows
a-row (letter l) = omega arith
a-row (seq e f) = omega arith
a-row (alt e f) = omega arith
a-row (star e) = omega arith
a-row (pipe e f) = omega arith

-- a star that leads nowhere goes on as its body does
star-stuck : (a : Entered) → goes_by a none ≡ goes_by (or_pass a) none
star-stuck (met n) = refl
star-stuck passed = refl
star-stuck blocked = refl

-- row c is the right operand of an `@`, and so no monitor's own
abbrev pub ThreadRow : Table → ℕ → Type 0
ThreadRow R c = ((R c).up ≡ c → ⊥) × ((R (R c).up).kind ≡ is_pipe) × (c ≡ (R (R c).up).left → ⊥)

-- only rows of threads are shut
abbrev pub ThreadsShut : (ℕ → Bool) → Table → Type 0
ThreadsShut shut R = (c : ℕ) → T (shut c) → ThreadRow R c

-- the threads of e, whose row is r, are shut where B says that they are busy
abbrev pub Shuts : (ℕ → Bool) → Table → (B : Exp → Bool) → ℕ → Exp → Type 0
Shuts shut R B r (letter l) = Unit {0}
Shuts shut R B r (seq e f) = Shuts shut R B (R r).left e × Shuts shut R B (R r).right f
Shuts shut R B r (alt e f) = Shuts shut R B (R r).left e × Shuts shut R B (R r).right f
Shuts shut R B r (star e) = Shuts shut R B (R r).left e
Shuts shut R B r (pipe e f) = (shut (R r).right ≡ B f) × Shuts shut R B (R r).left e × Shuts shut R B (R r).right f

module _ (shut : ℕ → Bool) (R : Table) (only : ThreadsShut shut R) (place : ℕ → ℕ) where
  -- from F calls on, entering row r ends and, if it is not shut, is entering e
  abbrev pub Enters : ℕ → Exp → ℕ → Type 0
  Enters r e F = (n : ℕ) → F ≤ n → EnterEnds n R r × ((t : Tick) → enter_row shut n R r t ≡ cond (shut r) blocked (enter e t))

  -- from F calls on, leaving row r ends and is K
  abbrev pub Leaves : ℕ → Way → ℕ → Type 0
  Leaves r K F = (n : ℕ) → F ≤ n → (t : Tick) → LeaveEnds shut n R r t × (leave_row shut n R r t ≡ K t)

  -- the same of asking it
  abbrev pub Asks : ℕ → Way → ℕ → Type 0
  Asks r K F = (n : ℕ) → F ≤ n → (t : Tick) → AskEnds shut n R r t × (ask_row shut n R r t ≡ K t)

  module _ (r : ℕ) (k : Kind) (is : (R r).kind ≡ k) where
    -- a row is entered: from what its calls do
    enters-from : (e : Exp)
        → ((n : ℕ) → rows e ≤ suc n → EntersBy k (EnterEnds n R (R r).left) (EnterEnds n R (R r).right)
        × ((t : Tick) → enter_by k t (enter_row shut n R (R r).left t) (enter_row shut n R (R r).right t) ≡ enter e t))
        → Enters r e (rows e)
    enters-from e f zero le = absurd (omega (arith, a-row e))
    enters-from e f (suc n) le = let (c, q) = f n le in ((enter-calls shut R r k is n).1 c, λ t. enter-once shut R r k is n t ∙ ap (cond (shut r) blocked) (q t))

    -- an operand is left
    leaves-from : (K : Way) (c : ℕ) → Under R r c → (o : Bool) → eqb c (R r).left ≡ o → (F : ℕ)
        → ((n : ℕ) → F ≤ n → (t : Tick) → LeavesBy k o (AskEnds shut n R (R r).right t) (LeaveEnds shut n R r t) (AskEnds shut n R r t)
        × (leave_by k o (ask_row shut n R (R r).right t) (leave_row shut n R r t) (ask_row shut n R r t) ≡ K t))
        → Leaves c K (suc F)
    leaves-from K c u o p F f zero le = absurd (omega arith)
    leaves-from K c u o p F f (suc n) le = λ t.
        let (e, q) = f n (omega arith) t in
        ((leave-calls shut R r c k is u o p n t).1 e, leave-once shut R r c k is u o p n t ∙ q)

  is-left : (r : ℕ) → eqb (R r).left (R r).left ≡ true
  is-left r = is_true (eqb (R r).left (R r).left) (eqb_refl (R r).left)

  is_right : (r : ℕ) → ((R r).right ≡ (R r).left → ⊥) → eqb (R r).right (R r).left ≡ false
  is_right r h = is_false (eqb (R r).right (R r).left) (λ e. h (eqb→eq (R r).right (R r).left e))

  -- ---- leaving an operand ----

  module _ (r : ℕ) where
    seq-left : (K : Way) (F : ℕ) → (R r).kind ≡ is_seq → Under R r (R r).left → Asks (R r).right K F → Leaves (R r).left K (suc F)
    seq-left K F k u a = leaves-from r is_seq k K (R r).left u true (is-left r) F a

    seq-right : (K : Way) (F : ℕ) → (R r).kind ≡ is_seq → Under R r (R r).right → ((R r).right ≡ (R r).left → ⊥) → Leaves r K F → Leaves (R r).right K (suc F)
    seq-right K F k u d l = leaves-from r is_seq k K (R r).right u false (is_right r d) F l

    alt-either : (c : ℕ) (K : Way) (F : ℕ) → (R r).kind ≡ is_alt → Under R r c → Leaves r K F → Leaves c K (suc F)
    alt-either c K F k u l = leaves-from r is_alt k K c u (eqb c (R r).left) refl F l

    star-body : (K : Way) (F : ℕ) → (R r).kind ≡ is_star → Under R r (R r).left → Asks r K F → Leaves (R r).left K (suc F)
    star-body K F k u a = leaves-from r is_star k K (R r).left u true (is-left r) F a

    pipe-left : (K L : Way) (F G : ℕ) → (R r).kind ≡ is_pipe → Under R r (R r).left → G ≤ F → Leaves r K F → Asks (R r).right L G
        → Leaves (R r).left (λ t. joined (K t) (L t)) (suc F)
    pipe-left K L F G k u h l a = leaves-from r is_pipe k (λ t. joined (K t) (L t)) (R r).left u true (is-left r) F (λ n le t.
        let (c, p) = l n le t in
        let (b, q) = a n (omega arith) t in
        ((c, b), ap₂ joined p q))

    pipe-right : (F : ℕ) → (R r).kind ≡ is_pipe → Under R r (R r).right → ((R r).right ≡ (R r).left → ⊥) → Leaves (R r).right over (suc F)
    pipe-right F k u d = leaves-from r is_pipe k over (R r).right u false (is_right r d) F (λ n le t. (tt, refl))

  -- ---- what is not shut ----

  left_open : (r : ℕ) → Under R r (R r).left → shut (R r).left ≡ false
  left_open r u = is_false (shut (R r).left) (λ h. (only (R r).left h).2 (ap (λ z. (R z).left) (sym u.0)))

  right-open : (r : ℕ) (k : Kind) → (R r).kind ≡ k → (k ≡ is_pipe → ⊥) → Under R r (R r).right → shut (R r).right ≡ false
  right-open r k is d u = is_false (shut (R r).right) (λ h. d (sym is ∙ ap (λ z. (R z).kind) (sym u.0) ∙ (only (R r).right h).1))

  own_open : (r : ℕ) → (R r).up ≡ r → shut r ≡ false
  own_open r u = is_false (shut r) (λ h. (only r h).0 u)

  opened : (r : ℕ) → shut r ≡ false → {a b : Entered} → a ≡ cond (shut r) blocked b → a ≡ b
  opened r o {a} {b} p = p ∙ ap (λ z. cond z blocked b) o

  -- ---- entering and asking ----

  pub enter-right : (e : Exp) (r : ℕ) → Holds R place r e → Enters r e (rows e)
  unfolding enter rows
  enter-right (letter l) r h = enters-from r (is_letter l) h.0 (letter l) (λ n le. (tt, λ t. refl))
  enter-right (seq e f) r h = enters-from r is_seq h.0 (seq e f) (λ n le.
      let (a, p) = enter-right e (R r).left h.4 n (omega arith) in
      let (b, q) = enter-right f (R r).right h.5 n (omega arith) in
      ((a, b), λ t. ap₂ then_enter (opened (R r).left (left_open r h.1) (p t)) (opened (R r).right (right-open r is_seq h.0 (λ z. clash (cc z)) h.2) (q t))))
  enter-right (alt e f) r h = enters-from r is_alt h.0 (alt e f) (λ n le.
      let (a, p) = enter-right e (R r).left h.3 n (omega arith) in
      let (b, q) = enter-right f (R r).right h.4 n (omega arith) in
      ((a, b), λ t. ap₂ or_enter (opened (R r).left (left_open r h.1) (p t)) (opened (R r).right (right-open r is_alt h.0 (λ z. clash (cc z)) h.2) (q t))))
  enter-right (star e) r h = enters-from r is_star h.0 (star e) (λ n le.
      let (a, p) = enter-right e (R r).left h.2 n (omega arith) in
      (a, λ t. ap or_pass (opened (R r).left (left_open r h.1) (p t))))
  enter-right (pipe e f) r h = enters-from r is_pipe h.0 (pipe e f) (λ n le.
      let (a, p) = enter-right e (R r).left h.4 n (omega arith) in
      (a, λ t. opened (R r).left (left_open r h.1) (p t)))

  -- an asked row is left only where it is not shut and what it holds is nullable, so no more need be known of leaving it
  ask-any : (e : Exp) (r : ℕ) (K : Way) (F : ℕ) → rows e ≤ F → Holds R place r e → Solid e → (T (nullable e) → Leaves r K F) → Asks r (λ t. cond (shut r) none (ask e K t)) (suc F)
  ask-any e r K F b h s g zero le t = absurd (omega arith)
  ask-any e r K F b h s g (suc n) le t =
      let (i, q) = enter-right e r h n (omega arith) in
      by (shut r) i (q t) (λ p. g (passed-nullable e s t p) n (omega arith) t)
    where
      by : (c : Bool) → EnterEnds n R r → enter_row shut n R r t ≡ cond c blocked (enter e t) → (enter e t ≡ passed → LeaveEnds shut n R r t × (leave_row shut n R r t ≡ K t))
          → AskEnds shut (suc n) R r t × (ask_row shut (suc n) R r t ≡ cond c none (ask e K t))
      by true i q left = ((ask-calls shut R r n t).1 (i, λ p. clash (cc (sym q ∙ p))), ask-once shut R r n t ∙ ap (λ a. goes_by a (leave_row shut n R r t)) q)
      by false i q left = ((ask-calls shut R r n t).1 (i, λ p. (left (sym q ∙ p)).0), ask-once shut R r n t ∙ goes_same (enter e t) q (λ p. (left p).1))

  asks-as : (r : ℕ) (c : Bool) (K : Way) (F : ℕ) → shut r ≡ c → Asks r (λ t. cond (shut r) none (K t)) F → Asks r (λ t. cond c none (K t)) F
  asks-as r c K F p h = subst (λ z. Asks r (λ t. cond z none (K t)) F) p h

  ask-right : (e : Exp) (r : ℕ) (K : Way) (F : ℕ) → shut r ≡ false → rows e ≤ F → Holds R place r e → Solid e → (T (nullable e) → Leaves r K F) → Asks r (ask e K) (suc F)
  ask-right e r K F o b h s g = asks-as r false (ask e K) (suc F) o (ask-any e r K F b h s g)

  -- of what is not nullable
  ask-solid : (e : Exp) (r : ℕ) (K : Way) (c : Bool) → shut r ≡ c → Holds R place r e → Solid e → T (not (nullable e)) → Asks r (λ t. cond c none (ask e K t)) (suc (rows e))
  ask-solid e r K c o h s x = asks-as r c (ask e K) (suc (rows e)) o (ask-any e r K (rows e) (omega arith) h s (λ y. absurd (T_not (nullable e) x y)))

  -- ---- leaving a letter ----

  leave-right : (B : Exp → Bool) (e : Exp) (r : ℕ) (K : Way) (F : ℕ) → (T (nullable e) → shut r ≡ false) → Shuts shut R B r e → rows e ≤ F → Holds R place r e → Solid e → Numbered e → Leaves r K F
      → (l : Letter) → l ∈ letters e → Leaves (place l.number) (leave B l.number e K) (F + 2 * rows e - 2)
  unfolding leave rows letters nullable
  leave-right B (letter x) r K F o d b h s a g l i = λ n le. subst (λ z. (t : Tick) → LeaveEnds shut n R z t × (leave_row shut n R z t ≡ K t)) (sym (ap (λ z. place z.number) (one-∈ i) ∙ h.1)) (g n (omega arith))
  leave-right B (seq e f) r K F o d b h s a g l i = ⊎_elim
      (λ j n le t.
      let (c, p) = leave-right B e (R r).left (ask f K) (suc (suc (suc F))) (λ y. left_open r h.1) d.0 (omega arith) h.4 s.0 a.1
      (seq-left r (ask f K) (suc (suc F)) h.0 h.1 (ask-right f (R r).right K (suc F) (right-open r is_seq h.0 (λ z. clash (cc z)) h.2) (omega arith) h.5 s.1 (λ hf. seq-right r K F h.0 h.2 h.3 g)))
      l j n (omega (arith, a-row e, a-row f)) t in
      (c, p ∙ sym (in_left e l _ _ j)))
      (λ j n le t.
      let (c, p) = leave-right B f (R r).right K (suc F) (λ y. right-open r is_seq h.0 (λ z. clash (cc z)) h.2) d.1 (omega arith) h.5 s.1 a.2 (seq-right r K F h.0 h.2 h.3 g) l j n (omega (arith, a-row e)) t in
      (c, p ∙ sym (in_right e f l _ _ a.0 j)))
      (append-∈ (letters e) i)
  leave-right B (alt e f) r K F o d b h s a g l i = ⊎_elim
      (λ j n le t.
      let (c, p) = leave-right B e (R r).left K (suc F) (λ y. left_open r h.1) d.0 (omega arith) h.3 s.0 a.1 (alt-either r (R r).left K F h.0 h.1 g) l j n (omega (arith, a-row f)) t in
      (c, p ∙ sym (in_left e l _ _ j)))
      (λ j n le t.
      let (c, p) = leave-right B f (R r).right K (suc F) (λ y. right-open r is_alt h.0 (λ z. clash (cc z)) h.2) d.1 (omega arith) h.4 s.1 a.2 (alt-either r (R r).right K F h.0 h.2 g) l j n (omega (arith, a-row e)) t in
      (c, p ∙ sym (in_right e f l _ _ a.0 j)))
      (append-∈ (letters e) i)
  leave-right B (star e) r K F o d b h s a g l i = λ n le.
      leave-right B e (R r).left (ask (star e) K) (suc (suc F)) (λ y. left_open r h.1) d (omega arith) h.2 s.1 a
      (star-body r (ask (star e) K) (suc F) h.0 h.1 (ask-right (star e) r K F (o tt) b h s (λ x. g)))
      l i n (omega (arith, a-row e))
  leave-right B (pipe e f) r K F o d b h s a g l i = ⊎_elim
      (λ j n le t.
      let (c, p) = leave-right B e (R r).left (λ u. joined (K u) (begin B f u)) (suc F) (λ y. left_open r h.1) d.1 (omega arith) h.4 s.2 a.1
      (pipe-left r K (begin B f) F (suc (rows f)) h.0 h.1 (omega (arith, a-row e)) g (ask-solid f (R r).right over (B f) d.0 h.5 s.3 s.1))
      l j n (omega (arith, a-row f)) t in
      (c, p ∙ sym (in_left e l _ _ j)))
      (λ j n le t.
      let (c, p) = leave-right B f (R r).right over (suc F) (λ y. absurd (T_not (nullable f) s.1 y)) d.2 (omega arith) h.5 s.3 a.2 (pipe-right r F h.0 h.2 h.3) l j n (omega (arith, a-row e)) t in
      (c, p ∙ sym (in_right e f l _ _ a.0 j)))
      (append-∈ (letters e) i)

  -- ---- a monitor, whose own row r points up at itself ----

  module _ (r : ℕ) (m : Exp) (held : Holds R place r m) (solid : Solid (star m)) (own : (R r).up ≡ r) where
    -- asking its row
    pub top-asks : Asks r (ask (star m) stuck) (2 * rows m)
    unfolding enter
    top-asks n le t = let (e, q) = ask-solid m r stuck false (own_open r own) held solid.1 solid.0 n (omega (arith, a-row m)) t in (e, q ∙ star-stuck (enter m t))

    pub rows_start : (N : ℕ) → 2 * rows m ≤ N → (t : Tick) → ask_row shut N R r t ≡ go m at_start t
    unfolding go
    rows_start N b t = (top-asks N b t).1

    module _ (numbered : Numbered m) where
      own-leaves : Leaves r (ask (star m) stuck) (suc (2 * rows m))
      own-leaves zero le = absurd (omega arith)
      own-leaves (suc n) le = λ t.
          let (e, q) = top-asks n (omega arith) t in
          ((own-calls shut R r own n t).1 e, own-once shut R r own n t ∙ q)

      -- leaving the row of a letter: 4 calls for each row are enough
      pub letter-leaves : (B : Exp → Bool) → Shuts shut R B r m → (l : Letter) → l ∈ letters m → Leaves (place l.number) (leave B l.number (star m) stuck) (4 * rows m)
      unfolding leave
      letter-leaves B d l i n le =
          leave-right B m r (ask (star m) stuck) (suc (2 * rows m)) (λ y. own_open r own) d (omega arith) held solid.1 numbered own-leaves l i n (omega (arith, a-row m))

      -- so the positions go on over the rows as in the machine
      pub rows-go : (N : ℕ) → 4 * rows m ≤ N → (ns : List ℕ) → ((k : ℕ) → k ∈ ns → Has k m) → Shuts shut R (busy ns) r m
          → (t : Tick) → go_all (λ n. leave_row shut N R (place n)) ns t ≡ go m (on ns) t
      unfolding go go_all
      rows-go N b ns w d t = all_go ns w
        where
          all_go : (ks : List ℕ) → ((k : ℕ) → k ∈ ks → Has k m) → go_all (λ n. leave_row shut N R (place n)) ks t ≡ go_all (λ n. leave (busy ns) n (star m) stuck) ks t
          all_go [] v = refl
          all_go (n ∷ ks) v =
              let (l, i, p) = v n (here refl) in
              ap₂ joined
              (subst (λ z. leave_row shut N R (place z) t ≡ leave (busy ns) z (star m) stuck t) p (letter-leaves (busy ns) d l i N b t).1)
              (all_go ks (λ k j. v k (there j)))

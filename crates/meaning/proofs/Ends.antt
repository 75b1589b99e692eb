-- The walk's calls stay within its count: stated apart from what the walk answers, but for one thing: a row that is asked is left only where entering it passes. From there on a greater count changes nothing. Assumes nothing.
use mathlib.Core.Bool.{Bool, true, false, cond}
use mathlib.Core.List.{List}
use mathlib.Core.Option.{Option}
use mathlib.Core.Path.{◌≡◌, refl, sym, ap, ap₂, ◌∙◌, subst}
use mathlib.Core.Logic.{◌↔◌}
use Prim.Native.Nat.{ℕ, zero, suc, ◌≤◌}
use native.Mathlib.Omega.{arith}
use lib.Dec.{eqb, eqb→eq, eqb_refl}
use Rattle.meaning.specs.Fit.{Tick}
use Rattle.meaning.specs.Positions.{joined, Entered, passed, blocked, then_enter, or_enter, or_pass, goes_by}
use Rattle.meaning.specs.Table.{Under, Kind, is_letter, is_seq, is_alt, is_star, is_pipe, Table}
use Rattle.meaning.specs.RowWalk.{enter_by, leave_by, enter_row, ask_row, leave_row}
use Rattle.meaning.proofs.ListLaws.{is_true, is_false}
use Rattle.meaning.proofs.Entering.{goes-by-only}

-- ---- what must end ----

-- the calls of `enter_by`
abbrev pub EntersBy : Kind → (a b : Type 0) → Type 0
EntersBy (is_letter l) a b = Unit {0}
EntersBy is_seq a b = a × b
EntersBy is_alt a b = a × b
EntersBy is_star a b = a
EntersBy is_pipe a b = a

-- the calls of `leave_by`
abbrev pub LeavesBy : Kind → (on-left : Bool) → (b c d : Type 0) → Type 0
LeavesBy (is_letter l) on-left b c d = Unit {0}
LeavesBy is_seq on-left b c d = cond on-left b c
LeavesBy is_alt on-left b c d = c
LeavesBy is_star on-left b c d = d
LeavesBy is_pipe on-left b c d = cond on-left (c × b) (Unit {0})

-- entering row r: n calls deep is enough
unfoldable pub EnterEnds : ℕ → Table → ℕ → Type 0
EnterEnds zero R r = ⊥
EnterEnds (suc n) R r = EntersBy (R r).kind (EnterEnds n R (R r).left) (EnterEnds n R (R r).right)

-- asking row r at a tick, leaving it
unfoldable mutual
  pub AskEnds : (ℕ → Bool) → ℕ → Table → ℕ → Tick → Type 0
  AskEnds shut zero R r t = ⊥
  AskEnds shut (suc n) R r t = EnterEnds n R r × (enter_row shut n R r t ≡ passed → LeaveEnds shut n R r t)

  pub LeaveEnds : (ℕ → Bool) → ℕ → Table → ℕ → Tick → Type 0
  LeaveEnds shut zero R r t = ⊥
  LeaveEnds shut (suc n) R r t =
      cond (eqb (R r).up r) (AskEnds shut n R r t)
      (LeavesBy (R (R r).up).kind (eqb r (R (R r).up).left) (AskEnds shut n R (R (R r).up).right t) (LeaveEnds shut n R (R r).up t) (AskEnds shut n R (R r).up t))

-- ---- the calls looked at are all that counts ----

enters-mono : (k : Kind) {a b a' b' : Type 0} → (a → a') → (b → b') → EntersBy k a b → EntersBy k a' b'
enters-mono (is_letter l) f g e = tt
enters-mono is_seq f g e = (f e.0, g e.1)
enters-mono is_alt f g e = (f e.0, g e.1)
enters-mono is_star f g e = f e
enters-mono is_pipe f g e = f e

enters-same : (k : Kind) (t : Tick) {a b : Type 0} {x y x' y' : Entered} → (a → x ≡ x') → (b → y ≡ y') → EntersBy k a b → enter_by k t x y ≡ enter_by k t x' y'
enters-same (is_letter l) t f g e = refl
enters-same is_seq t f g e = ap₂ then_enter (f e.0) (g e.1)
enters-same is_alt t f g e = ap₂ or_enter (f e.0) (g e.1)
enters-same is_star t f g e = ap or_pass (f e)
enters-same is_pipe t f g e = f e

-- how a row is left counts only where entering it passes
pub goes_same : (x : Entered) {y : Entered} {o o' : Option (List ℕ)} → y ≡ x → (x ≡ passed → o ≡ o') → goes_by y o ≡ goes_by x o'
goes_same x {y} {o} {o'} q f = rw q (goes-by-only x o o' f)

leaves-mono : (k : Kind) (o : Bool) {b c d b' c' d' : Type 0} → (b → b') → (c → c') → (d → d') → LeavesBy k o b c d → LeavesBy k o b' c' d'
leaves-mono (is_letter l) o f g h e = tt
leaves-mono is_seq true f g h e = f e
leaves-mono is_seq false f g h e = g e
leaves-mono is_alt o f g h e = g e
leaves-mono is_star o f g h e = h e
leaves-mono is_pipe true f g h e = (g e.0, f e.1)
leaves-mono is_pipe false f g h e = tt

leaves-same : (k : Kind) (o : Bool) {b c d : Type 0} {x y z x' y' z' : Option (List ℕ)} → (b → x ≡ x') → (c → y ≡ y') → (d → z ≡ z')
    → LeavesBy k o b c d → leave_by k o x y z ≡ leave_by k o x' y' z'
leaves-same (is_letter l) o f g h e = refl
leaves-same is_seq true f g h e = f e
leaves-same is_seq false f g h e = g e
leaves-same is_alt o f g h e = g e
leaves-same is_star o f g h e = h e
leaves-same is_pipe true f g h e = ap₂ joined (g e.0) (f e.1)
leaves-same is_pipe false f g h e = refl

-- the same for the test before `leave_by`
own_mono : (o : Bool) {a b a' b' : Type 0} → (a → a') → (b → b') → cond o a b → cond o a' b'
own_mono true f g e = f e
own_mono false f g e = g e

own_same : (o : Bool) {a b : Type 0} {x y x' y' : Option (List ℕ)} → (a → x ≡ x') → (b → y ≡ y') → cond o a b → cond o x y ≡ cond o x' y'
own_same true f g e = f e
own_same false f g e = g e

module _ (shut : ℕ → Bool) (R : Table) where
  -- ---- a greater count changes nothing ----

  pub ends-enter : (n m r : ℕ) → EnterEnds n R r → n ≤ m → EnterEnds m R r × ((t : Tick) → enter_row shut m R r t ≡ enter_row shut n R r t)
  unfolding EnterEnds enter_row
  ends-enter zero m r e h = absurd e
  ends-enter (suc n) zero r e h = absurd (omega arith)
  ends-enter (suc n) (suc m) r e h = (
    enters-mono (R r).kind (λ x. (ends-enter n m (R r).left x (omega arith)).0) (λ x. (ends-enter n m (R r).right x (omega arith)).0) e,
    λ t. ap (cond (shut r) blocked) (enters-same (R r).kind t (λ x. (ends-enter n m (R r).left x (omega arith)).1 t) (λ x. (ends-enter n m (R r).right x (omega arith)).1 t) e),
  )

  mutual
    unfolding AskEnds ask_row

    pub ends-ask : (n m r : ℕ) (t : Tick) → AskEnds shut n R r t → n ≤ m → AskEnds shut m R r t × (ask_row shut m R r t ≡ ask_row shut n R r t)
    ends-ask zero m r t e h = absurd e
    ends-ask (suc n) zero r t e h = absurd (omega arith)
    ends-ask (suc n) (suc m) r t e h =
        let (i, q) = ends-enter n m r e.0 (omega arith) in
        ((i, λ p. (ends-leave n m r t (e.1 (sym (q t) ∙ p)) (omega arith)).0), goes_same (enter_row shut n R r t) (q t) (λ p. (ends-leave n m r t (e.1 p) (omega arith)).1))

    pub ends-leave : (n m r : ℕ) (t : Tick) → LeaveEnds shut n R r t → n ≤ m → LeaveEnds shut m R r t × (leave_row shut m R r t ≡ leave_row shut n R r t)
    ends-leave zero m r t e h = absurd e
    ends-leave (suc n) zero r t e h = absurd (omega arith)
    ends-leave (suc n) (suc m) r t e h = (
      own_mono (eqb (R r).up r) (λ x. (ends-ask n m r t x (omega arith)).0)
          (leaves-mono (R (R r).up).kind (eqb r (R (R r).up).left) (λ x. (ends-ask n m (R (R r).up).right t x (omega arith)).0)
          (λ x. (ends-leave n m (R r).up t x (omega arith)).0) (λ x. (ends-ask n m (R r).up t x (omega arith)).0)) e,
      own_same (eqb (R r).up r) (λ x. (ends-ask n m r t x (omega arith)).1)
          (leaves-same (R (R r).up).kind (eqb r (R (R r).up).left) (λ x. (ends-ask n m (R (R r).up).right t x (omega arith)).1)
          (λ x. (ends-leave n m (R r).up t x (omega arith)).1) (λ x. (ends-ask n m (R r).up t x (omega arith)).1)) e,
    )

  -- ---- row r, of kind k, is entered ----

  module _ (r : ℕ) (k : Kind) (is : (R r).kind ≡ k) where
    pub enter-calls : (n : ℕ) → EnterEnds (suc n) R r ↔ EntersBy k (EnterEnds n R (R r).left) (EnterEnds n R (R r).right)
    unfolding EnterEnds
    enter-calls n =
        let calls : Kind → Type 0 = λ κ. EntersBy κ (EnterEnds n R (R r).left) (EnterEnds n R (R r).right) in
        (subst calls is, subst calls (sym is))

    pub enter-once : (n : ℕ) (t : Tick) → enter_row shut (suc n) R r t ≡ cond (shut r) blocked (enter_by k t (enter_row shut n R (R r).left t) (enter_row shut n R (R r).right t))
    unfolding enter_row
    enter-once n t = ap (λ κ. cond (shut r) blocked (enter_by κ t (enter_row shut n R (R r).left t) (enter_row shut n R (R r).right t))) is

    -- where n calls are enough, N are not fewer, and all calls may have N
    pub enter-unfolds : (n N : ℕ) → EnterEnds n R r → n ≤ N → (t : Tick) → enter_row shut N R r t ≡ cond (shut r) blocked (enter_by k t (enter_row shut N R (R r).left t) (enter_row shut N R (R r).right t))
    unfolding EnterEnds
    enter-unfolds zero N e h t = absurd e
    enter-unfolds (suc n) N e h t =
        (ends-enter (suc n) N r e h).1 t ∙ enter-once n t
        ∙ ap (cond (shut r) blocked)
        (enters-same k t (λ x. sym ((ends-enter n N (R r).left x (omega arith)).1 t)) (λ x. sym ((ends-enter n N (R r).right x (omega arith)).1 t)) ((enter-calls n).0 e))

  -- ---- row r is asked ----

  module _ (r : ℕ) where
    pub ask-calls : (n : ℕ) (t : Tick) → AskEnds shut (suc n) R r t ↔ (EnterEnds n R r × (enter_row shut n R r t ≡ passed → LeaveEnds shut n R r t))
    unfolding AskEnds
    ask-calls n t = (λ e. e, λ e. e)

    pub ask-once : (n : ℕ) (t : Tick) → ask_row shut (suc n) R r t ≡ goes_by (enter_row shut n R r t) (leave_row shut n R r t)
    unfolding ask_row
    ask-once n t = refl

    -- entering it passes, whatever count that has: leaving it ends
    pub passes_on : (n N : ℕ) (t : Tick) → AskEnds shut (suc n) R r t → n ≤ N → enter_row shut N R r t ≡ passed → LeaveEnds shut n R r t
    passes_on n N t e h p = let (i, l) = (ask-calls n t).0 e in l (sym ((ends-enter n N r i h).1 t) ∙ p)

    pub ask-unfolds : (n N : ℕ) (t : Tick) → AskEnds shut n R r t → n ≤ N → ask_row shut N R r t ≡ goes_by (enter_row shut N R r t) (leave_row shut N R r t)
    unfolding AskEnds
    ask-unfolds zero N t e h = absurd e
    ask-unfolds (suc n) N t e h =
        (ends-ask (suc n) N r t e h).1 ∙ ask-once n t
        ∙ goes_same (enter_row shut N R r t) (sym ((ends-enter n N r e.0 (omega arith)).1 t))
        (λ p. sym (ends-leave n N r t (passes_on n N t e (omega arith) p) (omega arith)).1)

  -- ---- operand c of row r, of kind k, is left; o: it is the left one ----

  module _ (r c : ℕ) (k : Kind) (is : (R r).kind ≡ k) (under : Under R r c) (o : Bool) (side : eqb c (R r).left ≡ o) where
    no-monitor : eqb (R c).up c ≡ false
    no-monitor = is_false (eqb (R c).up c) (λ e. under.1 (sym (eqb→eq (R c).up c e) ∙ under.0))

    pub leave-calls : (n : ℕ) (t : Tick) → LeaveEnds shut (suc n) R c t ↔ LeavesBy k o (AskEnds shut n R (R r).right t) (LeaveEnds shut n R r t) (AskEnds shut n R r t)
    unfolding LeaveEnds
    leave-calls n t = (
      λ e. rw (← is, ← side, ← under.0) (rw no-monitor at e),
      λ e. rw (no-monitor, under.0, is, side) e,
    )

    pub leave-once : (n : ℕ) (t : Tick) → leave_row shut (suc n) R c t ≡ leave_by k o (ask_row shut n R (R r).right t) (leave_row shut n R r t) (ask_row shut n R r t)
    unfolding leave_row
    leave-once n t = rw (no-monitor, under.0, is, side)

    pub leave-unfolds : (n N : ℕ) (t : Tick) → LeaveEnds shut n R c t → n ≤ N
        → leave_row shut N R c t ≡ leave_by k o (ask_row shut N R (R r).right t) (leave_row shut N R r t) (ask_row shut N R r t)
    unfolding LeaveEnds
    leave-unfolds zero N t e h = absurd e
    leave-unfolds (suc n) N t e h =
        (ends-leave (suc n) N c t e h).1 ∙ leave-once n t
        ∙ leaves-same k o (λ x. sym (ends-ask n N (R r).right t x (omega arith)).1) (λ x. sym (ends-leave n N r t x (omega arith)).1)
        (λ x. sym (ends-ask n N r t x (omega arith)).1) ((leave-calls n t).0 e)

  -- ---- a monitor's own row is left ----

  module _ (r : ℕ) (own : (R r).up ≡ r) where
    is-monitor : eqb (R r).up r ≡ true
    is-monitor = is_true (eqb (R r).up r) (rw own (eqb_refl r))

    pub own-calls : (n : ℕ) (t : Tick) → LeaveEnds shut (suc n) R r t ↔ AskEnds shut n R r t
    unfolding LeaveEnds
    own-calls n t = (λ e. rw is-monitor at e, λ e. rw is-monitor e)

    pub own-once : (n : ℕ) (t : Tick) → leave_row shut (suc n) R r t ≡ ask_row shut n R r t
    unfolding leave_row
    own-once n t = rw is-monitor

    pub own-unfolds : (n N : ℕ) (t : Tick) → LeaveEnds shut n R r t → n ≤ N → leave_row shut N R r t ≡ ask_row shut N R r t
    unfolding LeaveEnds
    own-unfolds zero N t e h = absurd e
    own-unfolds (suc n) N t e h = (ends-leave (suc n) N r t e h).1 ∙ own-once n t ∙ sym (ends-ask n N r t ((own-calls n t).0 e) (omega arith)).1

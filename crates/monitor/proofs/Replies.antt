-- A list of looks and takes on one watch: 16, 17, 15 and the verdicts are those of what moves in it; and the monitors' part of a tick is that of the meaning's machine. Assumes nothing.
use mathlib.Core.Path.{◌≡◌, refl, sym, ap, ap₂, ◌∙◌, subst}
use mathlib.Core.Bool.{Bool, cond}
use mathlib.Core.List.{List, [], ◌∷◌}
use Prim.Native.Nat.{ℕ, ◌≤◌, min}
use native.Mathlib.Omega.{arith}
use lib.Dec.{ltb}
use borrow.Author.Tests.{le-ltb, lt-ltb}
use lib.ListN.{length, get_or}
use Rattle.meaning.specs.Expression.{Exp}
use Rattle.meaning.specs.Fit.{Tick, Verdict, ok, bad}
use Rattle.meaning.specs.Positions as machine
use Rattle.meaning.specs.Calls.{Call, look, take, word_of, State, reply, after_call, replies_from, state_from}
use Rattle.meaning.proofs.ListLaws.{clash}
use Rattle.rules.specs.declared.Watch.{Watch}
use Rattle.monitor.specs.Ticks.{Layout, layout, within, Move, step_within, stuck_at}
use Rattle.monitor.specs.Calls.{Moving, given_of, layout_of, step_from, judge, onward, with_state, reply_of, watch_after, watch_after_call, replies_of, watch_after_all}
use Rattle.monitor.proofs.Moves.{MarksAll}
use Rattle.monitor.proofs.Watching.{Steps}

-- ---- calls on any watch

module _ (v : Watch) where
  abbrev next : State Moving → Call → State Moving
  next s c = after_call (onward v) s c (reply (judge v) v.wires s (word_of c))

  after-by : (s : State Moving) (c : Call) → watch_after_call (with_state v s) c ≡ with_state v (next s c)
  unfolding reply_of watch_after
  after-by s (look w) = refl
  after-by s (take w) = refl

  pub replies-by : (s : State Moving) (cs : List Call) → replies_of (with_state v s) cs ≡ replies_from (judge v) (onward v) v.wires s cs
  unfolding replies_of replies_from reply_of
  replies-by s [] = refl
  replies-by s (c ∷ cs) =
      ap (λ rs. reply (judge v) v.wires s (word_of c) ∷ rs) (ap (λ u. replies_of u cs) (after-by s c) ∙ replies-by (next s c) cs)

  pub watches-by : (s : State Moving) (cs : List Call) → watch_after_all (with_state v s) cs ≡ with_state v (state_from (judge v) (onward v) v.wires s cs)
  unfolding watch_after_all state_from
  watches-by s [] = refl
  watches-by s (c ∷ cs) = ap (λ u. watch_after_all u cs) (after-by s c) ∙ watches-by (next s c) cs

-- ---- a tick on a watch whose steps are those of the meaning's machine

-- the marks are the positions, and the store values stand as they do in a watch
pub record Like (ms : List Exp) (pad : List ℕ → List ℕ) (stores : ℕ) (s : Moving) (m : machine.Watch) : Type 0 where
  pub marks : MarksAll s.marks 0 0 ms m.positions
  pub values : s.values ≡ pad m.stores
  pub last : s.last ≡ m.last
  pub long : length m.stores ≡ stores

-- the verdict of the monitors; W6: "the lowest monitor that does not fit"
abbrev pub monitors_verdict : Watch → Moving → ℕ → Verdict
monitors_verdict v s w = cond (stuck_at (step_from v s w).monitor v.monitors) (bad (step_from v s w).monitor) ok

-- by the monitor reached
told-by : (ms : List Exp) (t : Tick) (σ : List ℕ) (pad : List ℕ → List ℕ) (stores : ℕ) (a : machine.Ticked) (z : Move) → Steps ms t σ pad stores a z
    → cond (ltb z.monitor (length ms)) (bad z.monitor) ok ≡ machine.told a
told-by ms t σ pad stores (machine.fine nss) z h =
    let e = (h.goes nss refl).0 in
    ap (λ (b : Bool). cond b (bad z.monitor) ok) (le-ltb z.monitor (length ms) (omega (arith, e)))
told-by ms t σ pad stores (machine.wrong j) z h =
    let (e, l) = h.stands j refl in
    ap (λ (b : Bool). cond b (bad z.monitor) ok) (lt-ltb z.monitor (length ms) (omega (arith, e, l))) ∙ ap bad e

-- a machine that moved is at no monitor's start
pub moved_on : (ms : List Exp) (m : machine.Watch) (w : ℕ) → machine.answer ms m w ≡ ok → (nss : List (List ℕ)) × ((machine.moved ms m w).positions ≡ machine.kept_each ms nss)
moved_on ms m w e = by (machine.ticked ms m w) e
  where
    by : (a : machine.Ticked) → machine.told a ≡ ok → (nss : List (List ℕ)) × ((machine.moved_by ms m w a).positions ≡ machine.kept_each ms nss)
    by (machine.fine nss) e = (nss, refl)
    by (machine.wrong j) e = clash (cc e)

module _ (ms : List Exp) (pad : List ℕ → List ℕ) (stores : ℕ) (v : Watch) (monitors : v.monitors ≡ length ms) (few_monitors : length ms ≤ 32) (few_letters : v.letters ≤ 256)
    (steps : (s : Moving) (m : machine.Watch) → Like ms pad stores s m → (w : ℕ)
    → Steps ms (machine.seen m w) m.stores pad stores (machine.ticked ms m w) (step_within (given_of v s.values (w ∷ s.last ∷ [])) (layout_of v) s.marks)) where
  -- no number is too large
  all-within : within (layout_of v) ≡ layout_of v
  all-within =
      let a : min v.monitors 32 ≡ v.monitors = omega (arith, monitors, few_monitors) in
      let b : min v.letters 256 ≡ v.letters = omega (arith, few_letters) in
      ap₂ (layout v.places v.own v.firsts) a b

  steps-within : (s : Moving) (m : machine.Watch) → Like ms pad stores s m → (w : ℕ) → Steps ms (machine.seen m w) m.stores pad stores (machine.ticked ms m w) (step_from v s w)
  steps-within s m l w =
      subst (λ (y : Layout). Steps ms (machine.seen m w) m.stores pad stores (machine.ticked ms m w) (step_within (given_of v s.values (w ∷ s.last ∷ [])) y s.marks)) (sym all-within) (steps s m l w)

  pub same-judgment : (s : Moving) (m : machine.Watch) → Like ms pad stores s m → (w : ℕ) → monitors_verdict v s w ≡ machine.answer ms m w
  same-judgment s m l w =
      ap (λ (n : ℕ). cond (ltb (step_from v s w).monitor n) (bad (step_from v s w).monitor) ok) (ap (λ (y : Layout). y.monitors) all-within ∙ monitors)
      ∙ told-by ms (machine.seen m w) m.stores pad stores (machine.ticked ms m w) (step_from v s w) (steps-within s m l w)

  pub same_move : (s : Moving) (m : machine.Watch) → Like ms pad stores s m → (w : ℕ) → machine.answer ms m w ≡ ok → Like ms pad stores (onward v s w) (machine.moved ms m w)
  same_move s m l w e = by (machine.ticked ms m w) (steps-within s m l w) e
    where
      by : (a : machine.Ticked) → Steps ms (machine.seen m w) m.stores pad stores a (step_from v s w) → machine.told a ≡ ok → Like ms pad stores (onward v s w) (machine.moved_by ms m w a)
      by (machine.fine nss) h e = let (a, b, c, d) = h.goes nss refl in record { marks = b; values = c; last = refl; long = d }
      by (machine.wrong j) h e = clash (cc e)

  -- and where each mark behind a good tick is 0 or 1, each of the watch that moved on is
  pub bits-move : (s : Moving) (m : machine.Watch) (w : ℕ)
      → ((nss : List (List ℕ)) → machine.ticked ms m w ≡ machine.fine nss → (k : ℕ) → get_or (step_within (given_of v s.values (w ∷ s.last ∷ [])) (layout_of v) s.marks).marks k 0 ≤ 1)
      → machine.answer ms m w ≡ ok → (k : ℕ) → get_or (onward v s w).marks k 0 ≤ 1
  bits-move s m w h e = by (machine.ticked ms m w) refl e
    where
      by : (a : machine.Ticked) → machine.ticked ms m w ≡ a → machine.told a ≡ ok → (k : ℕ) → get_or (onward v s w).marks k 0 ≤ 1
      by (machine.fine nss) q e k = subst (λ (y : Layout). get_or (step_within (given_of v s.values (w ∷ s.last ∷ [])) y s.marks).marks k 0 ≤ 1) (sym all-within) (h nss q k)
      by (machine.wrong j) q e k = clash (cc e)

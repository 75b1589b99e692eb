-- Laws of what the functions of the reader promise. Assumes nothing.
use mathlib.Core.Path.{◌≡◌, ◌∙◌}
use mathlib.Core.List.{List}
use Prim.Native.Nat.{ℕ, ◌≤◌}
use native.Mathlib.Omega.{arith}
use lib.ListN.{length}
use Rattle.meaning.specs.Answers.{Answer}
use Rattle.meaning.specs.Reading.{Expect}
use Rattle.meaning.specs.Names.{Names, Program}
use Rattle.rules.specs.Cells.{Cells}
use Rattle.rules.specs.Reads.{read_from, Unless, fine, faulted}
use Rattle.rules.specs.Conditions.{Extends, Room, Spent}
use Rattle.rules.specs.Tasks.{Gains, Fails, Task}
use Rattle.rules.proofs.Put.{extends-then}
use Rattle.rules.proofs.Kept.{cells-kept}

pub room-on : {text P : List ℕ} {pos next c : ℕ} → Room text P pos c → pos ≤ next → next ≤ length text → Room text P next c
room-on r l m = record { some = r.some; fits = omega (arith, r.fits); inside = m; small = r.small }

-- room behind what was read
pub room_after : {text P Q : List ℕ} {pos next c d : ℕ} → Room text P pos c → Extends P c Q d → Spent text pos c next d → Room text Q next d
room_after r e s =
    record { some = omega (arith, r.some, e.more); fits = omega (arith, r.fits, s.few, e.long); inside = s.inside; small = omega (arith, r.small, e.long) }

pub spent-then : {text : List ℕ} {pos next last c d e : ℕ} → Spent text pos c next d → Spent text next d last e → Spent text pos c last e
spent-then a b = record { since = omega (arith, a.since, b.since); inside = b.inside; few = omega (arith, a.few, b.few) }

module _ (text P : List ℕ) (pos c h : ℕ) (S T X : Type 0) (Before : S → Type 0) (After : T → Type 0) (good : X → Type 0) (from : Names → X → S → Answer Program) (to : X → T → Expect) where
  -- a refusal
  pub task-fails : (f place free : ℕ) (Q : List ℕ) → length Q ≡ length P → (f ≡ 0 → ⊥) → Fails text P c h S X Before good from f place → Task text P pos c h S T X Before After good from to f place free Q
  task-fails f place free Q l n e = record { long = l; outcome = faulted n e }

  -- the same from another place, where reading comes to the same
  pub task-from : (there : Names → X → S → Answer Program) (at f next free : ℕ) (Q : List ℕ) → pos ≤ at
      → ((ns : Names) → Cells text P c h ns.declared → (s : S) → Before s → (x : X) → good x → from ns x s ≡ there ns x s)
      → Task text P at c h S T X Before After good there to f next free Q → Task text P pos c h S T X Before After good from to f next free Q
  task-from there at f next free Q l e a = record { long = a.long; outcome = by a.outcome }
    where
      by : Unless f (Gains text P at c h S T X Before After good there to next free Q) (Fails text P c h S X Before good there f next)
          → Unless f (Gains text P pos c h S T X Before After good from to next free Q) (Fails text P c h S X Before good from f next)
      by (fine z g) =
          fine z (record {
            extends = g.extends;
            spent = let s = g.spent in record { since = omega (arith, s.since); inside = s.inside; few = omega (arith, s.few) };
            reads = λ ns k s b. let (t, a, on) = g.reads ns k s b in (t, a, λ x w. e ns k s b x w ∙ on x w);
          })
      by (faulted n g) = faulted n (λ ns k s b x w. e ns k s b x w ∙ g ns k s b x w)

-- one thing behind another
module _ (text P : List ℕ) (pos c h : ℕ) (S T U X Y : Type 0) (Before : S → Type 0) (Mid : T → Type 0) (After : U → Type 0) (good : X → Type 0) (fit : Y → Type 0)
    (from : Names → X → S → Answer Program) (via : X → T → Expect) (to : X → U → Expect) (next free : ℕ) (Q : List ℕ) where
  pub task-then : Gains text P pos c h S T X Before Mid good from via next free Q
      → (there : Names → Y → T → Answer Program) (on : Y → U → Expect) (turn : X → Y) → ((x : X) → good x → fit (turn x))
      → (at : ℕ) → next ≤ at → ((ns : Names) → Cells text Q free h ns.declared → (x : X) → good x → (t : T) → Mid t → read_from text next ns (via x t) ≡ there ns (turn x) t)
      → (f last end : ℕ) (R : List ℕ) → Task text Q at free h T U Y Mid After fit there on f last end R
      → ((ns : Names) (x : X) → good x → (u : U) → read_from text last ns (on (turn x) u) ≡ read_from text last ns (to x u))
      → Task text P pos c h S U X Before After good from to f last end R
  task-then a there on turn fits at l e f last end R b same = record { long = b.long ∙ a.extends.long; outcome = by b.outcome }
    where
      by : Unless f (Gains text Q at free h T U Y Mid After fit there on last end R) (Fails text Q free h T Y Mid fit there f last)
          → Unless f (Gains text P pos c h S U X Before After good from to last end R) (Fails text P c h S X Before good from f last)
      by (fine z g) =
          fine z (record {
            extends = extends-then a.extends g.extends;
            spent = let s = a.spent in let u = g.spent in record { since = omega (arith, s.since, u.since); inside = u.inside; few = omega (arith, s.few, u.few) };
            reads = λ ns k s p.
                let (t, m, q) = a.reads ns k s p in
                let j = cells-kept P c Q free a.extends text h ns.declared k in
                let (u, w, r) = g.reads ns j t m in
                (u, w, λ x o. q x o ∙ e ns j x o t m ∙ r (turn x) (fits x o) ∙ same ns x o u);
          })
      by (faulted n g) =
          faulted n (λ ns k s p x o.
          let (t, m, q) = a.reads ns k s p in
          let j = cells-kept P c Q free a.extends text h ns.declared k in
          q x o ∙ e ns j x o t m ∙ g ns j t m (turn x) (fits x o))

-- Entering a part: it is left at once only where it can fit no ticks. Assumes nothing.
use mathlib.Core.List.{List}
use mathlib.Core.Bool.{Bool, true, false, not, cond, ◌&&◌, ◌||◌}
use mathlib.Core.Option.{Option}
use mathlib.Core.Path.{◌≡◌, refl, subst}
use Prim.Native.Nat.{ℕ}
use lib.Dec.{T, T_not}
use Rattle.meaning.specs.Expression.{Exp, letter, seq, alt, star, pipe}
use Rattle.meaning.specs.Shape.{nullable}
use Rattle.meaning.specs.Fit.{Tick, meets}
use Rattle.meaning.specs.Positions.{Entered, met, passed, blocked, then_enter, or_enter, or_pass, enter, goes_by}
use Rattle.meaning.proofs.Step.{Solid}

-- what entering comes to suits a part that is nullable or not, as b says
abbrev Suits : Entered → Bool → Type 0
Suits (met n) b = Unit {0}
Suits passed b = T b
Suits blocked b = T (not b)

suits-then : (a b : Entered) (x y : Bool) → Suits a x → Suits b y → Suits (then_enter a b) (x && y)
suits-then (met n) b x y p q = tt
suits-then passed b true y p q = q
suits-then passed b false y p q = absurd p
suits-then blocked b true y p q = absurd p
suits-then blocked b false y p q = tt

suits-or : (a b : Entered) (x y : Bool) → Suits a x → Suits b y → Suits (or_enter a b) (x || y)
suits-or (met n) b x y p q = tt
suits-or passed (met n) x y p q = tt
suits-or passed passed true y p q = tt
suits-or passed passed false y p q = absurd p
suits-or passed blocked true y p q = tt
suits-or passed blocked false y p q = absurd p
suits-or blocked b true y p q = absurd p
suits-or blocked b false y p q = q

suits-star : (a : Entered) → Suits (or_pass a) true
suits-star (met n) = tt
suits-star passed = tt
suits-star blocked = tt

suits-pipe : (a : Entered) (x : Bool) → T (not x) → Suits a x → Suits a false
suits-pipe (met n) x h p = tt
suits-pipe passed x h p = absurd (T_not x h p)
suits-pipe blocked x h p = tt

suits-letter : (n : ℕ) (b : Bool) → Suits (cond b (met n) blocked) false
suits-letter n true = tt
suits-letter n false = tt

enter-suits : (e : Exp) → Solid e → (t : Tick) → Suits (enter e t) (nullable e)
unfolding enter nullable
enter-suits (letter l) s t = suits-letter l.number (meets l t)
enter-suits (seq e f) s t = suits-then (enter e t) (enter f t) (nullable e) (nullable f) (enter-suits e s.0 t) (enter-suits f s.1 t)
enter-suits (alt e f) s t = suits-or (enter e t) (enter f t) (nullable e) (nullable f) (enter-suits e s.0 t) (enter-suits f s.1 t)
enter-suits (star e) s t = suits-star (enter e t)
enter-suits (pipe e f) s t = suits-pipe (enter e t) (nullable e) s.0 (enter-suits e s.2 t)

pub passed-nullable : (e : Exp) → Solid e → (t : Tick) → enter e t ≡ passed → T (nullable e)
passed-nullable e s t p = subst (λ a. Suits a (nullable e)) p (enter-suits e s t)

-- ---- going on ----

pub goes_then : (a b : Entered) (o : Option (List ℕ)) → goes_by (then_enter a b) o ≡ goes_by a (goes_by b o)
goes_then (met n) b o = refl
goes_then passed b o = refl
goes_then blocked b o = refl

-- what follows counts only where the part is left at once
pub goes-by-only : (a : Entered) (o p : Option (List ℕ)) → (a ≡ passed → o ≡ p) → goes_by a o ≡ goes_by a p
goes-by-only (met n) o p h = refl
goes-by-only passed o p h = h refl
goes-by-only blocked o p h = refl

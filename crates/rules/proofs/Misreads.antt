-- Misreadings: each has a number that is not 0, and answers that agree in what they say of a refusal. Assumes nothing.
use mathlib.Core.Path.{◌≡◌, refl, ap}
use Prim.Native.Nat.{ℕ, ◌<◌}
use native.Mathlib.Omega.{arith}
use Rattle.refusals.specs.declared.Refusal.{Refusal}
use Rattle.refusals.specs.declared.Refusal.TheVariants.{Overlong, Knot, Misplaced, Unknown, Twice, Oversize, Crowded, LongRun, Impossible, Hollow, OpenEnd, Fork, Torn, IdleByte, Stray, Stopped, Full, ShortBin, Stretch, NotSingle}
use Rattle.refusals.specs.Refusals.{number_of}
use Rattle.std.specs.Prelude.{Result, Ok, Err}
use Rattle.std.specs.Result.{IsErrAnd, IfOk}
use Rattle.rules.specs.declared.tokens.Misread.{Misread}
use Rattle.rules.specs.Misreads.{fault_in, at_in}

-- the number of a refusal is never 0
pub some : (w : Refusal) → number_of w ≡ 0 → ⊥
some Overlong e = omega arith
some Knot e = omega arith
some Misplaced e = omega arith
some Unknown e = omega arith
some Twice e = omega arith
some Oversize e = omega arith
some Crowded e = omega arith
some LongRun e = omega arith
some Impossible e = omega arith
some Hollow e = omega arith
some OpenEnd e = omega arith
some Fork e = omega arith
some Torn e = omega arith
some IdleByte e = omega arith
some Stray e = omega arith
some Stopped e = omega arith
some Full e = omega arith
some ShortBin e = omega arith
some Stretch e = omega arith
some NotSingle e = omega arith

-- what `?` returns is the refusal that it met
pub exit : {T : Type 0} {e : Misread} (r : Result T Misread) → IsErrAnd r (λ y. y ≡ e) → r ≡ Err e
exit (Ok a) q = absurd q
exit (Err e) q = ap Err q

-- where reading goes on, by an answer and by its numbers
pub ok-past : {T : Type 0} (f : T → ℕ) (n : ℕ) (r : Result T Misread) → (fault_in r ≡ 0 → n < at_in f r) → IfOk r (λ a. n < f a)
ok-past f n (Ok a) l = l refl
ok-past f n (Err e) l = tt

pub past-ok : {T : Type 0} (f : T → ℕ) (n : ℕ) (r : Result T Misread) → IfOk r (λ a. n < f a) → fault_in r ≡ 0 → n < at_in f r
past-ok f n (Ok a) l z = l
past-ok f n (Err e) l z = absurd (some e.why z)

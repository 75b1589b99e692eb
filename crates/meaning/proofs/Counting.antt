-- What a tick touches, counted without branches: from the letters met at the tick before, in a form that a table can hold one number a row for. Definitions, which proofs/Touching, proofs/Tally and proofs/Levels
-- tie to specs/Touched.
use mathlib.Core.List.{List, [], ◌∷◌, ◌++◌}
use mathlib.Core.Bool.{Bool, true, false, cond, ◌&&◌, ◌||◌}
use Prim.Native.Nat.{ℕ, suc, ◌+◌}
use Rattle.meaning.specs.Lists.{any}
use Rattle.meaning.specs.Expression.{Exp, letter, seq, alt, star, pipe, letters, rows}
use Rattle.meaning.specs.Shape.{nullable, last}
use Rattle.meaning.specs.Positions.{has}
use Rattle.meaning.specs.Touched.{Touch, asked, left}

-- ---- lists of touches ----

-- e, whose row is r, is asked, and X is touched where it is left at once
unfoldable pub asking : (r : ℕ) → Exp → List Touch → List Touch
asking r (letter l) X = asked r ∷ []
asking r (seq e f) X = asked r ∷ asking (suc r) e (asking (suc r + rows e) f (left r ∷ X))
asking r (alt e f) X = asked r ∷ (asking (suc r) e (left r ∷ X) ++ asking (suc r + rows e) f (left r ∷ X))
asking r (star e) X = asked r ∷ ((left r ∷ X) ++ asking (suc r) e (left r ∷ X))
asking r (pipe e f) X = asked r ∷ asking (suc r) e ((left r ∷ X) ++ asking (suc r + rows e) f [])

-- letter n of e is left, and X is touched where e is
unfoldable pub leaving : (n r : ℕ) → Exp → List Touch → List Touch
leaving n r (letter l) X = left r ∷ X
leaving n r (seq e f) X = cond (has n e) (leaving n (suc r) e (asking (suc r + rows e) f (left r ∷ X))) (leaving n (suc r + rows e) f (left r ∷ X))
leaving n r (alt e f) X = cond (has n e) (leaving n (suc r) e (left r ∷ X)) (leaving n (suc r + rows e) f (left r ∷ X))
leaving n r (star e) X = leaving n (suc r) e ((left r ∷ X) ++ asking (suc r) e (left r ∷ X))
leaving n r (pipe e f) X = cond (has n e) (leaving n (suc r) e ((left r ∷ X) ++ asking (suc r + rows e) f [])) (leaving n (suc r + rows e) f [])

-- what a monitor touches at its start, and where letter n was met at the tick before
abbrev pub touches_at_start : Exp → List Touch
touches_at_start m = asking 0 m []

abbrev pub touches_after : Exp → ℕ → List Touch
touches_after m n = leaving n 0 m (asking 0 m [])

-- ---- row by row: act tells the letters met at the tick before ----

abbrev pub one : Bool → ℕ
one b = cond b 1 0

-- e is left, where a tells whether it is asked
unfoldable pub ends : (act : ℕ → Bool) → Exp → (a : Bool) → Bool
ends act (letter l) a = act l.number
ends act (seq e f) a = ends act f (ends act e a)
ends act (alt e f) a = ends act e a || ends act f a
ends act (star e) a = a || ends act e a
ends act (pipe e f) a = ends act e a

-- how many touches there are in e
unfoldable pub tally : (act : ℕ → Bool) → Exp → (a : Bool) → ℕ
tally act (letter l) a = one a + one (act l.number)
tally act (seq e f) a = one a + one (ends act (seq e f) a) + tally act e a + tally act f (ends act e a)
tally act (alt e f) a = one a + one (ends act (alt e f) a) + tally act e a + tally act f a
tally act (star e) a = one a + one (ends act (star e) a) + tally act e (a || ends act e a)
tally act (pipe e f) a = one a + one (ends act (pipe e f) a) + tally act e a + tally act f (ends act e a)

-- a monitor that ends is asked again
abbrev pub tally_after : (act : ℕ → Bool) → Exp → ℕ
tally_after act m = tally act m (ends act m false)

-- ---- one number a row ----

-- how many touches there are where e is asked, and none of its letters was met
unfoldable pub asked_count : Exp → ℕ
asked_count (letter l) = 1
asked_count (seq e f) = 1 + one (nullable e && nullable f) + asked_count e + cond (nullable e) (asked_count f) 0
asked_count (alt e f) = 1 + one (nullable e || nullable f) + asked_count e + asked_count f
asked_count (star e) = 2 + asked_count e
asked_count (pipe e f) = 1 + asked_count e

-- Of a part: how many touches there are where it is left, itself among them, in the thread that it stands in, up to that thread's own row; the same without those that starting the thread has too; and whether
-- starting the thread asks it.
pub record Place : Type 0 where
  pub whole : ℕ
  pub rest : ℕ
  pub begins : Bool

abbrev pub place : (whole rest : ℕ) → Bool → Place
place w r b = record { whole = w; rest = r; begins = b }

-- leaving a part is a touch that starting has not, unless that asks the part (b), which is nullable (n)
abbrev pub fresh : (b n : Bool) → ℕ
fresh b n = cond (b && n) 0 1

-- the operands' places, by that of the row above
abbrev pub left_of_seq : (e f : Exp) → Place → Place
left_of_seq e f c = place (1 + asked_count f + cond (nullable f) c.whole 0)
    (fresh c.begins (nullable e) + cond (c.begins && nullable e) 0 (asked_count f) + cond (nullable f) c.rest 0) c.begins

abbrev pub right_of_seq : (e f : Exp) → Place → Place
right_of_seq e f c = place (1 + c.whole) (fresh (c.begins && nullable e) (nullable f) + c.rest) (c.begins && nullable e)

abbrev pub side_of_alt : (e : Exp) → Place → Place
side_of_alt e c = place (1 + c.whole) (fresh c.begins (nullable e) + c.rest) c.begins

abbrev pub body_of_star : (e : Exp) → Place → Place
body_of_star e c = place (1 + asked_count e + c.whole) (fresh c.begins (nullable e) + cond c.begins 0 (asked_count e) + c.rest) c.begins

abbrev pub left_of_pipe : (e : Exp) → Place → Place
left_of_pipe e c = place (1 + c.whole) (fresh c.begins (nullable e) + c.rest) c.begins

abbrev pub thread_place : (f : Exp) → Place
thread_place f = place 1 (fresh true (nullable f)) true

abbrev pub own_place : (m : Exp) → Place
own_place m = place (1 + asked_count m) (1 + asked_count m) false

-- some letter met is a last one of e: behind it, as the left operand of an `@`, the thread is asked
abbrev pub starts : (act : ℕ → Bool) → Exp → Bool
starts act e = any (λ x. act x.number && last x.number e) (letters e)

-- The touches of e, whose place is c: of each letter met those of its place, and of each thread that is asked those of that. s: the thread that e stands in is asked.
unfoldable pub sums : (act : ℕ → Bool) → Exp → Place → (s : Bool) → ℕ
sums act (letter l) c s = cond (act l.number) (cond s c.rest c.whole) 0
sums act (seq e f) c s = sums act e (left_of_seq e f c) s + sums act f (right_of_seq e f c) s
sums act (alt e f) c s = sums act e (side_of_alt e c) s + sums act f (side_of_alt f c) s
sums act (star e) c s = sums act e (body_of_star e c) s
sums act (pipe e f) c s = sums act e (left_of_pipe e c) s + (cond (starts act e) (asked_count f) 0 + sums act f (thread_place f) (starts act e))

-- of a monitor
abbrev pub sums_after : (act : ℕ → Bool) → Exp → ℕ
sums_after act m = sums act m (own_place m) false

-- The rows that a take touches (docs/REFERENCE.md, F23 to F26): asked are those that a branch still open before the tick can begin at it, left are those whose part it can have ended on the border just before
-- it. A branch goes as in Fit, and where the words end it answers with what it touches there; the word of the tick itself is not looked at.
use Rattle.std.specs.Prelude.{List, [], ◌∷◌, ◌++◌, map, Bool, false, ℕ, zero, suc, ◌+◌, eqb, length}
use Rattle.meaning.specs.Lists.{each, any, total, count, only, keep, below}
use Rattle.meaning.specs.Expression.{Letter, Exp, letter, seq, alt, star, pipe, rows}
use Rattle.meaning.specs.Fit.{Tick, meets, Run, merge, unoccupied}

-- F23: "a row is touched in two ways"
pub data Touch : Type 0 where
  asked : (row : ℕ) → Touch
  left : (row : ℕ) → Touch

-- What a branch did at each tick, and what it touches on the border behind the last of them.
pub record Branch : Type 0 where
  pub run : Run
  pub touches : List Touch

-- a demand, asked of the ticks that are left, as `Rest`: all the branches of what is still to fit
abbrev pub Rest : Type 0
Rest = List Tick → List Branch

-- where the words end there is one branch
abbrev pub standing : List Touch → List Branch
standing xs = record { run = []; touches = xs } ∷ []

-- two branches at once
abbrev pub beside : Branch → Branch → Branch
beside a b = record { run = merge a.run b.run; touches = a.touches ++ b.touches }

abbrev pub both : List Branch → List Branch → List Branch
both A B = each A (λ a. map (beside a) B)

-- F8: one or the other; F23: "What a branch has not settled before the tick it can still settle in every way"
abbrev pub either : Rest → Rest → Rest
either K L [] = both (K []) (L [])
either K L (t ∷ ts) = K (t ∷ ts) ++ L (t ∷ ts)

-- a touch, on the border alone
abbrev pub noting : Touch → Rest → Rest
noting x K [] = both (standing (x ∷ [])) (K [])
noting x K (t ∷ ts) = K (t ∷ ts)

-- F10: behind a thread; F13: behind a monitor
abbrev pub anything : Rest
anything ts = standing []

abbrev pub nothing : Rest
nothing [] = standing []
nothing (t ∷ ts) = []

-- K where the words end, L before
abbrev pub on_border : Rest → Rest → Rest
on_border K L [] = K []
on_border K L (t ∷ ts) = L (t ∷ ts)

-- F9, as `rounds` of Fit. F24: "A further round asks the star's body, not the star": on the border, where one round tells what all do.
unfoldable pub rounds : (Rest → Rest) → Rest → ℕ → Rest
rounds body K zero ts = on_border (either K (body K)) K ts
rounds body K (suc n) ts = on_border (either K (body K)) (either K (body (λ us. rounds body K n us))) ts

-- a branch whose first tick letter l had
abbrev pub having : Letter → Branch → Branch
having l b = record { run = (l.number ∷ []) ∷ b.run; touches = b.touches }

-- The branches of e, whose row is r, with the demand K behind it: as `runs`. F24: a row is asked "where it is to fit from the tick on"; F25: it is left "if
-- such a branch can have ended its part on the border just before the tick, a part of no ticks included", "an `@` with its left operand".
unfoldable pub reach : (r : ℕ) → Exp → Rest → Rest
reach r (letter l) K [] = standing (asked r ∷ [])
reach r (letter l) K (t ∷ ts) = only (meets l t) (map (having l) (noting (left r) K ts))
reach r (seq e f) K ts = noting (asked r) (reach (suc r) e (reach (suc r + rows e) f (noting (left r) K))) ts
reach r (alt e f) K ts = noting (asked r) (either (reach (suc r) e (noting (left r) K)) (reach (suc r + rows e) f (noting (left r) K))) ts
reach r (star e) K ts = noting (asked r) (λ us. rounds (reach (suc r) e) (noting (left r) K) (length us) us) ts
reach r (pipe e f) K ts = noting (asked r) (reach (suc r) e (λ us. both (noting (left r) K us) (reach (suc r + rows e) f anything us))) ts

-- F13: "as often as m ends it is asked once more": a monitor's rows are numbered from 0, its own row, on
abbrev pub branches : Exp → List Tick → List Branch
branches m ts = rounds (reach 0 m) nothing (length ts) ts

-- F23: "a branch still open before the tick": one that fits the words so far, F17 included
abbrev pub open_branches : Exp → List Tick → List Branch
open_branches m ts = keep (λ b. unoccupied m b.run) (branches m ts)

-- all that these touch
abbrev pub touches : Exp → List Tick → List Touch
touches m ts = each (open_branches m ts) (λ b. b.touches)

abbrev pub is_asked : ℕ → Touch → Bool
is_asked r (asked q) = eqb q r
is_asked r (left q) = false

abbrev pub is_left : ℕ → Touch → Bool
is_left r (asked q) = false
is_left r (left q) = eqb q r

-- F26: of n rows "how many are asked, each once, and how many are left, each once"
abbrev pub rows_in : (n : ℕ) → List Touch → ℕ
rows_in n xs = count (λ r. any (is_asked r) xs) (below n) + count (λ r. any (is_left r) xs) (below n)

-- F26: "over all monitors": the number of rows that a tick behind the words ts touches
abbrev pub touched : List Exp → List Tick → ℕ
touched ms ts = total (λ m. rows_in (rows m) (touches m ts)) ms

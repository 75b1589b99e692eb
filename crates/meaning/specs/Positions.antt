-- The machine of active positions (01: marks): it keeps the letters just met, and at each tick asks for what follows each (docs/REFERENCE.md, W7).
use Rattle.std.specs.Prelude.{List, [], ◌∷◌, ◌++◌, map, Bool, not, cond, ◌&&◌, ℕ, suc}
use Rattle.std.proofs.Math.Option.{Option, none, some}
use Rattle.meaning.specs.Lists.{each, any, only, member}
use Rattle.meaning.specs.Expression.{Exp, letter, seq, alt, star, pipe, letters, own}
use Rattle.meaning.specs.Shape.{last}
use Rattle.meaning.specs.Fit.{Tick, meets, among, write_met, Verdict, ok, bad}

-- ---- one monitor ----

-- The letters that become active on one way to go on; none: there is no way.
abbrev pub Way : Type 0
Way = Tick → Option (List ℕ)

abbrev pub stuck : Way
stuck t = none

abbrev pub over : Way
over t = some []

abbrev pub joined : Option (List ℕ) → Option (List ℕ) → Option (List ℕ)
joined none b = none
joined (some ns) none = none
joined (some ns) (some ms) = some (ns ++ ms)

-- What entering a part at a tick comes to: a letter that can come first in it is met; or none is, and the part can be left at once, since it can fit no ticks; or it cannot.
pub data Entered : Type 0 where
  met : ℕ → Entered
  passed : Entered
  blocked : Entered

-- of `e , f`: f is entered where e can be left at once
abbrev pub then_enter : Entered → Entered → Entered
then_enter (met n) b = met n
then_enter passed b = b
then_enter blocked b = blocked

-- of `e || f`
abbrev pub or_enter : Entered → Entered → Entered
or_enter (met n) b = met n
or_enter passed (met n) = met n
or_enter passed passed = passed
or_enter passed blocked = passed
or_enter blocked b = b

-- of `e*`, which can be left at once
abbrev pub or_pass : Entered → Entered
or_pass (met n) = met n
or_pass passed = passed
or_pass blocked = passed

-- of `e @ f` e alone is entered
unfoldable pub enter : Exp → Tick → Entered
enter (letter l) t = cond (meets l t) (met l.number) blocked
enter (seq e f) t = then_enter (enter e t) (enter f t)
enter (alt e f) t = or_enter (enter e t) (enter f t)
enter (star e) t = or_pass (enter e t)
enter (pipe e f) t = enter e t

-- entered, or else left, where that goes on as o says
abbrev pub goes_by : Entered → (o : Option (List ℕ)) → Option (List ℕ)
goes_by (met n) o = some (n ∷ [])
goes_by passed o = o
goes_by blocked o = none

-- e is asked: it is entered, and K follows where it is left at once
abbrev pub ask : Exp → Way → Way
ask e K t = goes_by (enter e t) (K t)

-- letter n stands in e
abbrev pub has : ℕ → Exp → Bool
has n e = among (letters e) n

-- F17: letter n of a start of the thread f was met, and was not its last: the start requires another
abbrev pub under_way : ℕ → Exp → Bool
under_way n f = among (own f) n && not (last n f)

-- some start of f does, where the letters ns were met
abbrev pub busy : List ℕ → Exp → Bool
busy ns f = any (λ n. under_way n f) ns

-- the thread f is started, which cannot be where it is busy, as B says
abbrev pub begin : (B : Exp → Bool) → Exp → Way
begin B f t = cond (B f) none (ask f over t)

-- letter n of e is left: up through what it stands in, to K; B says which threads are busy
unfoldable pub leave : (B : Exp → Bool) → ℕ → Exp → Way → Way
leave B n (letter l) K t = K t
leave B n (seq e f) K t = cond (has n e) (leave B n e (ask f K) t) (leave B n f K t)
leave B n (alt e f) K t = cond (has n e) (leave B n e K t) (leave B n f K t)
leave B n (star e) K t = leave B n e (ask (star e) K) t
leave B n (pipe e f) K t = cond (has n e) (leave B n e (λ u. joined (K u) (begin B f u)) t) (leave B n f over t)

-- W7: "the state of a monitor is the set of its letters met at the last tick, or its start"
pub data Positions : Type 0 where
  at_start : Positions
  on : List ℕ → Positions

-- every position must go on; F16: "it fits only if each of them does"
unfoldable pub go_all : (ℕ → Way) → List ℕ → Way
go_all W [] t = some []
go_all W (n ∷ ns) t = joined (W n t) (go_all W ns t)

-- one tick of the monitor m
unfoldable pub go : Exp → Positions → Way
go m at_start t = ask (star m) stuck t
go m (on ns) t = go_all (λ n. leave (busy ns) n (star m) stuck) ns t

-- ---- the watch ----

-- The positions of each monitor, the word of the last tick and the store values.
pub record Watch : Type 0 where
  pub positions : List Positions
  pub last : ℕ
  pub stores : List ℕ

-- W1: "the first values in its stores, 0 as the word before and each monitor at its start"
abbrev pub opened : List Exp → List ℕ → Watch
opened ms initial = record { positions = map (λ m. at_start) ms; last = 0; stores = initial }

-- One tick of all monitors: the letters met in each, or W6: "the lowest monitor that does not fit".
pub data Ticked : Type 0 where
  fine : List (List ℕ) → Ticked
  wrong : (monitor : ℕ) → Ticked

abbrev pub with_more : List ℕ → Ticked → Ticked
with_more ns (fine nss) = fine (ns ∷ nss)
with_more ns (wrong i) = wrong i

abbrev pub go_on : ℕ → Option (List ℕ) → Ticked → Ticked
go_on i none more = wrong i
go_on i (some ns) more = with_more ns more

unfoldable pub go_each : ℕ → List Exp → List Positions → Tick → Ticked
go_each i [] xs t = fine []
go_each i (m ∷ ms) [] t = fine []
go_each i (m ∷ ms) (x ∷ xs) t = go_on i (go m x t) (go_each (suc i) ms xs t)

unfoldable pub write_each : Tick → List Exp → List (List ℕ) → List ℕ → List ℕ
write_each t [] nss σ = σ
write_each t (m ∷ ms) [] σ = σ
write_each t (m ∷ ms) (ns ∷ nss) σ = write_each t ms nss (write_met t m ns σ)

-- W7: "the set of its letters met at the last tick": each letter of ns once, in reading order
unfoldable pub kept : Exp → List ℕ → List ℕ
kept m ns = each (letters m) (λ l. only (member l.number ns) (l.number ∷ []))

unfoldable pub kept_each : List Exp → List (List ℕ) → List Positions
kept_each [] nss = []
kept_each (m ∷ ms) [] = []
kept_each (m ∷ ms) (ns ∷ nss) = on (kept m ns) ∷ kept_each ms nss

abbrev pub seen : Watch → ℕ → Tick
seen v w = record { word = w; before = v.last; stores = v.stores }

abbrev pub ticked : List Exp → Watch → ℕ → Ticked
ticked ms v w = go_each 0 ms v.positions (seen v w)

-- the watch after the tick (W7); after a bad one, W8: "in all else as before the take"
abbrev pub moved_by : List Exp → Watch → ℕ → Ticked → Watch
moved_by ms v w (fine nss) = record { positions = kept_each ms nss; last = w; stores = write_each (seen v w) ms nss v.stores }
moved_by ms v w (wrong i) = v

abbrev pub moved : List Exp → Watch → ℕ → Watch
moved ms v w = moved_by ms v w (ticked ms v w)

abbrev pub told : Ticked → Verdict
told (fine nss) = ok
told (wrong i) = bad i

abbrev pub answer : List Exp → Watch → ℕ → Verdict
answer ms v w = told (ticked ms v w)

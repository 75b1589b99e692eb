-- What monitors mean (docs/REFERENCE.md, F1 to F22 and W6): which words fit, what each tick writes, and the verdict of the monitors on words.
use Rattle.std.specs.Prelude.{List, [], ◌∷◌, ◌++◌, map, Bool, not, cond, ℕ, zero, suc, eqb, leb, length, get_or, set}
use Rattle.meaning.specs.Lists.{each, carry, any, all, count, null, only, keep, member}
use Rattle.meaning.specs.Expression.{Literal, wire, wire_store, wire_past, store, Write, from_wire, from_number, Letter, field, Exp, letter, seq, alt, star, pipe, letters, own}
use Rattle.meaning.specs.Shape.{threads}

-- ---- a tick and its letters ----

-- F1: "There is one word a tick". A tick is its word, the word before it and the store values before it.
pub record Tick : Type 0 where
  pub word : ℕ
  pub before : ℕ
  pub stores : List ℕ

-- F2: "A store has one value at a time"
abbrev pub value_of : List ℕ → ℕ → ℕ
value_of stores s = get_or stores s 0

-- F3: "When a literal holds at tick t"; F20: "A test at tick t sees the value from before t"
abbrev pub holds : Tick → Literal → Bool
holds t (wire lo width v) = eqb (field lo width t.word) v
holds t (wire_store lo width s) = eqb (field lo width t.word) (value_of t.stores s)
holds t (wire_past lo width) = eqb (field lo width t.word) (field lo width t.before)
holds t (store s v) = eqb (value_of t.stores s) v

-- F6: "all its literals hold at t"
unfoldable pub meets : Letter → Tick → Bool
meets l t = all (holds t) l.literals

-- ---- fit ----

-- F15: "A branch is one way through a monitor". What one did: for each tick the numbers of the letters whose tick it was,
-- its threads' letters among them (F16), a letter as often as it was there. A run may be shorter than the ticks: then no
-- letter had the ticks that are left.
abbrev pub Run : Type 0
Run = List (List ℕ)

-- F4: a demand, asked of the ticks that are left: all the runs of what is still to fit. No run: it is not granted.
abbrev pub Rest : Type 0
Rest = List Tick → List Run

-- F5: "past the words given, every part fits, whatever follows it, and every demand is granted". So F14: "Every prefix is
-- judged, and none is at fault for stopping halfway".
abbrev pub past_the_end : List Run
past_the_end = [] ∷ []

-- F10: "the demand that is granted at every tick", behind a thread, which F12: "asks for nothing more once it has come to
-- its end"
abbrev pub anything : Rest
anything ts = [] ∷ []

-- F13: "There is no other way out of a monitor.": the demand that is granted past the words alone
abbrev pub nothing : Rest
nothing [] = past_the_end
nothing (t ∷ ts) = []

-- two runs at once, tick by tick; F12: "neither waiting for the other"
unfoldable pub merge : Run → Run → Run
merge [] s = s
merge (a ∷ r) [] = a ∷ r
merge (a ∷ r) (b ∷ s) = (a ++ b) ∷ merge r s

-- F16: both fit, "it fits only if each of them does"
abbrev pub both : List Run → List Run → List Run
both rs ss = each rs (λ r. map (merge r) ss)

-- F8: one or the other fits; past the end they are one run
abbrev pub either : Rest → Rest → Rest
either K L [] = past_the_end
either K L (t ∷ ts) = K (t ∷ ts) ++ L (t ∷ ts)

-- F9: "either the star is left at once, and D is asked of t; or e is to fit, and from where it ends the same star again".
-- No more rounds than ticks are left, since a round of no ticks adds nothing.
unfoldable pub rounds : (Rest → Rest) → Rest → ℕ → Rest
rounds body K zero ts = K ts
rounds body K (suc n) ts = either K (body (λ us. rounds body K n us)) ts

-- The runs of e with the demand K behind it. F6: "all its literals hold at t and D is granted at t+1". F7: "first e is to
-- fit, and from where it ends f, and D where f ends". F8: "one of the two is to fit, with the same D". F9. F10: "of the
-- tick u at which it ends two things are asked: D, and that f fits from there, with no demand behind it"; so F11: "a
-- thread starts .. in the branch for which that letter was the last of it, and in no other".
unfoldable pub runs : Exp → Rest → Rest
runs (letter l) K [] = past_the_end
runs (letter l) K (t ∷ ts) = only (meets l t) (map (λ r. (l.number ∷ []) ∷ r) (K ts))
runs (seq e f) K ts = runs e (runs f K) ts
runs (alt e f) K ts = either (runs e K) (runs f K) ts
runs (star e) K ts = rounds (runs e) K (length ts) ts
runs (pipe e f) K ts = runs e (λ us. both (K us) (runs f anything us)) ts

-- F13: "as often as m ends it is asked once more": a star that is never left. The runs of all branches, not yet judged by F17.
abbrev pub branches : Exp → Rest
branches m = runs (star m) nothing

-- n is the number of one of the letters ls
abbrev pub among : List Letter → ℕ → Bool
among ls n = any (λ l. eqb n l.number) ls

-- F17: how many letters the starts of the thread f require at a tick at which a branch has the letters ns. So many starts
-- do: each "requires one letter at each tick that has a word", up to its last, and none behind that (proofs/Requires,
-- proofs/StartEnds), and the letters of starts that run at once add up (`merge`).
abbrev pub required : Exp → List ℕ → ℕ
required f ns = count (among (own f)) ns

-- F17: "two starts of one thread would each require a letter, be it the same one"
unfoldable pub occupied : Exp → List ℕ → Bool
occupied m ns = any (λ f. leb 2 (required f ns)) (threads m)

-- F17: at no tick of the run; "the branch that has both does not fit"
abbrev pub unoccupied : Exp → Run → Bool
unoccupied m r = all (λ ns. not (occupied m ns)) r

-- F17: "a branch that has no such tick is not concerned": the runs of the branches that are left
abbrev pub monitor : Exp → List Tick → List Run
monitor m ts = keep (unoccupied m) (branches m ts)

-- F15: "exactly if some branch fits them"
abbrev pub fits : Exp → List Tick → Bool
fits m ts = not (null (monitor m ts))

-- F18: "A letter is met at t if it has tick t in a branch, its threads included, that fits the words 0 to t": those of m
abbrev pub met : Exp → List Tick → Tick → List ℕ
met m before t = each (monitor m (before ++ t ∷ [])) (λ r. get_or r (length before) [])

-- ---- stores ----

-- F20: "`store <- wire` writes the value of the wire in word t, `store <- number` the number"
abbrev pub write : Tick → List ℕ → Write → List ℕ
write t σ (from_wire s lo width) = set σ s (field lo width t.word)
write t σ (from_number s v) = set σ s v

-- the store values after a tick at which the letters ns of m were met, each once (F18). F21: "that of the letter with the
-- higher number; within a letter the one further right"
unfoldable pub write_met : Tick → Exp → List ℕ → List ℕ → List ℕ
write_met t m ns σ = carry (λ s l. cond (member l.number ns) (carry (write t) s l.writes) s) σ (letters m)

-- The ticks so far, the word of the last one and the store values after them.
pub record History : Type 0 where
  pub ticks : List Tick
  pub last : ℕ
  pub stores : List ℕ

-- F2: "Before tick 0 it is the store's first value." F22: "before tick 0 it is 0"
abbrev pub start : List ℕ → History
start initial = record { ticks = []; last = 0; stores = initial }

-- F22: "The word before tick t is that of tick t-1"
abbrev pub tick : History → ℕ → Tick
tick h w = record { word = w; before = h.last; stores = h.stores }

-- one word more. F19: "The value of a store after tick t .. is its value before t, unless letters met at t, of whichever
-- monitor, write it". F21: "the later monitor's stands".
unfoldable pub onward : List Exp → History → ℕ → History
onward ms h w =
    record {
      ticks = h.ticks ++ tick h w ∷ [];
      last = w;
      stores = carry (λ σ m. write_met (tick h w) m (met m h.ticks (tick h w)) σ) h.stores ms;
    }

-- F1 and F2: all the words so far, from the first store values
abbrev pub history : List Exp → List ℕ → List ℕ → History
history ms initial ws = carry (onward ms) (start initial) ws

-- ---- verdicts ----

-- W6: ok, or bad with the number of a monitor, or of a limit as specs/Limits has it
pub data Verdict : Type 0 where
  ok : Verdict
  bad : (number : ℕ) → Verdict

-- W6: "the lowest monitor that does not fit", counted from i
unfoldable pub verdict : ℕ → List Exp → List Tick → Verdict
verdict i [] ts = ok
verdict i (m ∷ ms) ts = cond (fits m ts) (verdict (suc i) ms ts) (bad i)

-- Limits, and the verdict on each word (docs/REFERENCE.md, F29 to F31 and W6).
use Rattle.std.specs.Prelude.{Bool, true, not, cond, ◌&&◌, List, [], ◌∷◌, ◌++◌, ℕ, suc, ◌+◌, ◌-◌, ltb, length, drop}
use Rattle.meaning.specs.Lists.{any, count, member}
use Rattle.meaning.specs.Expression.{Exp, letters}
use Rattle.meaning.specs.Names.{Limit}
use Rattle.meaning.specs.Fit.{Tick, met, History, tick, Verdict, ok, bad, verdict}

-- F29: "A tick counts for a limit if some letter that came through its production is met there, in whichever monitor", for the production p and the tick t behind those before; a
-- tick counts "once, however many such letters are met"
unfoldable pub counts_at : (p : ℕ) → List Exp → (before : List Tick) → Tick → Bool
counts_at p ms before t = any (λ m. any (λ l. member p l.through && member l.number (met m before t)) (letters m)) ms

-- of each of the ticks ts, which come behind those before
unfoldable pub counts_from : (p : ℕ) → List Exp → (before ts : List Tick) → List Bool
counts_from p ms before [] = []
counts_from p ms before (t ∷ ts) = counts_at p ms before t ∷ counts_from p ms (before ++ t ∷ []) ts

-- F30: "the last w ticks"; "While there are fewer than w ticks, all of them are the last."
abbrev pub latest : ℕ → List Bool → List Bool
latest w bs = drop (length bs - w) bs

-- F30: "more than n of the last w ticks, this one included, count for it": the last tick of ts is beyond the limit
abbrev pub beyond : Limit → List Exp → List Tick → Bool
beyond l ms ts = ltb l.most (count (λ b. b) (latest l.window (counts_from l.production ms [] ts)))

-- F31: "Words fit a limit as long as no tick among them is beyond it.": no tick of ts, behind those before
unfoldable pub keeps_from : Limit → List Exp → (before ts : List Tick) → Bool
keeps_from l ms before [] = true
keeps_from l ms before (t ∷ ts) = not (beyond l ms (before ++ t ∷ [])) && keeps_from l ms (before ++ t ∷ []) ts

abbrev pub keeps : Limit → List Exp → List Tick → Bool
keeps l ms ts = keeps_from l ms [] ts

-- W6: "32 and the number of the lowest limit that they do not fit", counted from i
unfoldable pub limits_verdict : ℕ → List Limit → List Exp → List Tick → Verdict
limits_verdict i [] ms ts = ok
limits_verdict i (l ∷ ls) ms ts = cond (keeps l ms ts) (limits_verdict (suc i) ls ms ts) (bad (32 + i))

-- W6: "The monitors come first"
abbrev pub or_else : Verdict → Verdict → Verdict
or_else ok v = v
or_else (bad i) v = bad i

-- W6: the verdict on words by the limits ls and the monitors ms
abbrev pub verdict_on : List Limit → List Exp → List Tick → Verdict
verdict_on ls ms ts = or_else (verdict 0 ms ts) (limits_verdict 0 ls ms ts)

-- W6: the verdict on word w, "the words so far with this one behind them"
abbrev pub judged : List Limit → List Exp → History → ℕ → Verdict
judged ls ms h w = verdict_on ls ms (h.ticks ++ tick h w ∷ [])

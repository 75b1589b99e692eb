-- How often each letter was met (docs/REFERENCE.md, F27 and F28).
use Rattle.std.specs.Prelude.{List, [], ◌∷◌, ◌++◌, map, ℕ, ◌+◌}
use Rattle.meaning.specs.Lists.{total, count, member}
use Rattle.meaning.specs.Expression.{Exp, letters}
use Rattle.meaning.specs.Fit.{Tick, met}

-- the letters of m met at each of the ticks ts, which come behind those before
unfoldable pub met_from : Exp → (before ts : List Tick) → List (List ℕ)
met_from m before [] = []
met_from m before (t ∷ ts) = met m before t ∷ met_from m (before ++ t ∷ []) ts

-- F27: "the number of ticks at which it is met", of each letter of m in their order; a tick counts "once, however many branches have the letter there"
abbrev pub times_from : Exp → (before ts : List Tick) → List ℕ
times_from m before ts = map (λ l. count (member l.number) (met_from m before ts)) (letters m)

-- F27: of each letter of each monitor
abbrev pub totals : List Exp → List Tick → List (List ℕ)
totals ms ts = map (λ m. times_from m [] ts) ms

-- F28: "the sum of these numbers over all letters of all monitors"
abbrev pub sum : List (List ℕ) → ℕ
sum ns = total (total (λ n. n)) ns

-- how many letters are met at the tick t behind those before
abbrev pub met_at : List Exp → (before : List Tick) → Tick → ℕ
met_at ms before t = total (λ m. count (λ l. member l.number (met m before t)) (letters m)) ms

-- F28: "the sum over the ticks of how many letters are met there"; sum (totals ms ts) is the same (proofs/Totals)
unfoldable pub met_over : List Exp → (before ts : List Tick) → ℕ
met_over ms before [] = 0
met_over ms before (t ∷ ts) = met_at ms before t + met_over ms (before ++ t ∷ []) ts

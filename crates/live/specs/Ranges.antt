-- The entries for C on a range that a caller lends (docs/REFERENCE.md, W15): a list of watches as words, of which the first is used. Where there is none, the range is too short: refused, or 0, and it stays as it is. Assumes nothing.
use Rattle.std.specs.Prelude.{cond, ◌≡◌, List, [], ◌∷◌, ℕ, eqb, length, get_or, set}
use Rattle.meaning.specs.Opening.{counts_of, open_text}
use Rattle.meaning.specs.Calls.{Call}
use Rattle.live.specs.Calls.{Words, opened_in, answer_in, words_after_call, store_in, met_in, ticks_in}
use Rattle.live.specs.Codes.{answer_code, open_code, short_code}

abbrev pub first : List Words → Words
first R = get_or R 0 []

-- an answer by the first watch, or where there is none
abbrev pub of_first : {A : Type 0} → List Words → A → A → A
of_first R short a = cond (eqb (length R) 0) short a

-- opening: the answer, and what the range then holds
abbrev pub open_at : (text : List ℕ) → List Words → ℕ
open_at text R = of_first R short_code (open_code (counts_of (open_text text)))

abbrev pub range_opened : (text : List ℕ) → List Words → List Words
range_opened text R = of_first R R (set R 0 (opened_in (open_text text) (first R)))

-- a look or a take
abbrev pub call_at : List Words → Call → ℕ
call_at R c = of_first R short_code (answer_code (answer_in (first R) c))

abbrev pub range_after : List Words → Call → List Words
range_after R c = of_first R R (set R 0 (words_after_call (first R) c))

-- W11: one call behind the other, each on the range that the one before it left
unfoldable pub codes_of : List Words → List Call → List ℕ
codes_of R [] = []
codes_of R (c ∷ cs) = call_at R c ∷ codes_of (range_after R c) cs

unfoldable pub range_after_all : List Words → List Call → List Words
range_after_all R [] = R
range_after_all R (c ∷ cs) = range_after_all (range_after R c) cs

-- a range that C lends has whole watches, and where it is not too short a first one: two groups, the second of four blocks
pub record Lent (R : List Words) : Type 0 where
  pub some : length R ≡ 0 → ⊥
  pub groups : length (first R) ≡ 2
  pub blocks : length (get_or (first R) 1 []) ≡ 4

-- what a watch holds
abbrev pub store_at : List Words → (store : ℕ) → ℕ
store_at R k = of_first R 0 (store_in (first R) k)

abbrev pub met_at : List Words → (monitor letter : ℕ) → ℕ
met_at R m l = of_first R 0 (met_in (first R) m l)

abbrev pub ticks_at : List Words → ℕ
ticks_at R = of_first R 0 (ticks_in (first R))

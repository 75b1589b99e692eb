-- The limits of a rule text, over the ticks so far (docs/REFERENCE.md, F30); and the array that a watch keeps for them (W14), over any numbers that it may hold. A tick is one number here, its mask, whose bit k says whether a letter of
-- limit k was met. Assumes nothing.
use Rattle.std.specs.Prelude.{Option, None, Some, ℕ, zero, suc, ◌+◌, ◌-◌, ◌/◌, ◌%◌, ◌^◌, min, Bool, false, cond, not, ◌&&◌, ◌||◌, List, [], ◌∷◌, map, length, take, drop, replicate, ◌==◌, bit_or, nat_lt, slice_index, slice_set}
use Rattle.words.specs.Words.{part1, part2}

-- ---- limits

-- a limit's numbers: a letter of it is met on at most `most` of any `window` ticks in a row
pub record Bound : Type 0 where
  pub most : ℕ
  pub window : ℕ

-- whether bit k of a mask stands, as a number
abbrev pub bit_of : (k m : ℕ) → ℕ
bit_of k m = (m / 2 ^ k) % 2

-- the last w of the ticks, which stand oldest first
abbrev pub latest : (w : ℕ) → List ℕ → List ℕ
latest w bs = drop (length bs - w) bs

unfoldable pub total : (ℕ → ℕ) → List ℕ → ℕ
total f [] = 0
total f (b ∷ bs) = f b + total f bs

-- on how many of the last w ticks a letter of limit k was met
abbrev pub within : (k w : ℕ) → List ℕ → ℕ
within k w bs = total (bit_of k) (latest w bs)

-- of the limits from k on, the lowest whose `most` is below that, or 8
unfoldable pub lowest_beyond : (k : ℕ) → List Bound → List ℕ → ℕ
lowest_beyond k [] bs = 8
lowest_beyond k (l ∷ ls) bs = cond (nat_lt l.most (within k l.window bs)) k (lowest_beyond (suc k) ls bs)

-- ---- the mask of a tick, by the memory's marks of letters and, for each letter, the mask of the limits that count it

-- for each letter that mask, in the block of words that a tick is lent
abbrev pub counted_in : (block : List ℕ) → List ℕ
counted_in F = map (λ x. x % 256) (take 256 (drop 320 F))

-- what letter i brings
abbrev pub mask_of : (memory counted : List ℕ) → (i : ℕ) → ℕ
mask_of M C i = cond (slice_index M (1024 + i) == 0) 0 (slice_index C i)

-- what the first n letters bring
unfoldable pub met_mask : (memory counted : List ℕ) → (n : ℕ) → ℕ
met_mask M C zero = 0
met_mask M C (suc n) = bit_or (met_mask M C n) (mask_of M C n)

-- whether one of the first n letters is marked and counted by limit k
unfoldable pub some_met : (memory counted : List ℕ) → (k n : ℕ) → Bool
some_met M C k zero = false
some_met M C k (suc n) = some_met M C k n || (not (slice_index M (1024 + n) == 0) && bit_of k (slice_index C n) == 1)

-- ---- the array: the masks of the last 1,024 ticks, that of tick t at t % 1024; then, for each limit k, its running count, its `most`, and 1,024 less its window; the place of the next tick; and how many
-- limits there are

abbrev pub count_at : (k : ℕ) → ℕ
count_at k = 1024 + k

abbrev pub most_at : (k : ℕ) → ℕ
most_at k = 1032 + k

abbrev pub back_at : (k : ℕ) → ℕ
back_at k = 1040 + k

abbrev pub place_at : ℕ
place_at = 1048

abbrev pub limits_at : ℕ
limits_at = 1049

abbrev pub place_in : List ℕ → ℕ
place_in W = slice_index W place_at % 1024

abbrev pub limits_in : List ℕ → ℕ
limits_in W = min (slice_index W limits_at) 8

-- the tick that leaves limit k's window when the next one comes
abbrev pub leaving : List ℕ → (k : ℕ) → ℕ
leaving W k = slice_index W ((place_in W + slice_index W (back_at k)) % 1024)

-- limit k's count with a tick of the mask m; no watch that calls gave has less than what leaves
abbrev pub next_count : List ℕ → (m k : ℕ) → ℕ
next_count W m k = slice_index W (count_at k) + bit_of k m - bit_of k (leaving W k)

-- the first of n limits from k on that is then beyond its `most`, or 8
unfoldable pub beyond_from : List ℕ → (m n k : ℕ) → ℕ
beyond_from W m zero k = 8
beyond_from W m (suc n) k = cond (nat_lt (slice_index W (most_at k)) (next_count W m k)) k (beyond_from W m n (suc k))

abbrev pub first_beyond : List ℕ → (m : ℕ) → ℕ
first_beyond W m = beyond_from W m (limits_in W) 0

-- what an answer of the code says: the limit, or 8 for none
abbrev pub shown_limit : Option ℕ → ℕ
shown_limit (Some limit) = limit
shown_limit None = 8

-- the first n limits with their next counts, in the 16 bits that there are for each
unfoldable pub counted : List ℕ → (m n : ℕ) → List ℕ
counted W m zero = W
counted W m (suc n) = slice_set (counted W m n) (count_at n) (next_count W m n % 65536)

-- and the tick in its place
abbrev pub passed : List ℕ → (m : ℕ) → List ℕ
passed W m = slice_set (slice_set (counted W m (limits_in W)) (place_in W) m) place_at ((place_in W + 1) % 1024)

-- ---- at opening, by the words of the limits, quad(production, most, window, 0)

-- with the first n limits
unfoldable pub limited : (words : List ℕ) → (n : ℕ) → List ℕ
limited L zero = replicate 1056 0
limited L (suc n) = slice_set (slice_set (limited L n) (most_at n) (part1 (slice_index L n))) (back_at n) (1024 - part2 (slice_index L n))

abbrev pub opened_windows : (words : List ℕ) → (count : ℕ) → List ℕ
opened_windows L n = slice_set (limited L (min n 8)) limits_at (min n 8)

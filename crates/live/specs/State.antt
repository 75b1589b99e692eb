-- What moves of a watch, in one block of 1,024 words (docs/REFERENCE.md, W15): where each number stands, how the block is read, and what a good tick leaves in it. Over any words, also ones that no call ever gave.
-- Assumes nothing.
use Rattle.std.specs.Prelude.{Bool, not, cond, List, ℕ, zero, suc, ◌+◌, ◌*◌, ◌/◌, ◌%◌, eqb, get_or, set, take, drop, replicate}
use Rattle.words.specs.Words.{quad, part0, part1, part2, part3}
use Rattle.meaning.specs.Calls.{State}
use Rattle.monitor.specs.Ticks.{each_marked}
use Rattle.monitor.specs.Limited.{unlimited}
use Rattle.monitor.specs.Calls.{Moving}

-- ---- where things stand

abbrev pub ticks_at : ℕ
ticks_at = 0

-- 0, or a tick was bad
abbrev pub stopped_at : ℕ
stopped_at = 1

abbrev pub before_at : ℕ
before_at = 2

-- the store values, 16 words
abbrev pub values_at : ℕ
values_at = 16

-- the marks of letters and, from 256 on, of monitors at their start, eight a word, 36 words
abbrev pub marks_at : ℕ
marks_at = 32

-- how often each letter was met, 256 words
abbrev pub totals_at : ℕ
totals_at = 320

-- the windows of limits, four numbers a word, 264 words
abbrev pub windows_at : ℕ
windows_at = 576

-- ---- reading

-- n numbers from a place on
unfoldable pub stored : (number : ℕ → ℕ) → (at n : ℕ) → List ℕ → List ℕ
stored f k zero S = S
stored f k (suc n) S = set (stored f k n S) (k + n) (f n)

-- a word's byte n
unfoldable pub byte_of : (n x : ℕ) → ℕ
byte_of zero x = x % 256
byte_of (suc n) x = byte_of n (x / 256)

-- the marks of the first n words
unfoldable pub marks_from : (state : List ℕ) → (n : ℕ) → List ℕ
marks_from S zero = replicate 288 0
marks_from S (suc n) = stored (λ j. byte_of j (get_or S (marks_at + n) 0)) (8 * n) 8 (marks_from S n)

abbrev pub marks_in : List ℕ → List ℕ
marks_in S = marks_from S 36

-- the first n store values
unfoldable pub values_from : (state : List ℕ) → (n : ℕ) → List ℕ
values_from S zero = replicate 16 0
values_from S (suc n) = set (values_from S n) n (get_or S (values_at + n) 0)

abbrev pub values_in : List ℕ → List ℕ
values_in S = values_from S 16

abbrev pub totals_in : List ℕ → List ℕ
totals_in S = take 256 (drop totals_at S)

-- four numbers from place i on
abbrev pub spread : (word i : ℕ) → List ℕ → List ℕ
spread x i W = set (set (set (set W i (part0 x)) (i + 1) (part1 x)) (i + 2) (part2 x)) (i + 3) (part3 x)

-- those of the first n words
unfoldable pub windows_from : (state : List ℕ) → (n : ℕ) → List ℕ
windows_from S zero = replicate 1056 0
windows_from S (suc n) = spread (get_or S (windows_at + n) 0) (4 * n) (windows_from S n)

-- the number of limits is the windows' number 1,049, part 1 of word 262; where it is 0 there are no windows
abbrev pub limitless : List ℕ → Bool
limitless S = eqb (part1 (get_or S (windows_at + 262) 0)) 0

abbrev pub windows_in : List ℕ → List ℕ
windows_in S = cond (limitless S) (replicate 1056 0) (windows_from S 264)

-- what stands between two calls
abbrev pub state_in : List ℕ → State Moving
state_in S =
    record {
      inner = record { marks = marks_in S; values = values_in S; last = get_or S before_at 0; totals = totals_in S; windows = windows_in S };
      oks = get_or S ticks_at 0;
      stopped = not (eqb (get_or S stopped_at 0) 0);
    }

-- ---- storing

-- n bytes from place i on, as a word
unfoldable pub joined : (n : ℕ) → List ℕ → (i : ℕ) → ℕ
joined zero K i = 0
joined (suc n) K i = get_or K i 0 + 256 * joined n K (suc i)

abbrev pub with_marks : (marks : List ℕ) → List ℕ → List ℕ
with_marks K S = stored (λ i. joined 8 K (8 * i)) marks_at 36 S

-- one more for letter l, in the 32 bits that a watch has for it
abbrev pub one_more : (l : ℕ) → List ℕ → List ℕ
one_more l S = set S (totals_at + l) (suc (get_or S (totals_at + l) 0) % 4294967296)

-- for each of the first n letters that is marked
abbrev pub with_totals : (marks : List ℕ) → (n : ℕ) → List ℕ → List ℕ
with_totals K n S = each_marked K one_more n 0 S

abbrev pub with_values : (values : List ℕ) → List ℕ → List ℕ
with_values σ S = stored (λ i. get_or σ i 0) values_at 16 S

-- four numbers from place i on, as a word
abbrev pub gather : (windows : List ℕ) → (i : ℕ) → ℕ
gather W i = quad (get_or W i 0) (get_or W (i + 1) 0) (get_or W (i + 2) 0) (get_or W (i + 3) 0)

-- where there are limits
abbrev pub with_windows : (windows : List ℕ) → List ℕ → List ℕ
with_windows W S = cond (unlimited W) S (stored (λ i. gather W (4 * i)) windows_at 264 S)

-- marks, store values and windows, and one more for each of n letters that is marked
abbrev pub placed : (n : ℕ) → (marks values windows : List ℕ) → List ℕ → List ℕ
placed n K σ W S = with_windows W (with_values σ (with_totals K n (with_marks K S)))

-- a word, and one tick more
abbrev pub ticked : (word : ℕ) → List ℕ → List ℕ
ticked w S = set (set S before_at w) ticks_at (suc (get_or S ticks_at 0))

-- W7: what a good tick with a word leaves
abbrev pub moved : (word n : ℕ) → (marks values windows : List ℕ) → List ℕ → List ℕ
moved w n K σ W S = placed n K σ W (ticked w S)

-- W8: a bad one leaves the watch stopped, and otherwise as it was
abbrev pub halted : List ℕ → List ℕ
halted S = set S stopped_at 1

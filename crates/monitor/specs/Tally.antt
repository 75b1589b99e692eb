-- How many rows a tick touches (docs/REFERENCE.md, F23 to F26), by the words that `counts` lays out once for a watch. The definitions mirror the code, over any numbers that a watch may hold; proofs/TouchedRows
-- ties them, for an accepted text, to the one that is to be believed (meaning's Touched). Assumes nothing.
use Rattle.std.specs.Prelude.{cond, List, [], ℕ, zero, suc, ◌+◌, ◌-◌, ◌%◌, min, eqb, ltb, get_or, set, replicate}
use Rattle.words.specs.Words.{part0, part1, part2}
use Rattle.counts.specs.Counts.{count_in, key_in}

-- What rows are counted by: the table, the rows' places and their costs, and each letter's row.
pub record Counts : Type 0 where
  pub table : List ℕ
  pub places : List ℕ
  pub costs : List ℕ
  pub letters : List ℕ

abbrev pub counts_by : (table places costs letters : List ℕ) → Counts
counts_by t p c ls = record { table = t; places = p; costs = c; letters = ls }

-- with places and costs as `counts` lays them out
abbrev pub counts : (table : List ℕ) → (counts : List (List ℕ)) → (letters : List ℕ) → Counts
counts t cs ls = record { table = t; places = get_or cs 0 []; costs = get_or cs 1 []; letters = ls }

-- how many touches are counted, and by key which threads are asked
pub record Tallied : Type 0 where
  pub count : ℕ
  pub asked : List ℕ

abbrev pub tallied : ℕ → List ℕ → Tallied
tallied n A = record { count = n; asked = A }

abbrev pub and_tally : Tallied → (List ℕ → Tallied) → Tallied
and_tally a f = tallied (a.count + (f a.asked).count) (f a.asked).asked

-- the key of the thread that row r stands in
abbrev pub key_of : Counts → (r : ℕ) → ℕ
key_of c r = key_in (get_or c.places r 0) % 256

-- the thread of the `@` in row u is asked, and counted unless it was
abbrev pub thread_of : Counts → (u : ℕ) → ℕ
thread_of c u = part2 (get_or c.table u 0)

abbrev pub ask_thread : Counts → (u : ℕ) → List ℕ → Tallied
ask_thread c u A =
    cond (eqb (get_or A (key_of c (thread_of c u)) 0) 0) (tallied (count_in (get_or c.costs (thread_of c u) 0)) (set A (key_of c (thread_of c u)) 1)) (tallied 0 A)

-- the threads from chain on, each of an `@` further up: n bounds them
abbrev pub next_of : Counts → (chain : ℕ) → ℕ
next_of c i = part2 (get_or c.places (i - 1) 0)

unfoldable pub ask_threads : Counts → (n chain : ℕ) → List ℕ → Tallied
ask_threads c zero i A = tallied 0 A
ask_threads c (suc n) i A =
    cond (eqb i 0) (tallied 0 A)
    (and_tally (ask_thread c (i - 1) A) (λ B. cond (ltb (next_of c i) i) (ask_threads c n (next_of c i) B) (tallied 0 B)))

-- letter l was met at the tick before: its row is left
abbrev pub place_of : Counts → (l : ℕ) → ℕ
place_of c l = get_or c.places (get_or c.letters l 0) 0

unfoldable pub touch_letter : Counts → (l : ℕ) → List ℕ → Tallied
touch_letter c l A =
    and_tally (tallied (cond (eqb (get_or A (key_in (place_of c l) % 256) 0) 0) (part0 (place_of c l)) (part1 (place_of c l))) A)
    (ask_threads c (part2 (place_of c l)) (part2 (place_of c l)))

-- if it is marked
abbrev pub touch_if : Counts → (marks : List ℕ) → (l : ℕ) → List ℕ → Tallied
touch_if c marks l A = cond (eqb (get_or marks l 0) 0) (tallied 0 A) (touch_letter c l A)

-- n letters from l on
unfoldable pub touch_marked : Counts → (marks : List ℕ) → (n l : ℕ) → List ℕ → Tallied
touch_marked c marks zero l A = tallied 0 A
touch_marked c marks (suc n) l A = and_tally (touch_if c marks l A) (touch_marked c marks n (suc l))

-- the monitors that are at their start, n of them from i on: their own rows are asked
unfoldable pub touch_starts : Counts → (own marks : List ℕ) → (n i : ℕ) → ℕ
touch_starts c own marks zero i = 0
touch_starts c own marks (suc n) i = cond (eqb (get_or marks (256 + i) 0) 0) 0 (count_in (get_or c.costs (get_or own i 0) 0)) + touch_starts c own marks n (suc i)

-- F26: the number that a take answers with
unfoldable pub touched_of : Counts → (own marks : List ℕ) → (monitors letters : ℕ) → ℕ
touched_of c own marks m l = touch_starts c own marks (min m 32) 0 + (touch_marked c marks (min l 256) 0 (replicate 256 0)).count

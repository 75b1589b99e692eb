-- How many rows asking and leaving each row of a watch touches (docs/REFERENCE.md, F24 and F25), two words a row, as the code lays them out: over any numbers that a watch may hold. monitor's CountRows ties them,
-- for an accepted text, to the numbers of its expressions (meaning's Counting). Assumes nothing.
use Rattle.std.specs.Prelude.{Bool, true, false, not, cond, ◌&&◌, List, [], ◌∷◌, ℕ, zero, suc, ◌+◌, ◌-◌, ◌*◌, ◌/◌, ◌%◌, min, eqb, ltb, get_or, set, replicate}
use Rattle.words.specs.Words.{quad, part0, part1, part2, part3}
use Rattle.rules.specs.declared.Watch.{Watch}

-- ---- what asking a row costs: twice the touches, and one more where the row is nullable

abbrev pub cost : (touches : ℕ) → (nullable : Bool) → ℕ
cost n b = 2 * n + cond b 1 0

abbrev pub count_in : (cost : ℕ) → ℕ
count_in c = part0 c / 2

abbrev pub nullable_in : (cost : ℕ) → Bool
nullable_in c = not (eqb (part0 c % 2) 0)

-- by the costs a and b of the operands
abbrev pub seq_cost : (a b : ℕ) → ℕ
seq_cost a b = cond (nullable_in a) (cond (nullable_in b) (cost (2 + count_in a + count_in b) true) (cost (1 + count_in a + count_in b) false)) (cost (1 + count_in a) false)

abbrev pub alt_cost : (a b : ℕ) → ℕ
alt_cost a b = cond (nullable_in a) (cost (2 + count_in a + count_in b) true) (cond (nullable_in b) (cost (2 + count_in a + count_in b) true) (cost (1 + count_in a + count_in b) false))

-- of a row with the word w
abbrev pub cost_of : (w a b : ℕ) → ℕ
cost_of w a b =
    cond (eqb (part0 w) 0) (cost 1 false)
    (cond (eqb (part0 w) 1) (seq_cost a b)
    (cond (eqb (part0 w) 2) (alt_cost a b)
    (cond (eqb (part0 w) 3) (cost (2 + count_in a) true)
    (cond (eqb (part0 w) 4) (cost (1 + count_in a) false) 0))))

abbrev pub row_cost : (table costs : List ℕ) → (r : ℕ) → ℕ
row_cost t cs r = cost_of (get_or t r 0) (get_or cs (part1 (get_or t r 0)) 0) (get_or cs (part2 (get_or t r 0)) 0)

-- of the last k of n rows; operands stand behind their operator
unfoldable pub costs_down : (table : List ℕ) → (n k : ℕ) → List ℕ
costs_down t n zero = replicate 1024 0
costs_down t n (suc k) = set (costs_down t n k) (n - suc k) (row_cost t (costs_down t n k) (n - suc k))

-- ---- what leaving a row touches, its place, in one word: all in the thread that it stands in, itself included; those of them that starting the thread has not; one more than the row of the first `@` whose
-- thread is then asked, or 0; and twice the thread's key, which is its first letter (0: it stands in none), one more where starting the thread asks the row

abbrev pub key_in : (place : ℕ) → ℕ
key_in p = part3 p / 2

abbrev pub begins_in : (place : ℕ) → Bool
begins_in p = not (eqb (part3 p % 2) 0)

-- leaving a row, of this cost, is in what starting the thread touches (b: starting asks it)
abbrev pub fresh : (b : Bool) → (cost : ℕ) → ℕ
fresh b c = cond (b && nullable_in c) 0 1

-- by the place p of the row above, the row's own cost c and that of the other operand, d
abbrev pub left_of_seq : (p c d : ℕ) → ℕ
left_of_seq p c d =
    quad (1 + count_in d + cond (nullable_in d) (part0 p) 0)
    (fresh (begins_in p) c + cond (begins_in p && nullable_in c) 0 (count_in d) + cond (nullable_in d) (part1 p) 0)
    (cond (nullable_in d) (part2 p) 0) (part3 p)

abbrev pub right_of_seq : (p c d : ℕ) → ℕ
right_of_seq p c d = quad (1 + part0 p) (fresh (begins_in p && nullable_in d) c + part1 p) (part2 p) (2 * key_in p + cond (begins_in p && nullable_in d) 1 0)

-- with this as part 2
abbrev pub only_operand : (p c chain : ℕ) → ℕ
only_operand p c n = quad (1 + part0 p) (fresh (begins_in p) c + part1 p) n (part3 p)

abbrev pub body_of_star : (p c : ℕ) → ℕ
body_of_star p c = quad (1 + count_in c + part0 p) (fresh (begins_in p) c + cond (begins_in p) 0 (count_in c) + part1 p) (part2 p) (part3 p)

-- a thread's own row, and a monitor's
abbrev pub own_of_thread : (c key : ℕ) → ℕ
own_of_thread c k = quad 1 (fresh true c) 0 (2 * k + 1)

abbrev pub own_of_monitor : (c : ℕ) → ℕ
own_of_monitor c = quad (1 + count_in c) (1 + count_in c) 0 0

-- of row r, an operand of row u with the word w and the place p; k: its first letter
abbrev pub operand_place : (w p c d u r k : ℕ) → ℕ
operand_place w p c d u r k =
    cond (eqb (part0 w) 1) (cond (eqb (part1 w) r) (left_of_seq p c d) (right_of_seq p c d))
    (cond (eqb (part0 w) 2) (only_operand p c (part2 p))
    (cond (eqb (part0 w) 3) (body_of_star p c)
    (cond (eqb (part0 w) 4) (cond (eqb (part1 w) r) (only_operand p c (suc u)) (own_of_thread c k)) 0)))

-- the other operand of a row with the word w
abbrev pub sibling : (w r : ℕ) → ℕ
sibling w r = cond (eqb (part1 w) r) (part2 w) (part1 w)

abbrev pub row_place : (table costs places : List ℕ) → (k r : ℕ) → ℕ
row_place t cs ps k r =
    cond (eqb (part3 (get_or t r 0)) r) (own_of_monitor (get_or cs r 0))
    (cond (ltb (part3 (get_or t r 0)) r)
    (operand_place (get_or t (part3 (get_or t r 0)) 0) (get_or ps (part3 (get_or t r 0)) 0) (get_or cs r 0) (get_or cs (sibling (get_or t (part3 (get_or t r 0)) 0) r) 0) (part3 (get_or t r 0)) r k) 0)

-- how many of the first n rows are letters'
unfoldable pub letters_before : (table : List ℕ) → (n : ℕ) → ℕ
letters_before t zero = 0
letters_before t (suc n) = letters_before t n + cond (eqb (part0 (get_or t n 0)) 0) 1 0

-- the places of the first n rows
unfoldable pub places_up : (table costs : List ℕ) → (n : ℕ) → List ℕ
places_up t cs zero = replicate 1024 0
places_up t cs (suc n) = set (places_up t cs n) n (row_place t cs (places_up t cs n) (letters_before t n) n)

-- of so many rows, 1,024 at most
abbrev pub costs_of : (table : List ℕ) → (rows : ℕ) → List ℕ
costs_of t n = costs_down t (min n 1024) (min n 1024)

abbrev pub counts_of : Watch → List (List ℕ)
counts_of v = places_up v.table (costs_of v.table v.rows) (min v.rows 1024) ∷ costs_of v.table v.rows ∷ []

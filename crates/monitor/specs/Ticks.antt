-- A tick by the monitors, from a watch and a word to the monitor reached, the marks and the store values (docs/REFERENCE.md, W6 to W8, F19 and F21); over any watch. Assumes nothing.
use Rattle.std.specs.Prelude.{Bool, true, cond, List, ℕ, zero, suc, ◌+◌, ◌-◌, ◌%◌, min, eqb, leb, ltb, get_or, set, take, drop, replicate}
use Rattle.std.proofs.lemmas.List.Edits.{sets}
use Rattle.words.specs.Words.{part1}
use Rattle.monitor.specs.Letters.{Given, thread_row_of, threaded, unthreaded, write_letter}
use Rattle.monitor.specs.Walk.{Told, told, ask_m, leave_m}

-- 4 calls for each row are enough
abbrev pub steps : ℕ
steps = 4096

-- What a watch has beside what a tick is judged by: each letter's row; each monitor's own row and first letter; how many monitors and letters there are.
pub record Layout : Type 0 where
  pub places : List ℕ
  pub own : List ℕ
  pub firsts : List ℕ
  pub monitors : ℕ
  pub letters : ℕ

abbrev pub layout : (places own firsts : List ℕ) → (monitors letters : ℕ) → Layout
layout p o f m l = record { places = p; own = o; firsts = f; monitors = m; letters = l }

-- A tick is lent this as one block of words: from 0 on each letter's row, from 256 on the monitors' own rows, from 288 on their first letters, from 320 on which limits count each letter (`counted_in`
-- of windows), and then the numbers of monitors, letters, wires, stores and rows, from 576 on.
abbrev pub places_in : (block : List ℕ) → List ℕ
places_in F = take 256 F

abbrev pub own_in : (block : List ℕ) → List ℕ
own_in F = take 32 (drop 256 F)

abbrev pub firsts_in : (block : List ℕ) → List ℕ
firsts_in F = take 32 (drop 288 F)

-- with so many monitors and letters, or with those that the block has
abbrev pub layout_with : (block : List ℕ) → (monitors letters : ℕ) → Layout
layout_with F m l = layout (places_in F) (own_in F) (firsts_in F) m l

abbrev pub layout_in : (block : List ℕ) → Layout
layout_in F = layout_with F (get_or F 576 0) (get_or F 577 0)

-- with no more monitors and letters than there is room for
abbrev pub within : Layout → Layout
within y = layout y.places y.own y.firsts (min y.monitors 32) (min y.letters 256)

-- ---- marked letters, one after the other

-- what f does for letter l, if it is marked
abbrev pub if_marked : (marks : List ℕ) → (f : ℕ → List ℕ → List ℕ) → (l : ℕ) → List ℕ → List ℕ
if_marked marks f l σ = cond (eqb (get_or marks l 0) 0) σ (f l σ)

-- for n letters from l on
unfoldable pub each_marked : (marks : List ℕ) → (f : ℕ → List ℕ → List ℕ) → (n l : ℕ) → List ℕ → List ℕ
each_marked marks f zero l σ = σ
each_marked marks f (suc n) l σ = each_marked marks f n (suc l) (if_marked marks f l σ)

-- ---- threads that are busy are shut

-- F17: a row is kept as blocked, and cannot be entered at this tick; not row 0, which is a monitor's own and stands for no thread, nor one that is not there
abbrev pub shut_row : (r : ℕ) → List ℕ → List ℕ
shut_row r M = cond (eqb r 0) M (cond (leb 1024 r) M (set M r 1))

-- what is then kept of row r, of which `known` was
abbrev pub shut_code : (r known : ℕ) → ℕ
shut_code r v = cond (eqb r 0) v 1

-- the thread that letter l goes on in
abbrev pub shut_for : Given → (l : ℕ) → List ℕ → List ℕ
shut_for g l M = shut_row (thread_row_of g l) M

-- up to this letter, by what the tables say, and no further than there are any
abbrev pub threaded_among : Given → (letters : ℕ) → ℕ
threaded_among g n = min (threaded g) n

-- the memory at a tick's start: the rows of the threads that marked letters go on in are shut
abbrev pub shut_busy : Given → (marks : List ℕ) → (letters : ℕ) → List ℕ → List ℕ
shut_busy g marks n M = each_marked marks (shut_for g) (threaded_among g n - unthreaded g) (unthreaded g) M

-- ---- every active position goes on

-- the one, and where it says yes the other
abbrev pub and_then : Told → (List ℕ → Told) → Told
and_then a f = cond a.yes (f a.memory) a

-- letter l is left, if it is marked
abbrev pub letter_goes : Given → (places marks : List ℕ) → (l : ℕ) → List ℕ → Told
letter_goes g places marks l M = cond (eqb (get_or marks l 0) 0) (told true M) (leave_m steps g (get_or places l 0) M)

-- the first marked letter of n from l on, or the one behind them
unfoldable pub first_marked : (marks : List ℕ) → (n l : ℕ) → ℕ
first_marked marks zero l = l
first_marked marks (suc n) l = cond (eqb (get_or marks l 0) 0) (first_marked marks n (suc l)) l

-- n letters from l on
unfoldable pub letters_go : Given → (places marks : List ℕ) → (n l : ℕ) → List ℕ → Told
letters_go g places marks zero l M = told true M
letters_go g places marks (suc n) l M = and_then (letter_goes g places marks l M) (letters_go g places marks n (suc l))

-- monitor i is asked, if it is at its start
abbrev pub start_goes : Given → (own marks : List ℕ) → (i : ℕ) → List ℕ → Told
start_goes g own marks i M = cond (eqb (get_or marks (256 + i) 0) 0) (told true M) (ask_m steps g (get_or own i 0) M)

-- its letters are those from its own first up to the next monitor's
abbrev pub letters_end : (firsts : List ℕ) → (monitors letters i : ℕ) → ℕ
letters_end firsts m l i = cond (ltb (suc i) m) (min (get_or firsts (suc i) 0) 256) l

-- where letter l of monitor i stands among all letters, in the block; 256 where there is none
abbrev pub letter_at : (block : List ℕ) → (i l : ℕ) → ℕ
letter_at F i l =
    let y = within (layout_in F) in
    let from = get_or y.firsts i 0 in
    cond (ltb i y.monitors) (cond (ltb l (letters_end y.firsts y.monitors y.letters i - from)) (from + l) 256) 256

unfoldable pub monitor_goes : Given → Layout → (marks : List ℕ) → (i : ℕ) → List ℕ → Told
monitor_goes g y marks i M =
    and_then (start_goes g y.own marks i M)
    (letters_go g y.places marks (letters_end y.firsts y.monitors y.letters i - get_or y.firsts i 0) (get_or y.firsts i 0))

-- n monitors from i on: the first that does not go on, or the one behind the last; and the memory
pub record Reached : Type 0 where
  pub monitor : ℕ
  pub memory : List ℕ

abbrev pub reached : ℕ → List ℕ → Reached
reached i M = record { monitor = i; memory = M }

-- monitor i said yes, or no
abbrev pub reached_by : (i : ℕ) → Told → (List ℕ → Reached) → Reached
reached_by i a f = cond a.yes (f a.memory) (reached i a.memory)

unfoldable pub monitors_go : Given → Layout → (marks : List ℕ) → (n i : ℕ) → List ℕ → Reached
monitors_go g y marks zero i M = reached i M
monitors_go g y marks (suc n) i M = reached_by i (monitor_goes g y marks i M) (monitors_go g y marks n (suc i))

-- ---- what a good tick leaves

-- W7: "the set of its letters met at the last tick": of the first n letters those marked in the memory, and no monitor is at its start
abbrev pub marks_after : (n : ℕ) → (memory : List ℕ) → List ℕ
marks_after n M = sets (replicate 288 0) 0 (take n (drop 1024 M))

-- the writes of letter l, if it is marked
abbrev pub write_if : Given → (marks : List ℕ) → (l : ℕ) → List ℕ → List ℕ
write_if g marks l σ = if_marked marks (write_letter g) l σ

-- F21: "the later monitor's stands; within a monitor that of the letter with the higher number": n letters from l on
abbrev pub write_marked : Given → (marks : List ℕ) → (n l : ℕ) → List ℕ → List ℕ
write_marked g marks n l σ = each_marked marks (write_letter g) n l σ

-- W13: "each letter that was met at the tick has one more": letter l, in the 32 bits that a watch has for it
abbrev pub one_more : (l : ℕ) → List ℕ → List ℕ
one_more l ns = set ns l (suc (get_or ns l 0) % 4294967296)

-- those of the first n letters that are marked
abbrev pub count_met : (marks : List ℕ) → (n : ℕ) → List ℕ → List ℕ
count_met marks n ns = each_marked marks one_more n 0 ns

-- so many letters need be looked at, by what the tables say, and no more than there are
abbrev pub writers : Given → (letters : ℕ) → ℕ
writers g n = min (part1 (get_or g.letters 768 0)) n

-- ---- one tick

-- the first monitor that does not go on, or the number of monitors; the marks and store values after the tick (W7), or as before it where one does not (W8)
pub record Move : Type 0 where
  pub monitor : ℕ
  pub marks : List ℕ
  pub values : List ℕ

abbrev pub move : ℕ → (marks values : List ℕ) → Move
move i marks values = record { monitor = i; marks = marks; values = values }

-- nothing is known, nothing is marked
abbrev pub empty_memory : List ℕ
empty_memory = replicate 1280 0

abbrev pub move_by : Given → Layout → (marks : List ℕ) → Reached → Move
move_by g y marks a =
    cond (ltb a.monitor y.monitors) (move a.monitor marks g.values)
    (move a.monitor (marks_after 256 a.memory) (write_marked g (marks_after 256 a.memory) (writers g y.letters) 0 g.values))

unfoldable pub step_within : Given → Layout → (marks : List ℕ) → Move
step_within g y marks = move_by g y marks (monitors_go g y marks y.monitors 0 (shut_busy g marks y.letters empty_memory))

abbrev pub step_of : Given → Layout → (marks : List ℕ) → Move
step_of g y marks = step_within g (within y) marks

-- whether a step that ended at monitor i, of m, ended at one that does not go on
abbrev pub stuck_at : (i m : ℕ) → Bool
stuck_at i m = ltb i (min m 32)

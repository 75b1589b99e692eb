-- The walk over rows, with what entering each came to remembered for one tick: asking a row and leaving a row take turns until letters are reached (docs/REFERENCE.md, F6 to
-- F10). Leaving a row never forks, so the rows asked and left from one position are a line.
-- Over any rows: a row that is not there answers no, and so does a walk that is deeper than its count. On every table a tick is some million calls at most. A position's
-- line is ask_m and leave_m in turn, 4,096 together (Ticks.steps), each of which enters one row; there are 288 positions. What entering a row came to is kept when that entering
-- ends, so enterings of one row that do more than look it up stand inside each other, and these too are 4,096 at most. Assumes nothing.
use Rattle.std.specs.Prelude.{Bool, true, false, cond, List, ℕ, zero, suc, ◌+◌, eqb, leb, get_or, set}
use Rattle.words.specs.Words.{part0, part1, part2, part3}
use Rattle.monitor.specs.Letters.{Given, letter_met}

-- The memory has, at r, what entering row r came to: 0 not known, 1 blocked (or shut from the tick's start, Ticks.`shut_busy`), 2 passed (no letter was met, and the row can be left at once), 3 a letter was met,
-- and is marked. At 1024 + l it has whether letter l is marked.

-- what entering a row came to, and the memory after it
pub record Came : Type 0 where
  pub code : ℕ
  pub memory : List ℕ

abbrev pub came : ℕ → List ℕ → Came
came k M = record { code = k; memory = M }

-- an answer, and the memory after it
pub record Told : Type 0 where
  pub yes : Bool
  pub memory : List ℕ

abbrev pub told : Bool → List ℕ → Told
told b M = record { yes = b; memory = M }

abbrev pub Entry : Type 0
Entry = (row : ℕ) → List ℕ → Came

abbrev pub Call : Type 0
Call = (row : ℕ) → List ℕ → Told

-- ---- entering a row

-- a letter is met, and marked, or not
abbrev pub enter_letter : Given → (letter : ℕ) → List ℕ → Came
enter_letter g l M = cond (leb 256 l) (came 1 M) (cond (letter_met g l) (came 3 (set M (1024 + l) 1)) (came 1 M))

-- F9: of a star, whose body came to a
abbrev pub or_pass_code : (a : ℕ) → ℕ
or_pass_code a = cond (eqb a 3) 3 2

-- F8: of `||`, whose operands came to a, which is not 3, and to b
abbrev pub or_enter_code : (a b : ℕ) → ℕ
or_enter_code a b = cond (eqb b 3) 3 (cond (eqb a 2) 2 b)

-- x is the row's word, and a what its left operand came to: of `,` the right operand is entered where the left one passed, of `||` where no letter was met
abbrev pub enter_second : (enter : Entry) → (x : ℕ) → (a : Came) → Came
enter_second enter x a =
    cond (eqb (part0 x) 1) (cond (eqb a.code 2) (enter (part2 x) a.memory) a)
    (cond (eqb (part0 x) 3) (came (or_pass_code a.code) a.memory)
    (cond (eqb (part0 x) 2) (cond (eqb a.code 3) a (let b = enter (part2 x) a.memory in came (or_enter_code a.code b.code) b.memory))
    a))

unfoldable pub enter_on : Given → (enter : Entry) → (x : ℕ) → List ℕ → Came
enter_on g enter x M = cond (eqb (part0 x) 0) (enter_letter g (part1 x) M) (enter_second enter x (enter (part1 x) M))

-- kept for row r
abbrev pub kept_entry : (r : ℕ) → Came → Came
kept_entry r a = came a.code (set a.memory r a.code)

-- what is kept, or else what f comes to
abbrev pub remembered_entry : Entry → Entry
remembered_entry f r M = cond (leb 1024 r) (came 1 M) (cond (eqb (get_or M r 0) 0) (kept_entry r (f r M)) (came (get_or M r 0) M))

unfoldable pub enter_m : ℕ → Given → Entry
enter_m zero g r M = came 1 M
enter_m (suc n) g r M = remembered_entry (λ q. enter_on g (λ a b. enter_m n g a b) (get_or g.table q 0)) r M

-- ---- asking and leaving a row

-- a row is asked: it is entered, and left where it passed
abbrev pub ask_from : (leave : Call) → (r : ℕ) → Came → Told
ask_from leave r a = cond (eqb a.code 3) (told true a.memory) (cond (eqb a.code 2) (leave r a.memory) (told false a.memory))

-- The left operand of an `@`, whose row is u, is left: its thread is entered, which came to a, and the `@` is left. A thread that passed has ended, so it is not
-- left. Where either says no, the tick is bad, and marks are of no use.
abbrev pub both : (leave : Call) → (u : ℕ) → (a : Came) → Told
both leave u a = cond (eqb a.code 1) (told false a.memory) (leave u a.memory)

-- by the row above, whose number is u and whose word is x: a `,` goes on with its right operand, or is left; `||` is left; a star is asked again; an `@` starts
-- its thread and is left (F10), or its thread has ended
unfoldable pub leave_to : (enter : Entry) → (ask leave : Call) → (x u : ℕ) → Call
leave_to enter ask leave x u r M =
    cond (eqb (part0 x) 1) (cond (eqb (part1 x) r) (ask (part2 x) M) (leave u M))
    (cond (eqb (part0 x) 2) (leave u M)
    (cond (eqb (part0 x) 3) (ask u M)
    (cond (eqb (part0 x) 4) (cond (eqb (part1 x) r) (both leave u (enter (part2 x) M)) (told true M))
    (told false M))))

-- u is the row above; a monitor's own row points at itself, and is asked again (F13)
unfoldable pub leave_on : Given → (enter : Entry) → (ask leave : Call) → (u : ℕ) → Call
leave_on g enter ask leave u r M = cond (eqb u r) (ask r M) (cond (leb 1024 u) (told false M) (leave_to enter ask leave (get_or g.table u 0) u r M))

-- the two, with a falling count
unfoldable mutual
  pub ask_m : ℕ → Given → Call
  ask_m zero g r M = told false M
  ask_m (suc n) g r M = ask_from (λ a b. leave_m n g a b) r (enter_m n g r M)

  pub leave_m : ℕ → Given → Call
  leave_m zero g r M = told false M
  leave_m (suc n) g r M =
      cond (leb 1024 r) (told false M)
      (leave_on g (λ a b. enter_m n g a b) (λ a b. ask_m n g a b) (λ a b. leave_m n g a b) (part3 (get_or g.table r 0)) r M)

-- How many rows the walk of a tick visits: the calls of specs/Walk and specs/Ticks, each of which visits a row, counted along the same ways. sheet's Demands says that it is at most three times the
-- rows touched. Assumes nothing.
use Rattle.std.specs.Prelude.{cond, List, ℕ, zero, suc, ◌+◌, ◌-◌, eqb, leb, get_or}
use Rattle.words.specs.Words.{part0, part1, part2, part3}
use Rattle.monitor.specs.Letters.{Given}
use Rattle.monitor.specs.Walk.{Came, Told, Entry, enter_m}
use Rattle.monitor.specs.Ticks.{steps, Layout, letter_goes, start_goes, letters_end, monitor_goes, empty_memory, shut_busy}

-- ---- entering a row

abbrev pub Visits : Type 0
Visits = (row : ℕ) → List ℕ → ℕ

-- of the right operand, by the row's word x and what the left one came to
abbrev pub second_visits : (enter : Visits) → (x : ℕ) → Came → ℕ
second_visits enter x a =
    cond (eqb (part0 x) 1) (cond (eqb a.code 2) (enter (part2 x) a.memory) 0)
    (cond (eqb (part0 x) 2) (cond (eqb a.code 3) 0 (enter (part2 x) a.memory)) 0)

-- of the operands; a letter has none. come: what entering a row comes to
abbrev pub enter_on_visits : (enter : Visits) → (come : Entry) → (x : ℕ) → List ℕ → ℕ
enter_on_visits enter come x M = cond (eqb (part0 x) 0) 0 (enter (part1 x) M + second_visits enter x (come (part1 x) M))

-- a row that is not there, or of which something is kept, is visited alone
unfoldable pub enter_visits : ℕ → Given → Visits
enter_visits zero g r M = 1
enter_visits (suc n) g r M =
    1 + cond (leb 1024 r) 0 (cond (eqb (get_or M r 0) 0) (enter_on_visits (λ a b. enter_visits n g a b) (λ a b. enter_m n g a b) (get_or g.table r 0) M) 0)

-- ---- asking and leaving a row

-- a row was entered, and is left where it passed
abbrev pub asked_visits : (leave : Visits) → (r : ℕ) → Came → ℕ
asked_visits leave r a = cond (eqb a.code 2) (leave r a.memory) 0

-- a thread was entered, and its `@`, in row u, is left
abbrev pub both_visits : (leave : Visits) → (u : ℕ) → Came → ℕ
both_visits leave u a = cond (eqb a.code 1) 0 (leave u a.memory)

-- by the row above, u, and its word x
abbrev pub leave_to_visits : (enter ask leave : Visits) → (come : Entry) → (x u : ℕ) → Visits
leave_to_visits enter ask leave come x u r M =
    cond (eqb (part0 x) 1) (cond (eqb (part1 x) r) (ask (part2 x) M) (leave u M))
    (cond (eqb (part0 x) 2) (leave u M)
    (cond (eqb (part0 x) 3) (ask u M)
    (cond (eqb (part0 x) 4) (cond (eqb (part1 x) r) (enter (part2 x) M + both_visits leave u (come (part2 x) M)) 0) 0)))

-- u is the row above; a monitor's own row is asked again
abbrev pub leave_on_visits : Given → (enter ask leave : Visits) → (come : Entry) → (u : ℕ) → Visits
leave_on_visits g enter ask leave come u r M = cond (eqb u r) (ask r M) (cond (leb 1024 u) 0 (leave_to_visits enter ask leave come (get_or g.table u 0) u r M))

-- the two, with a falling count
unfoldable mutual
  pub ask_visits : ℕ → Given → Visits
  ask_visits zero g r M = 1
  ask_visits (suc n) g r M = 1 + enter_visits n g r M + asked_visits (λ a b. leave_visits n g a b) r (enter_m n g r M)

  pub leave_visits : ℕ → Given → Visits
  leave_visits zero g r M = 1
  leave_visits (suc n) g r M =
      1 + cond (leb 1024 r) 0
      (leave_on_visits g (λ a b. enter_visits n g a b) (λ a b. ask_visits n g a b) (λ a b. leave_visits n g a b) (λ a b. enter_m n g a b) (part3 (get_or g.table r 0)) r M)

-- ---- a tick

-- what comes behind an answer, where that is yes
abbrev pub and_visits : Told → (List ℕ → ℕ) → ℕ
and_visits a f = cond a.yes (f a.memory) 0

-- n letters from l on: those that are marked are left
unfoldable pub letters_visits : Given → (places marks : List ℕ) → (n l : ℕ) → List ℕ → ℕ
letters_visits g places marks zero l M = 0
letters_visits g places marks (suc n) l M =
    cond (eqb (get_or marks l 0) 0) 0 (leave_visits steps g (get_or places l 0) M) + and_visits (letter_goes g places marks l M) (letters_visits g places marks n (suc l))

-- monitor i is asked, if it is at its start, and its letters are left
unfoldable pub monitor_visits : Given → Layout → (marks : List ℕ) → (i : ℕ) → List ℕ → ℕ
monitor_visits g y marks i M =
    cond (eqb (get_or marks (256 + i) 0) 0) 0 (ask_visits steps g (get_or y.own i 0) M)
    + and_visits (start_goes g y.own marks i M)
    (letters_visits g y.places marks (letters_end y.firsts y.monitors y.letters i - get_or y.firsts i 0) (get_or y.firsts i 0))

-- n monitors from i on, up to the first that does not go on
unfoldable pub monitors_visits : Given → Layout → (marks : List ℕ) → (n i : ℕ) → List ℕ → ℕ
monitors_visits g y marks zero i M = 0
monitors_visits g y marks (suc n) i M = monitor_visits g y marks i M + and_visits (monitor_goes g y marks i M) (monitors_visits g y marks n (suc i))

-- the walk of a tick, as `step_within` has it
abbrev pub visits_within : Given → Layout → (marks : List ℕ) → ℕ
visits_within g y marks = monitors_visits g y marks y.monitors 0 (shut_busy g marks y.letters empty_memory)

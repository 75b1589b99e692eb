-- A look or a take on a watch, and a list of them (docs/REFERENCE.md, W2 to W12): any watch, any words. Assumes nothing.
use Rattle.std.specs.Prelude.{Bool, cond, ◌&&◌, List, [], ◌∷◌, ◌≡◌, ℕ, zero, suc, ◌+◌, ◌-◌, ◌*◌, min, eqb, get_or, set, replicate}
use Rattle.std.proofs.lemmas.List.Edits.{sets}
use Rattle.refusals.specs.Numbers.{stray, stopped, full}
use Rattle.meaning.specs.Lists.{each}
use Rattle.meaning.specs.Expression.{Exp}
use Rattle.meaning.specs.Fit.{Verdict, History}
use Rattle.meaning.specs.Totals.{totals}
use Rattle.meaning.specs.Calls.{Call, look, take, word_of, Reply, is_full, is_stray, State, reply, after, touched_by, Answer, looked, took}
use Rattle.words.specs.Words.{quad}
use Rattle.windows.specs.Windows.{counted_in}
use Rattle.rules.specs.declared.Watch.{Watch}
use Rattle.counts.specs.Counts.{counts_of}
use Rattle.monitor.specs.Letters.{Given, given}
use Rattle.monitor.specs.Threads.{threads_of}
use Rattle.monitor.specs.Tally.{counts, touched_of}
use Rattle.monitor.specs.Ticks.{Layout, layout, layout_in, within, first_marked, letters_end, count_met, Move, step_of}
use Rattle.monitor.specs.Limited.{mask_at, answer_at, verdict_by, windows_after}
use Rattle.monitor.specs.Visits.{visits_within}

-- W7 and W13: what moves from tick to tick, the marks, the store values, the word of the last tick, how often each letter was met, and the windows of the limits.
pub record Moving : Type 0 where
  pub marks : List ℕ
  pub values : List ℕ
  pub last : ℕ
  pub totals : List ℕ
  pub windows : List ℕ

-- the rest of a watch: what each letter looks at, 256 places on what it wants, 512 on the wires that must be as before, 768 on the row of the thread that it goes on in, or 0; and with that of letter 0 the
-- numbers of letters up to the last that writes, up to the last that goes on in a thread, and before the first that does
abbrev pub letters_of : (look want held threads : List ℕ) → (writers threaded unthreaded : ℕ) → List ℕ
letters_of a b h t n m k = set (sets (sets (sets (sets (replicate 1024 0) 0 a) 256 b) 512 h) 768 t) 768 (quad (get_or t 0 0) n m k)

-- of the first n letters so many, up to the last that is not idle
unfoldable pub up_to : (idle : ℕ → Bool) → (n : ℕ) → ℕ
up_to p zero = zero
up_to p (suc n) = cond (p n) (up_to p n) (suc n)

-- up to the last that has a write
abbrev pub writers_of : (links : List ℕ) → (n : ℕ) → ℕ
writers_of c n = up_to (λ l. eqb (get_or c (4 * l + 2) 0) 0 && eqb (get_or c (4 * l + 3) 0) 0) n

-- up to the last that goes on in a thread
abbrev pub threaded_of : (threads : List ℕ) → (n : ℕ) → ℕ
threaded_of t n = up_to (λ l. eqb (get_or t l 0) 0) n

-- before the first that does
abbrev pub unthreaded_of : (threads : List ℕ) → (n : ℕ) → ℕ
unthreaded_of t n = first_marked t n 0

-- of a watch, with the threads of its letters
abbrev pub letters_by : Watch → (threads : List ℕ) → List ℕ
letters_by v t = letters_of v.look v.want v.held t (writers_of v.links 256) (threaded_of t 256) (unthreaded_of t 256)

-- its tables, as a tick is lent them
abbrev pub tables_of : Watch → List (List ℕ)
tables_of v = v.table ∷ v.links ∷ v.numbers ∷ letters_by v (threads_of v.table v.rows) ∷ []

abbrev pub given_of : Watch → (values words : List ℕ) → Given
given_of v σ ws = given (tables_of v) σ ws

abbrev pub layout_of : Watch → Layout
layout_of v = layout v.places v.own v.firsts v.monitors v.letters

-- the same as a block of words (specs/Ticks), with which limits count each letter and the numbers of monitors, letters, wires, stores and rows
abbrev pub layout_block : (places own firsts counted : List ℕ) → (monitors letters wires stores rows : ℕ) → List ℕ
layout_block p o f c m l w s r =
    set (set (set (set (set (sets (sets (sets (sets (replicate 1024 0) 0 p) 256 o) 288 f) 320 c) 576 m) 577 l) 578 w) 579 s) 580 r

abbrev pub layout_words : Watch → List ℕ
layout_words v = layout_block v.places v.own v.firsts v.counted v.monitors v.letters v.wires v.stores v.rows

-- the block F is that, and is read as the layout
abbrev pub LaidBy : (places own firsts counted : List ℕ) → (monitors letters wires stores rows : ℕ) → (block : List ℕ) → Type 0
LaidBy p o f c m l w s r F = (F ≡ layout_block p o f c m l w s r) × (layout_in F ≡ layout p o f m l) × (counted_in F ≡ c)

-- of a watch
abbrev pub LaidOut : Watch → (block : List ℕ) → Type 0
LaidOut v F = LaidBy v.places v.own v.firsts v.counted v.monitors v.letters v.wires v.stores v.rows F

abbrev pub step_from : Watch → Moving → ℕ → Move
step_from v s w = step_of (given_of v s.values (w ∷ s.last ∷ [])) (layout_of v) s.marks

-- which limits count the tick, and what it is answered with
abbrev pub mask_from : Watch → Moving → ℕ → ℕ
mask_from v s w = mask_at (given_of v s.values (w ∷ s.last ∷ [])) (layout_of v) s.marks v.counted s.windows

abbrev pub answer_from : Watch → Moving → ℕ → ℕ
answer_from v s w = answer_at (given_of v s.values (w ∷ s.last ∷ [])) (layout_of v) s.marks v.counted s.windows

-- what is made of a word
abbrev pub judge : Watch → Moving → ℕ → Verdict
judge v s w = verdict_by (answer_from v s w)

abbrev pub onward : Watch → Moving → ℕ → Moving
onward v s w =
    record {
      marks = (step_from v s w).marks;
      values = (step_from v s w).values;
      last = w;
      totals = count_met (step_from v s w).marks (min v.letters 256) s.totals;
      windows = windows_after s.windows (mask_from v s w);
    }

-- n numbers of a list from l on
unfoldable pub stretch : List ℕ → (n l : ℕ) → List ℕ
stretch N zero l = []
stretch N (suc n) l = get_or N l 0 ∷ stretch N n (suc l)

-- W13: how often each letter of a monitor was met, for n monitors from i on: the letters of a monitor are those from its own first up to the next monitor's
unfoldable pub totals_from : (firsts totals : List ℕ) → (monitors letters n i : ℕ) → List (List ℕ)
totals_from F N m l zero i = []
totals_from F N m l (suc n) i = stretch N (letters_end F m l i - get_or F i 0) (get_or F i 0) ∷ totals_from F N m l n (suc i)

-- for all monitors, of 32 monitors and 256 letters at most
abbrev pub totals_in : (firsts totals : List ℕ) → (monitors letters : ℕ) → List (List ℕ)
totals_in F N m l = totals_from F N (min m 32) (min l 256) (min m 32) 0

abbrev pub totals_of : Watch → List (List ℕ)
totals_of v = totals_in v.firsts v.totals v.monitors v.letters

-- a watch's state between two calls
abbrev pub state_of : Watch → State Moving
state_of v = record { inner = record { marks = v.marks; values = v.values; last = v.before; totals = v.totals; windows = v.windows }; oks = v.ticks; stopped = v.stopped }

abbrev pub with_state : Watch → State Moving → Watch
with_state v s =
    record {
      table = v.table;
      look = v.look;
      want = v.want;
      held = v.held;
      links = v.links;
      numbers = v.numbers;
      places = v.places;
      own = v.own;
      firsts = v.firsts;
      rows = v.rows;
      letters = v.letters;
      monitors = v.monitors;
      wires = v.wires;
      stores = v.stores;
      before = s.inner.last;
      values = s.inner.values;
      marks = s.inner.marks;
      ticks = s.oks;
      totals = s.inner.totals;
      stopped = s.stopped;
      counted = v.counted;
      windows = s.inner.windows;
    }

-- W2: the reply to a word, looked at or taken, and the watch after its take. X11: 16, 17, 15 and then the verdict, as `meaning` has them, by what the watch makes of the word.
unfoldable pub reply_of : Watch → ℕ → Reply
reply_of v w = reply (judge v) v.wires (state_of v) w

unfoldable pub watch_after : Watch → ℕ → Watch
watch_after v w = with_state v (after (onward v) (state_of v) w (reply_of v w))

-- W12: the rows that a tick touches on the watch, as far as that can be told, and those that a take of a word tells
unfoldable pub touched_on : Watch → ℕ
touched_on v = min (touched_of (counts v.table (counts_of v) v.places) v.own v.marks v.monitors v.letters) 65535

abbrev pub touched_for : Watch → ℕ → ℕ
touched_for v w = touched_by (reply_of v w) (touched_on v)

-- how many rows the walk of a tick with the word w visits on the watch
abbrev pub visits_on : Watch → ℕ → ℕ
visits_on v w = visits_within (given_of v v.values (w ∷ v.before ∷ [])) (within (layout_of v)) v.marks

-- the number of a refused call (W3 to W5, in the order of X11), or 0
abbrev pub refused_by : (stopped : Bool) → (oks wires word : ℕ) → ℕ
refused_by b n wires w = cond b stopped (cond (is_full n) full (cond (is_stray wires w) stray 0))

-- W10: "A look leaves the watch as it was, whatever its answer"
abbrev pub watch_after_call : Watch → Call → Watch
watch_after_call v (look w) = v
watch_after_call v (take w) = watch_after v w

-- W11: "each other one the watch that the call before it left"
unfoldable pub replies_of : Watch → List Call → List Reply
replies_of v [] = []
replies_of v (c ∷ cs) = reply_of v (word_of c) ∷ replies_of (watch_after_call v c) cs

-- W12: the same with the rows that takes touch
abbrev pub answer_of : Watch → Call → Answer
answer_of v (look w) = looked (reply_of v w)
answer_of v (take w) = took (reply_of v w) (touched_for v w)

unfoldable pub answers_of : Watch → List Call → List Answer
answers_of v [] = []
answers_of v (c ∷ cs) = answer_of v c ∷ answers_of (watch_after_call v c) cs

-- and the watch after them
unfoldable pub watch_after_all : Watch → List Call → Watch
watch_after_all v [] = v
watch_after_all v (c ∷ cs) = watch_after_all (watch_after_call v c) cs

-- W1, W7 to W10 and W13: what a watch u, opened as v with the monitors ms, has where the meaning stands at h: tick count, stop, the word before, the store values, and how often
-- each letter of each monitor was met, in their order, zeros behind these; all else but the marks and the windows of limits is as in v
pub record Held (ms : List Exp) (v u : Watch) (h : State History) : Type 0 where
  pub tables : u ≡ with_state v (state_of u)
  pub ticks : u.ticks ≡ h.oks
  pub stopped : u.stopped ≡ h.stopped
  pub before : u.before ≡ h.inner.last
  pub values : u.values ≡ sets (replicate 16 0) 0 h.inner.stores
  pub totals : u.totals ≡ sets (replicate 256 0) 0 (each (totals ms h.inner.ticks) (λ ns. ns))

-- A tick with its limits, on top of the monitors' step (docs/REFERENCE.md, F29 to F31 and W6 to W8); over any watch. Assumes nothing.
use Rattle.std.specs.Prelude.{Bool, cond, List, ℕ, ◌+◌, min, eqb, ltb, get_or}
use Rattle.meaning.specs.Fit.{Verdict, ok, bad}
use Rattle.windows.specs.Windows.{met_mask, limits_at, first_beyond, passed}
use Rattle.monitor.specs.Letters.{Given}
use Rattle.monitor.specs.Ticks.{Layout, within, Reached, monitors_go, shut_busy, empty_memory, step_of, stuck_at}

-- there are no limits: ticks are not counted
abbrev pub unlimited : (windows : List ℕ) → Bool
unlimited W = eqb (get_or W limits_at 0) 0

-- F29: which limits count a tick, by the letters marked in its memory
abbrev pub tick_mask : (memory counted windows : List ℕ) → (letters : ℕ) → ℕ
tick_mask M C W n = cond (unlimited W) 0 (met_mask M C (min n 256))

-- W6: the monitor reached, of m, if it does not go on; else 32 and the lowest limit that a tick of mask x is beyond
abbrev pub answer_by : (monitor m : ℕ) → (windows : List ℕ) → (x : ℕ) → ℕ
answer_by i m W x = cond (stuck_at i m) i (32 + first_beyond W x)

-- it is beyond none of 8
abbrev pub fine : ℕ
fine = 40

abbrev pub is_bad : (answer : ℕ) → Bool
is_bad a = ltb a fine

abbrev pub verdict_by : (answer : ℕ) → Verdict
verdict_by a = cond (is_bad a) (bad a) ok

-- the windows after a good tick
abbrev pub windows_after : (windows : List ℕ) → (x : ℕ) → List ℕ
windows_after W x = cond (unlimited W) W (passed W x)

-- ---- one tick

-- its walk
abbrev pub walk_of : Given → Layout → (marks : List ℕ) → Reached
walk_of g y K = monitors_go g (within y) K (within y).monitors 0 (shut_busy g K (within y).letters empty_memory)

abbrev pub mask_at : Given → Layout → (marks counted windows : List ℕ) → ℕ
mask_at g y K C W = tick_mask (walk_of g y K).memory C W y.letters

abbrev pub answer_at : Given → Layout → (marks counted windows : List ℕ) → ℕ
answer_at g y K C W = answer_by (step_of g y K).monitor y.monitors W (mask_at g y K C W)

-- the answer; the marks, store values and windows after the tick (W7), or as before it where it is bad (W8)
pub record Stepped : Type 0 where
  pub answer : ℕ
  pub marks : List ℕ
  pub values : List ℕ
  pub windows : List ℕ

abbrev pub stepped : ℕ → (marks values windows : List ℕ) → Stepped
stepped a K σ W = record { answer = a; marks = K; values = σ; windows = W }

abbrev pub tick_of : Given → Layout → (marks counted windows : List ℕ) → Stepped
tick_of g y K C W =
    cond (is_bad (answer_at g y K C W)) (stepped (answer_at g y K C W) K g.values W)
    (stepped (answer_at g y K C W) (step_of g y K).marks (step_of g y K).values (windows_after W (mask_at g y K C W)))

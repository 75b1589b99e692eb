-- A look or a take on a watch as words, and a list of them (docs/REFERENCE.md, W2 to W12 and W15): any words. It is `monitor`'s Calls by what the words have, and not by a watch. Assumes nothing.
use Rattle.std.specs.Prelude.{cond, List, [], ◌∷◌, ℕ, ◌+◌, min, ltb, get_or, set, replicate}
use Rattle.meaning.specs.Answers as meaning
use Rattle.meaning.specs.Opening.{Opened}
use Rattle.meaning.specs.Fit.{Verdict}
use Rattle.meaning.specs.Calls.{Call, look, take, Reply, ok, bad, refused, reply, touched_by, Answer, looked, took}
use Rattle.windows.specs.Windows.{counted_in}
use Rattle.rules.specs.declared.Watch.{Watch}
use Rattle.rules.specs.Watches.{watch_of}
use Rattle.counts.specs.Counts.{counts_of}
use Rattle.monitor.specs.Letters.{given}
use Rattle.monitor.specs.Tally.{counts_by, touched_of}
use Rattle.monitor.specs.Ticks.{places_in, own_in, layout_in, letter_at}
use Rattle.monitor.specs.Limited.{Stepped, answer_at, tick_of, verdict_by}
use Rattle.monitor.specs.Calls.{Moving, tables_of, layout_words}
use Rattle.live.specs.State.{ticks_at, values_at, totals_at, marks_in, state_in, placed, moved, halted}

-- W15: two groups of four blocks of 1,024 words: the tables of a tick; its layout, what leaving and what asking each row touches, and the state
abbrev pub Words : Type 0
Words = List (List (List ℕ))

abbrev pub tables_in : Words → List (List ℕ)
tables_in W = get_or W 0 []

abbrev pub layout_block : Words → List ℕ
layout_block W = get_or (get_or W 1 []) 0 []

abbrev pub places_block : Words → List ℕ
places_block W = get_or (get_or W 1 []) 1 []

abbrev pub costs_block : Words → List ℕ
costs_block W = get_or (get_or W 1 []) 2 []

abbrev pub state_block : Words → List ℕ
state_block W = get_or (get_or W 1 []) 3 []

-- with another block k of the second group
abbrev pub with_block : (k : ℕ) → (block : List ℕ) → Words → Words
with_block k B W = set W 1 (set (get_or W 1 []) k B)

-- a tick moves the state alone
abbrev pub with_state : (state : List ℕ) → Words → Words
with_state S W = with_block 3 S W

-- how many letters, wires and stores there are
abbrev pub letters_in : Words → ℕ
letters_in W = get_or (layout_block W) 577 0

abbrev pub wires_in : Words → ℕ
wires_in W = get_or (layout_block W) 578 0

abbrev pub stores_in : Words → ℕ
stores_in W = get_or (layout_block W) 579 0

-- ---- opening

-- W1: the state of a watch with these marks, store values and windows: no tick yet, no letter met
abbrev pub first_state : (marks values windows : List ℕ) → List ℕ
first_state K σ X = placed 0 K σ X (replicate 1024 0)

-- the watch laid out in words, whatever they held
abbrev pub filled : Watch → Words → Words
filled v W =
    with_state (first_state v.marks v.values v.windows)
    (with_block 2 (get_or (counts_of v) 1 []) (with_block 1 (get_or (counts_of v) 0 []) (with_block 0 (layout_words v) (set W 0 (tables_of v)))))

-- X13: a refused text fills nothing
abbrev pub opened_in : meaning.Answer Opened → Words → Words
opened_in (meaning.value o) W = filled (watch_of (meaning.value o)) W
opened_in (meaning.refused n p) W = W

-- ---- one word

-- what is made of it
abbrev pub judge_in : Words → Moving → ℕ → Verdict
judge_in W s w =
    verdict_by (answer_at (given (tables_in W) s.values (w ∷ s.last ∷ [])) (layout_in (layout_block W)) s.marks (counted_in (layout_block W)) s.windows)

abbrev pub tick_in : Words → Moving → ℕ → Stepped
tick_in W s w = tick_of (given (tables_in W) s.values (w ∷ s.last ∷ [])) (layout_in (layout_block W)) s.marks (counted_in (layout_block W)) s.windows

-- the state after a good tick
abbrev pub onward_in : Words → ℕ → List ℕ
onward_in W w =
    let t = tick_in W (state_in (state_block W)).inner w in
    moved w (min (letters_in W) 256) t.marks t.values t.windows (state_block W)

-- W2 and X11: the reply to a word, looked at or taken
unfoldable pub reply_in : Words → ℕ → Reply
reply_in W w = reply (judge_in W) (wires_in W) (state_in (state_block W)) w

-- W7 to W9: what a take leaves
abbrev pub left_by : Words → ℕ → Reply → Words
left_by W w ok = with_state (onward_in W w) W
left_by W w (bad m) = with_state (halted (state_block W)) W
left_by W w (refused n p) = W

unfoldable pub words_after : Words → ℕ → Words
words_after W w = left_by W w (reply_in W w)

-- W12: the rows that a tick touches that follows these marks
abbrev pub touched_with : Words → (marks : List ℕ) → ℕ
touched_with W K =
    min (touched_of (counts_by (get_or (tables_in W) 0 []) (places_block W) (costs_block W) (places_in (layout_block W))) (own_in (layout_block W)) K (get_or (layout_block W) 576 0) (letters_in W)) 65535

unfoldable pub touched_in : Words → ℕ
touched_in W = touched_with W (marks_in (state_block W))

-- ---- what a watch holds

-- the value of a store, 0 where there is none
abbrev pub store_in : Words → (store : ℕ) → ℕ
store_in W k = cond (ltb k (min (stores_in W) 16)) (get_or (state_block W) (values_at + k) 0) 0

-- W13: how often letter l of monitor m was met, 0 where there is none
abbrev pub met_in : Words → (m l : ℕ) → ℕ
met_in W m l = cond (ltb (letter_at (layout_block W) m l) 256) (get_or (state_block W) (totals_at + letter_at (layout_block W) m l) 0) 0

abbrev pub ticks_in : Words → ℕ
ticks_in W = get_or (state_block W) ticks_at 0

-- ---- calls

abbrev pub answer_in : Words → Call → Answer
answer_in W (look w) = looked (reply_in W w)
answer_in W (take w) = took (reply_in W w) (touched_by (reply_in W w) (touched_in W))

-- W10: a look leaves the words as they were
abbrev pub words_after_call : Words → Call → Words
words_after_call W (look w) = W
words_after_call W (take w) = words_after W w

-- W11: each call gets the words that the one before it left
unfoldable pub answers_in : Words → List Call → List Answer
answers_in W [] = []
answers_in W (c ∷ cs) = answer_in W c ∷ answers_in (words_after_call W c) cs

unfoldable pub words_after_all : Words → List Call → Words
words_after_all W [] = W
words_after_all W (c ∷ cs) = words_after_all (words_after_call W c) cs

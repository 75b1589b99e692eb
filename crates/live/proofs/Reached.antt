-- After opening a text and any calls, the words stand for the watch, and so their answers are the watch's. Assumes nothing.
use mathlib.Core.Path.{◌≡◌, refl, sym, ap, ap₂, ◌∙◌, subst}
use mathlib.Core.Bool.{Bool, true, false, not, cond}
use mathlib.Core.List.{List, [], ◌∷◌, ◌++◌, map}
use Prim.Native.Nat.{ℕ, zero, suc, ◌+◌, ◌-◌, ◌%◌, ◌<◌, ◌≤◌, min}
use native.Mathlib.Omega.{arith}
use borrow.Author.Tests.{eqb-true, eqb-false}
use lib.Dec.{eqb, ltb}
use lib.Bits.{or_lt}
use lib.ListN.{length, length-set, length-replicate, length-take, length-drop, get_or, get_or-replicate, set, drop, replicate, take as take-some}
use lib.Seq.{sets, length-sets, get_or-set_same, get_or-set_other, set-get_or, get_or-take, get_or-drop, ext_get_or}
use Rattle.meaning.specs.Answers.{value}
use Rattle.meaning.specs.Calls.{Call, look, take, word_of, State, Reply, ok, bad, refused, reply, after, after_call, state_from, standing, touched_by, Answer, looked, took}
use Rattle.meaning.specs.Lists.{each}
use Rattle.meaning.specs.Expression.{letters, size, rows}
use Rattle.meaning.specs.Opening.{Opened, open_text}
use Rattle.words.specs.Words.{part1, part2}
use Rattle.windows.specs.Windows.{met_mask, mask_of, counted_in, next_count, counted, limits_in, place_in, passed, limited, opened_windows}
use Rattle.rules.specs.declared.Watch.{Watch}
use Rattle.rules.specs.Watches.{watch_of, counted_of, no_lists, letters_from, limit_mask}
use Rattle.rules.specs.Monitors.{with_monitors, starts_by}
use Rattle.shape.specs.Walk.{kinds}
use Rattle.rules.proofs.Limited.{counted-low, windows-open}
use Rattle.counts.specs.Counts.{counts_of}
use Rattle.monitor.specs.Letters.{Given}
use Rattle.monitor.specs.Ticks.{Layout, Reached, Move, move, marks_after, write_marked, writers, move_by, monitors_go, shut_busy, empty_memory, step_within, layout_in, each_marked, count_met}
use Rattle.monitor.specs.Limited.{unlimited, windows_after, walk_of}
use Rattle.monitor.specs.Calls.{Moving, tables_of, layout_of, layout_words, LaidOut, state_of, with_state, judge, onward, mask_from, given_of, reply_of, watch_after, watch_after_call, watch_after_all, answer_of, answers_of}
use Rattle.monitor.proofs.Most.{AllMost, replicate-most, set-most}
use Rattle.monitor.proofs.Replies.{watches-by}
use Rattle.monitor.proofs.Calls.{marks-bits, watch-held}
use Rattle.monitor.proofs.Layouts.{own-bytes, laid_out}
use Rattle.live.specs.State.{totals_in, windows_from, windows_in, state_in}
use Rattle.live.specs.Calls.{Words, layout_block, state_block, with_block, first_state, filled, answer_in, answers_in, words_after_call, words_after_all}
use Rattle.live.proofs.StateLaws.{placed-long, placed-front, placed-marks, placed-values, placed-totals, placed-windows}
use Rattle.live.proofs.Tied.{Shaped, block-tables, block_same, block-other, block-shaped, Ties, Sized, state-by, reply-tied, touched-tied, after_tied}

-- ---- the sizes of what moves

padded-long : (n i : ℕ) (xs : List ℕ) → length (sets (replicate n 0) i xs) ≡ n
padded-long n i xs = length-sets {A = ℕ} (replicate n 0) i xs ∙ length-replicate {A = ℕ} n 0

pub record Wide (s : Moving) : Type 0 where
  pub marks_all : length s.marks ≡ 288
  pub narrow : AllMost 65535 s.windows
  pub windows_all : length s.windows ≡ 1056

-- a tick's windows
module _ (X : List ℕ) (x : ℕ) where
  counted-long : (n : ℕ) → length (counted X x n) ≡ length X
  unfolding counted
  counted-long zero = refl
  counted-long (suc n) = length-set (counted X x n) (1024 + n) (next_count X x n % 65536) ∙ counted-long n

  counted-most : AllMost 65535 X → (n : ℕ) → AllMost 65535 (counted X x n)
  unfolding counted
  counted-most h zero = h
  counted-most h (suc n) = set-most (counted X x n) (1024 + n) (next_count X x n % 65536) (counted-most h n) (omega arith)

  counted-limits : (n : ℕ) → n ≤ 8 → get_or (counted X x n) 1049 0 ≡ get_or X 1049 0
  unfolding counted
  counted-limits zero h = refl
  counted-limits (suc n) h =
      get_or-set_other (counted X x n) (1024 + n) 1049 (next_count X x n % 65536) 0 (λ e. omega (arith, e, h)) ∙ counted-limits n (omega (arith, h))

  passed-long : length (passed X x) ≡ length X
  passed-long = length-set (set (counted X x (limits_in X)) (place_in X) x) 1048 ((place_in X + 1) % 1024) ∙ length-set (counted X x (limits_in X)) (place_in X) x ∙ counted-long (limits_in X)

  passed-most : AllMost 65535 X → x ≤ 65535 → AllMost 65535 (passed X x)
  passed-most h l =
      set-most (set (counted X x (limits_in X)) (place_in X) x) 1048 ((place_in X + 1) % 1024) (set-most (counted X x (limits_in X)) (place_in X) x (counted-most h (limits_in X)) l) (omega arith)

  passed-limits : get_or (passed X x) 1049 0 ≡ get_or X 1049 0
  passed-limits =
      get_or-set_other (set (counted X x (limits_in X)) (place_in X) x) 1048 1049 ((place_in X + 1) % 1024) 0 (λ e. omega (arith, e))
      ∙ get_or-set_other (counted X x (limits_in X)) (place_in X) 1049 x 0 (λ e. omega (arith, e)) ∙ counted-limits (limits_in X) (omega arith)

  after-long : length (windows_after X x) ≡ length X
  after-long = by (unlimited X)
    where
      by : (b : Bool) → length (cond b X (passed X x)) ≡ length X
      by true = refl
      by false = passed-long

  after-most : AllMost 65535 X → x ≤ 65535 → AllMost 65535 (windows_after X x)
  after-most h l = by (unlimited X)
    where
      by : (b : Bool) → AllMost 65535 (cond b X (passed X x))
      by true = h
      by false = passed-most h l

  -- windows without limits stay
  after_same : unlimited (windows_after X x) ≡ true → X ≡ windows_after X x
  after_same e = by (unlimited X) refl e
    where
      by : (b : Bool) → unlimited X ≡ b → unlimited (cond b X (passed X x)) ≡ true → X ≡ cond b X (passed X x)
      by true p q = refl
      by false p q = absurd (eqb-false (get_or X 1049 0) 0 p (sym passed-limits ∙ eqb-true (get_or (passed X x) 1049 0) 0 q))

mask_low : (M C : List ℕ) → AllMost 255 C → (n : ℕ) → met_mask M C n < 256
unfolding met_mask
mask_low M C h zero = omega arith
mask_low M C h (suc n) = or_lt 8 (met_mask M C n) (mask_of M C n) (mask_low M C h n) (by (eqb (get_or M (1024 + n) 0) 0))
  where
    by : (b : Bool) → cond b 0 (get_or C n 0) < 256
    by true = omega arith
    by false = let l = h n in omega (arith, l)

step-long : (g : Given) (y : Layout) (K : List ℕ) → length K ≡ 288 → length (step_within g y K).marks ≡ 288
unfolding step_within
step-long g y K h = by (monitors_go g y K y.monitors 0 (shut_busy g K y.letters empty_memory))
  where
    by : (a : Reached) → length (move_by g y K a).marks ≡ 288
    by a =
        either (ltb a.monitor y.monitors) (move a.monitor K g.values) (move a.monitor (marks_after 256 a.memory) (write_marked g (marks_after 256 a.memory) (writers g y.letters) 0 g.values)) h
        (padded-long 288 0 (take-some 256 (drop 1024 a.memory)))
      where
        either : (b : Bool) (m n : Move) → length m.marks ≡ 288 → length n.marks ≡ 288 → length (cond b m n).marks ≡ 288
        either true m n p q = p
        either false m n p q = q

module _ (v : Watch) (low : AllMost 255 v.counted) where
  onward-wide : (s : Moving) (w : ℕ) → Wide s → Wide (onward v s w)
  onward-wide s w h = record {
    marks_all = step-long _ _ s.marks h.marks_all;
    narrow = after-most s.windows (mask_from v s w) h.narrow (mask (unlimited s.windows));
    windows_all = after-long s.windows (mask_from v s w) ∙ h.windows_all;
  }
    where
      mask : (b : Bool) → cond b 0 (met_mask (walk_of (given_of v s.values (w ∷ s.last ∷ [])) (layout_of v) s.marks).memory v.counted (min v.letters 256)) ≤ 65535
      mask true = omega arith
      mask false = let l = mask_low (walk_of (given_of v s.values (w ∷ s.last ∷ [])) (layout_of v) s.marks).memory v.counted low (min v.letters 256) in omega (arith, l)

  wide-after : (s : State Moving) (w : ℕ) (r : Reply) → Wide s.inner → Wide (after (onward v) s w r).inner
  wide-after s w ok h = onward-wide s.inner w h
  wide-after s w (bad m) h = h
  wide-after s w (refused n p) h = h

  wide-call : (s : State Moving) (c : Call) (r : Reply) → Wide s.inner → Wide (after_call (onward v) s c r).inner
  wide-call s (look w) r h = h
  wide-call s (take w) r h = wide-after s w r h

  wide_from : (cs : List Call) (s : State Moving) → Wide s.inner → Wide (state_from (judge v) (onward v) v.wires s cs).inner
  unfolding state_from
  wide_from [] s h = h
  wide_from (c ∷ cs) s h = wide_from cs (after_call (onward v) s c (reply (judge v) v.wires s (word_of c))) (wide-call s c _ h)

-- ---- opening

limited-long : (L : List ℕ) (n : ℕ) → length (limited L n) ≡ 1056
unfolding limited
limited-long L zero = length-replicate {A = ℕ} 1056 0
limited-long L (suc n) =
    length-set (set (limited L n) (1032 + n) (part1 (get_or L n 0))) (1040 + n) (1024 - part2 (get_or L n 0)) ∙ length-set (limited L n) (1032 + n) (part1 (get_or L n 0)) ∙ limited-long L n

limited-most : (L : List ℕ) (n : ℕ) → AllMost 65535 (limited L n)
unfolding limited
limited-most L zero = replicate-most 1056 0 (omega arith)
limited-most L (suc n) =
    set-most (set (limited L n) (1032 + n) (part1 (get_or L n 0))) (1040 + n) (1024 - part2 (get_or L n 0)) (set-most (limited L n) (1032 + n) (part1 (get_or L n 0)) (limited-most L n) (omega arith)) (omega arith)

opened-long : (L : List ℕ) (n : ℕ) → length (opened_windows L n) ≡ 1056
opened-long L n = length-set (limited L (min n 8)) 1049 (min n 8) ∙ limited-long L (min n 8)

opened-most : (L : List ℕ) (n : ℕ) → AllMost 65535 (opened_windows L n)
opened-most L n = set-most (limited L (min n 8)) 1049 (min n 8) (limited-most L (min n 8)) (omega arith)

-- without limits they are zeros
opened-none : (L : List ℕ) (n : ℕ) → unlimited (opened_windows L n) ≡ true → replicate 1056 0 ≡ opened_windows L n
unfolding limited
opened-none L n e =
    let l = limited-long L (min n 8) in
    let z : min n 8 ≡ 0 = sym (get_or-set_same (limited L (min n 8)) 1049 (min n 8) 0 (omega (arith, l))) ∙ eqb-true (get_or (opened_windows L n) 1049 0) 0 e in
    sym (ap (λ (k : ℕ). set (limited L k) 1049 k) z ∙ ap (set (replicate 1056 0) 1049) (sym (get_or-replicate 1056 1049 0 0 (omega arith))) ∙ set-get_or (replicate 1056 0) 1049 0)

module _ (text : List ℕ) (o : Opened) (e : open_text text ≡ value o) where
  abbrev v : Watch
  v = watch_of (value o)

  low : AllMost 255 v.counted
  unfolding watch_of
  low i = let h = counted-low text o e i in omega (arith, h)

  first-narrow : AllMost 65535 v.windows
  unfolding watch_of
  first-narrow = subst (AllMost 65535) (sym (windows-open text o e)) (opened-most _ _)

  first-windows : length v.windows ≡ 1056
  unfolding watch_of
  first-windows = ap length (windows-open text o e) ∙ opened-long _ _

  first-none : unlimited v.windows ≡ true → replicate 1056 0 ≡ v.windows
  unfolding watch_of
  first-none h = opened-none _ _ (ap unlimited (sym (windows-open text o e)) ∙ h) ∙ sym (windows-open text o e)

  first_marks : length v.marks ≡ 288
  unfolding watch_of
  first_marks = padded-long 288 256 (replicate (length o.monitors) 1)

  first-values : length v.values ≡ 16
  unfolding watch_of
  first-values = padded-long 16 0 o.initial

  first-bits : AllMost 255 v.marks
  unfolding watch_after_all
  first-bits k = let b = marks-bits text o e [] k in omega (arith, b)

  first-laid : LaidOut v (layout_words v)
  unfolding watch_of counted_of
  first-laid =
      let x = watch_of (value o) in
      laid_out x.places x.own x.firsts x.counted x.monitors x.letters x.wires x.stores x.rows (padded-long 256 0 (letters_from 0 (kinds (take-some o.row_count (with_monitors no_lists 0 0 0 o.monitors).table)))) (padded-long 32 0 (starts_by rows 0 o.monitors))
      (padded-long 32 0 (starts_by size 0 o.monitors)) (padded-long 256 0 (each o.monitors (λ m. map (limit_mask o.limits) (letters m))))
      (own-bytes (counted_of o) (λ i l. counted-low text o e i)) (layout_words (watch_of (value o))) refl

  first-numbers : (get_or (layout_words v) 578 0 ≡ v.wires) × (get_or (layout_words v) 579 0 ≡ v.stores)
  first-numbers =
      let a = sets (replicate 1024 0) 0 v.places in
      let b = sets a 256 v.own in
      let c = sets b 288 v.firsts in
      let d = sets c 320 v.counted in
      let k = set (set d 576 v.monitors) 577 v.letters in
      let long : length k ≡ 1024
      = length-set (set d 576 v.monitors) 577 v.letters ∙ length-set d 576 v.monitors ∙ length-sets c 320 v.counted ∙ length-sets b 288 v.firsts ∙ length-sets a 256 v.own
      ∙ padded-long 1024 0 v.places in (
        get_or-set_other (set (set k 578 v.wires) 579 v.stores) 580 578 v.rows 0 (λ e. omega (arith, e)) ∙ get_or-set_other (set k 578 v.wires) 579 578 v.stores 0 (λ e. omega (arith, e))
            ∙ get_or-set_same k 578 v.wires 0 (omega (arith, long)),
        get_or-set_other (set (set k 578 v.wires) 579 v.stores) 580 579 v.rows 0 (λ e. omega (arith, e))
            ∙ get_or-set_same (set k 578 v.wires) 579 v.stores 0 (let n = length-set k 578 v.wires in omega (arith, n, long)),
      )

  abbrev zeros : List ℕ
  zeros = replicate 1024 0

  zero-at : (i : ℕ) → i < 1024 → get_or zeros i 0 ≡ 0
  zero-at i h = get_or-replicate 1024 i 0 0 h

  zeros-long : length zeros ≡ 1024
  zeros-long = length-replicate {A = ℕ} 1024 0

  no-windows : windows_in zeros ≡ replicate 1056 0
  no-windows = ap (λ (n : ℕ). cond (eqb (part1 n) 0) (replicate 1056 0) (windows_from zeros 264)) (zero-at 838 (omega arith))

  read_none : unlimited v.windows ≡ true → windows_in zeros ≡ v.windows
  read_none h = no-windows ∙ first-none h

  no-totals : totals_in zeros ≡ replicate 256 0
  no-totals =
      ext_get_or 0 (totals_in zeros) (replicate 256 0) (length-take 256 (drop 320 zeros) ∙ ap (λ (n : ℕ). min 256 n) (length-drop 320 zeros ∙ ap (λ (n : ℕ). n - 320) zeros-long) ∙ sym (length-replicate {A = ℕ} 256 0))
      (λ i l.
      let m = length-take 256 (drop 320 zeros) in
      let b : i < 256 = omega (arith, l, m) in
      get_or-take 256 (drop 320 zeros) i 0 b ∙ get_or-drop 320 zeros i 0 ∙ zero-at (320 + i) (omega (arith, b)) ∙ sym (get_or-replicate 256 i 0 0 b))

  abbrev first : List ℕ
  first = first_state v.marks v.values v.windows

  none-counted : (K N : List ℕ) → count_met K 0 N ≡ N
  unfolding each_marked
  none-counted K N = refl

  -- what a watch holds that opening gave
  opened-numbers : (v.totals ≡ replicate 256 0) × (v.ticks ≡ 0) × (v.before ≡ 0) × (v.stopped ≡ false)
  unfolding watch_of
  opened-numbers = (refl, refl, refl, refl)

  first-state : state_in first ≡ state_of v
  first-state =
      let (n, t, b, s) = opened-numbers in
      let front = placed-front 0 v.marks v.values v.windows zeros zeros-long (omega arith) first-bits first_marks first-values first-narrow first-windows read_none in
      state-by first (state_of v)
      (placed-marks 0 v.marks v.values v.windows zeros zeros-long (omega arith) first-bits first_marks first-values first-narrow first-windows read_none)
      (placed-values 0 v.marks v.values v.windows zeros zeros-long (omega arith) first-bits first_marks first-values first-narrow first-windows read_none)
      (front 2 (omega arith) ∙ zero-at 2 (omega arith) ∙ sym b)
      (placed-totals 0 v.marks v.values v.windows zeros zeros-long (omega arith) first-bits first_marks first-values first-narrow first-windows read_none ∙ none-counted v.marks (totals_in zeros) ∙ no-totals ∙ sym n)
      (placed-windows 0 v.marks v.values v.windows zeros zeros-long (omega arith) first-bits first_marks first-values first-narrow first-windows read_none)
      (front 0 (omega arith) ∙ zero-at 0 (omega arith) ∙ sym t)
      (ap (λ (k : ℕ). not (eqb k 0)) (front 1 (omega arith) ∙ zero-at 1 (omega arith)) ∙ sym s)

  module _ (W : Words) (shaped : Shaped W) where
    abbrev W₀ : Words
    W₀ = set W 0 (tables_of v)

    shaped₀ : Shaped W₀
    shaped₀ = record { groups = length-set W 0 (tables_of v) ∙ shaped.groups; blocks = ap length (get_or-set_other W 0 1 (tables_of v) [] (λ e. omega (arith, e))) ∙ shaped.blocks }

    abbrev W₁ : Words
    W₁ = with_block 0 (layout_words v) W₀

    shaped₁ : Shaped W₁
    shaped₁ = block-shaped 0 (layout_words v) W₀ shaped₀

    abbrev W₂ : Words
    W₂ = with_block 1 (get_or (counts_of v) 0 []) W₁

    shaped₂ : Shaped W₂
    shaped₂ = block-shaped 1 (get_or (counts_of v) 0 []) W₁ shaped₁

    abbrev W₃ : Words
    W₃ = with_block 2 (get_or (counts_of v) 1 []) W₂

    shaped₃ : Shaped W₃
    shaped₃ = block-shaped 2 (get_or (counts_of v) 1 []) W₂ shaped₂

    -- the block j that was stored last of all but the state
    behind : (j : ℕ) → j < 3 → get_or (get_or (filled v W) 1 []) j [] ≡ get_or (get_or W₃ 1 []) j []
    behind j h = block-other 3 first W₃ shaped₃ j (λ e. omega (arith, e, h))

    lays : layout_block (filled v W) ≡ layout_words v
    lays =
        behind 0 (omega arith) ∙ block-other 2 (get_or (counts_of v) 1 []) W₂ shaped₂ 0 (λ e. omega (arith, e)) ∙ block-other 1 (get_or (counts_of v) 0 []) W₁ shaped₁ 0 (λ e. omega (arith, e))
        ∙ block_same 0 (layout_words v) W₀ shaped₀ (omega arith)

    state-there : state_block (filled v W) ≡ first
    state-there = block_same 3 first W₃ shaped₃ (omega arith)

    -- the numbers of wires and stores in the layout
    numbers : (get_or (layout_words v) 578 0 ≡ v.wires) × (get_or (layout_words v) 579 0 ≡ v.stores)
    numbers = first-numbers

    -- opening lays the words out for its watch
    pub opened-tied : Ties v (filled v W)
    opened-tied = record {
      shaped = block-shaped 3 first W₃ shaped₃;
      tables = block-tables 3 first W₃ shaped₃ ∙ block-tables 2 (get_or (counts_of v) 1 []) W₂ shaped₂ ∙ block-tables 1 (get_or (counts_of v) 0 []) W₁ shaped₁ ∙ block-tables 0 (layout_words v) W₀ shaped₀
          ∙ get_or-set_same W 0 (tables_of v) [] (let g = shaped.groups in omega (arith, g));
      layout = ap layout_in lays ∙ first-laid.1;
      counted = ap counted_in lays ∙ first-laid.2;
      wires = ap (λ (F : List ℕ). get_or F 578 0) lays ∙ numbers.0;
      stores = ap (λ (F : List ℕ). get_or F 579 0) lays ∙ numbers.1;
      places = behind 1 (omega arith) ∙ block-other 2 (get_or (counts_of v) 1 []) W₂ shaped₂ 1 (λ e. omega (arith, e)) ∙ block_same 1 (get_or (counts_of v) 0 []) W₁ shaped₁ (omega arith);
      costs = behind 2 (omega arith) ∙ block_same 2 (get_or (counts_of v) 1 []) W₂ shaped₂ (omega arith);
      long = ap length state-there
          ∙ placed-long 0 v.marks v.values v.windows zeros zeros-long (omega arith) first-bits first_marks first-values first-narrow first-windows read_none;
      state = ap state_in state-there ∙ first-state;
    }

  -- ---- any calls

  all-wide : (cs : List Call) → Wide (state_from (judge v) (onward v) v.wires (state_of v) cs).inner
  all-wide cs = wide_from v low cs (state_of v) (record { marks_all = first_marks; narrow = first-narrow; windows_all = first-windows })

  after_next : (u : Watch) (bs : List Call) (c : Call) → watch_after_all u (bs ++ c ∷ []) ≡ watch_after_call (watch_after_all u bs) c
  unfolding watch_after_all
  after_next u [] c = refl
  after_next u (b ∷ bs) c = after_next (watch_after_call u b) bs c

  abbrev reached : List Call → Watch
  reached cs = watch_after_all v cs

  -- after an ok take the watch has what it moved on to
  moved_on : (u : Watch) (w : ℕ) → reply_of u w ≡ ok → watch_after u w ≡ with_state u (record { inner = onward u (state_of u).inner w; oks = suc u.ticks; stopped = u.stopped })
  unfolding watch_after
  moved_on u w r = ap (λ (k : Reply). with_state u (after (onward u) (state_of u) w k)) r

  next-sized : (cs : List Call) (w : ℕ) → reply_of (reached cs) w ≡ ok → Sized (reached cs) (onward (reached cs) (state_of (reached cs)).inner w)
  next-sized cs w r =
      let u = reached cs in
      let m = after_next v cs (take w) ∙ moved_on u w r in
      let h = watch-held text o e (cs ++ take w ∷ []) in
      let d = watches-by v (state_of v) cs in
      let f = onward-wide v low (state_from (judge v) (onward v) v.wires (state_of v) cs).inner w (all-wide cs) in
      let g : Wide (onward u (state_of u).inner w) = subst (λ (x : Watch). Wide (onward x (state_of x).inner w)) (sym d) f in
      record {
        bits = λ k. let b = subst (λ (x : Watch). AllMost 1 x.marks) m (marks-bits text o e (cs ++ take w ∷ [])) k in omega (arith, b);
        marks_all = g.marks_all;
        values_all = ap (λ (x : Watch). length x.values) (sym m) ∙ ap length h.values ∙ padded-long 16 0 (standing o.limits o.monitors o.initial o.wires (cs ++ take w ∷ [])).inner.stores;
        narrow = g.narrow;
        windows_all = g.windows_all;
        same = after_same u.windows (mask_from u (state_of u).inner w);
      }

  call-tied : (cs : List Call) (c : Call) (W : Words) → Ties (reached cs) W → Ties (watch_after_call (reached cs) c) (words_after_call W c)
  call-tied cs (look w) W t = t
  call-tied cs (take w) W t = after_tied (reached cs) W t w (next-sized cs w)

  answer-tied : (u : Watch) (W : Words) → Ties u W → (c : Call) → answer_in W c ≡ answer_of u c
  answer-tied u W t (look w) = ap looked (reply-tied u W t w)
  answer-tied u W t (take w) = ap₂ (λ (r : Reply) (n : ℕ). took r (touched_by r n)) (reply-tied u W t w) (touched-tied u W t w)

  calls-tied : (bs cs : List Call) (W : Words) → Ties (reached bs) W → (answers_in W cs ≡ answers_of (reached bs) cs) × Ties (watch_after_all (reached bs) cs) (words_after_all W cs)
  unfolding answers_in answers_of watch_after_all words_after_all
  calls-tied bs [] W t = (refl, t)
  calls-tied bs (c ∷ cs) W t =
      let n = after_next v bs c in
      let (a, b) = calls-tied (bs ++ c ∷ []) cs (words_after_call W c) (subst (λ (u : Watch). Ties u (words_after_call W c)) (sym n) (call-tied bs c W t)) in (
        ap₂ (λ (x : Answer) (xs : List Answer). x ∷ xs) (answer-tied (reached bs) W t c) (a ∙ ap (λ (u : Watch). answers_of u cs) n),
        subst (λ (u : Watch). Ties (watch_after_all u cs) (words_after_all (words_after_call W c) cs)) n b,
      )

  -- From the words that opening leaves, whatever they held before, every list of calls is answered as on the watch, and what the words then hold stands for the watch after them.
  module _ (W : Words) (shaped : Shaped W) where
    pub answers-same : (cs : List Call) → answers_in (filled v W) cs ≡ answers_of v cs
    unfolding watch_after_all
    answers-same cs = (calls-tied [] cs (filled v W) (opened-tied W shaped)).0

    pub all-tied : (cs : List Call) → Ties (watch_after_all v cs) (words_after_all (filled v W) cs)
    unfolding watch_after_all
    all-tied cs = (calls-tied [] cs (filled v W) (opened-tied W shaped)).1

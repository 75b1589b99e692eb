-- Words that stand for a watch: the same reply and the same rows touched for every word, and what a take leaves stands for the watch after it. Assumes nothing.
use mathlib.Core.Path.{◌≡◌, refl, sym, ap, ap₂, ◌∙◌, subst}
use mathlib.Core.Bool.{Bool, true, false, not, cond}
use mathlib.Core.List.{List, [], ◌∷◌}
use Prim.Native.Nat.{ℕ, suc, ◌<◌, ◌≤◌, min}
use native.Mathlib.Omega.{arith}
use lib.Dec.{eqb}
use lib.ListN.{length, length-set, get_or, set}
use lib.Seq.{get_or-set_same, get_or-set_other}
use Rattle.lexer.proofs.Bools.{left}
use Rattle.meaning.specs.Fit.{Verdict, ok as clean, bad as broken}
use Rattle.meaning.specs.Calls.{State, Reply, ok, bad, refused, is_full, is_stray, reply, reply_of as verdict_reply}
use Rattle.meaning.specs.Calls as calls
use Rattle.meaning.proofs.ListLaws.{clash}
use Rattle.windows.specs.Windows.{counted_in}
use Rattle.rules.specs.declared.Watch.{Watch}
use Rattle.counts.specs.Counts.{counts_of}
use Rattle.monitor.specs.Letters.{given}
use Rattle.monitor.specs.Tally.{counts_by, touched_of}
use Rattle.monitor.specs.Ticks.{Layout, layout_in, count_met}
use Rattle.monitor.specs.Limited.{Stepped, stepped, answer_at, tick_of, is_bad, verdict_by, unlimited}
use Rattle.monitor.specs.Calls.{Moving, tables_of, layout_of, state_of, judge, onward, answer_from, reply_of, touched_on, watch_after}
use Rattle.monitor.specs.Calls as watch
use Rattle.monitor.proofs.Most.{AllMost}
use Rattle.monitor.proofs.TickSteps.{tick_from}
use Rattle.live.specs.State.{marks_in, values_in, totals_in, windows_in, state_in, ticked, moved, halted}
use Rattle.live.specs.Calls.{Words, tables_in, layout_block, places_block, costs_block, state_block, with_block, with_state, letters_in, wires_in, stores_in, judge_in, tick_in, onward_in, reply_in, left_by, words_after, touched_in}
use Rattle.live.proofs.StateLaws.{placed-long, placed-front, placed-marks, placed-values, placed-totals, placed-windows, ticked-long, ticked-ticks, ticked-before, ticked-stopped, ticked-totals, ticked-windows, halted-long, halted-stopped, halted-ticks, halted-before, halted-marks, halted-values, halted-totals, halted-windows}

-- ---- blocks

-- two groups, the second of four blocks
pub record Shaped (W : Words) : Type 0 where
  pub groups : length W ≡ 2
  pub blocks : length (get_or W 1 []) ≡ 4

-- another block k of the second group
module _ (k : ℕ) (B : List ℕ) (W : Words) (s : Shaped W) where
  second : get_or (with_block k B W) 1 [] ≡ set (get_or W 1 []) k B
  second = get_or-set_same W 1 (set (get_or W 1 []) k B) [] (let e = s.groups in omega (arith, e))

  pub block-tables : tables_in (with_block k B W) ≡ tables_in W
  block-tables = get_or-set_other W 1 0 (set (get_or W 1 []) k B) [] (λ e. omega (arith, e))

  pub block_same : k < 4 → get_or (get_or (with_block k B W) 1 []) k [] ≡ B
  block_same h = ap (λ (g : List (List ℕ)). get_or g k []) second ∙ get_or-set_same (get_or W 1 []) k B [] (let e = s.blocks in omega (arith, e, h))

  pub block-other : (j : ℕ) → (j ≡ k → ⊥) → get_or (get_or (with_block k B W) 1 []) j [] ≡ get_or (get_or W 1 []) j []
  block-other j n = ap (λ (g : List (List ℕ)). get_or g j []) second ∙ get_or-set_other (get_or W 1 []) k j B [] n

  pub block-shaped : Shaped (with_block k B W)
  block-shaped = record { groups = length-set W 1 (set (get_or W 1 []) k B) ∙ s.groups; blocks = ap length second ∙ length-set (get_or W 1 []) k B ∙ s.blocks }

-- ---- words for a watch

pub record Ties (u : Watch) (W : Words) : Type 0 where
  pub shaped : Shaped W
  pub tables : tables_in W ≡ tables_of u
  pub layout : layout_in (layout_block W) ≡ layout_of u
  pub counted : counted_in (layout_block W) ≡ u.counted
  pub wires : wires_in W ≡ u.wires
  pub stores : stores_in W ≡ u.stores
  pub places : places_block W ≡ get_or (counts_of u) 0 []
  pub costs : costs_block W ≡ get_or (counts_of u) 1 []
  pub long : length (state_block W) ≡ 1024
  pub state : state_in (state_block W) ≡ state_of u

-- what a watch moves on to has its sizes: marks fit 8 bits, windows 16; and windows without limits stay as they are
pub record Sized (u : Watch) (n : Moving) : Type 0 where
  pub bits : AllMost 255 n.marks
  pub marks_all : length n.marks ≡ 288
  pub values_all : length n.values ≡ 16
  pub narrow : AllMost 65535 n.windows
  pub windows_all : length n.windows ≡ 1056
  pub same : unlimited n.windows ≡ true → u.windows ≡ n.windows

-- a block is read as a state, part by part
pub state-by : (S : List ℕ) (s : State Moving) → marks_in S ≡ s.inner.marks → values_in S ≡ s.inner.values → get_or S 2 0 ≡ s.inner.last → totals_in S ≡ s.inner.totals → windows_in S ≡ s.inner.windows
    → get_or S 0 0 ≡ s.oks → not (eqb (get_or S 1 0) 0) ≡ s.stopped → state_in S ≡ s
state-by S s a b c d e f g =
    ap₂ (λ (k v : List ℕ). record { inner = record { marks = k; values = v; last = get_or S 2 0; totals = totals_in S; windows = windows_in S }; oks = get_or S 0 0; stopped = not (eqb (get_or S 1 0) 0) }) a b
    ∙ ap₂ (λ (l : ℕ) (t : List ℕ). record { inner = record { marks = s.inner.marks; values = s.inner.values; last = l; totals = t; windows = windows_in S }; oks = get_or S 0 0; stopped = not (eqb (get_or S 1 0) 0) }) c d
    ∙ ap₂ (λ (x : List ℕ) (n : ℕ). record { inner = record { marks = s.inner.marks; values = s.inner.values; last = s.inner.last; totals = s.inner.totals; windows = x }; oks = n; stopped = not (eqb (get_or S 1 0) 0) }) e f
    ∙ ap (λ (z : Bool). record { inner = s.inner; oks = s.oks; stopped = z }) g

-- the words with another state stand for the watch with it
pub with-state : (u : Watch) (W : Words) → Ties u W → (S : List ℕ) (s : State Moving) → length S ≡ 1024 → state_in S ≡ s → Ties (watch.with_state u s) (with_state S W)
with-state u W t S s l e =
    let sh = t.shaped in
    let same = block_same 3 S W sh (omega arith) in
    let lay = block-other 3 S W sh 0 (λ e. omega (arith, e)) in
    record {
      shaped = block-shaped 3 S W sh;
      tables = block-tables 3 S W sh ∙ t.tables;
      layout = ap layout_in lay ∙ t.layout;
      counted = ap counted_in lay ∙ t.counted;
      wires = ap (λ (F : List ℕ). get_or F 578 0) lay ∙ t.wires;
      stores = ap (λ (F : List ℕ). get_or F 579 0) lay ∙ t.stores;
      places = block-other 3 S W sh 1 (λ e. omega (arith, e)) ∙ t.places;
      costs = block-other 3 S W sh 2 (λ e. omega (arith, e)) ∙ t.costs;
      long = ap length same ∙ l;
      state = ap state_in same ∙ e;
    }

module _ (u : Watch) (W : Words) (t : Ties u W) (w : ℕ) where
  abbrev S : List ℕ
  S = state_block W

  abbrev F : List ℕ
  F = layout_block W

  -- ---- the same answers

  judges : judge_in W ≡ judge u
  judges =
      ap₂ (λ (a : List (List ℕ)) (y : Layout). (λ (s : Moving) (x : ℕ). verdict_by (answer_at (given a s.values (x ∷ s.last ∷ [])) y s.marks (counted_in F) s.windows))) t.tables t.layout
      ∙ ap (λ (c : List ℕ). (λ (s : Moving) (x : ℕ). verdict_by (answer_at (given (tables_of u) s.values (x ∷ s.last ∷ [])) (layout_of u) s.marks c s.windows))) t.counted

  pub reply-tied : reply_in W w ≡ reply_of u w
  unfolding reply_in reply_of
  reply-tied =
      ap₂ (λ (j : Moving → ℕ → Verdict) (n : ℕ). reply j n (state_in S) w) judges t.wires ∙ ap (λ (s : State Moving). reply (judge u) u.wires s w) t.state

  pub touched-tied : touched_in W ≡ touched_on u
  unfolding touched_in touched_on
  touched-tied =
      ap (λ (y : Layout). min (touched_of (counts_by (get_or (tables_in W) 0 []) (places_block W) (costs_block W) y.places) y.own (marks_in S) y.monitors y.letters) 65535) t.layout
      ∙ ap₂ (λ (a : List (List ℕ)) (s : State Moving). min (touched_of (counts_by (get_or a 0 []) (places_block W) (costs_block W) u.places) u.own s.inner.marks u.monitors u.letters) 65535) t.tables t.state
      ∙ ap₂ (λ (p c : List ℕ). min (touched_of (counts_by u.table p c u.places) u.own u.marks u.monitors u.letters) 65535) t.places t.costs

  -- ---- what a take leaves

  -- a good tick leaves what the watch moves on to
  ticks-same : tick_in W (state_in S).inner w ≡ tick_from u (state_of u).inner w
  ticks-same =
      ap (λ (s : State Moving). tick_in W s.inner w) t.state
      ∙ ap₂ (λ (a : List (List ℕ)) (y : Layout). tick_of (given a u.values (w ∷ u.before ∷ [])) y u.marks (counted_in F) u.windows) t.tables t.layout
      ∙ ap (λ (c : List ℕ). tick_of (given (tables_of u) u.values (w ∷ u.before ∷ [])) (layout_of u) u.marks c u.windows) t.counted

  abbrev next : Moving
  next = onward u (state_of u).inner w

  good-answer : reply_of u w ≡ ok → is_bad (answer_from u (state_of u).inner w) ≡ false
  unfolding reply_of reply
  good-answer e = by u.stopped (is_full u.ticks) (is_stray u.wires w) (is_bad (answer_from u (state_of u).inner w)) e
    where
      by : (a b c d : Bool) → cond a (refused 16 0) (cond b (refused 17 0) (cond c (refused 15 0) (verdict_reply (cond d (broken (answer_from u (state_of u).inner w)) clean)))) ≡ ok → d ≡ false
      by a b c false p = refl
      by true b c true p = clash (cc p)
      by false true c true p = clash (cc p)
      by false false true true p = clash (cc p)
      by false false false true p = clash (cc p)

  good-tick : reply_of u w ≡ ok → tick_in W (state_in S).inner w ≡ stepped (answer_from u (state_of u).inner w) next.marks next.values next.windows
  good-tick e = ticks-same ∙ left (is_bad (answer_from u (state_of u).inner w)) _ _ (good-answer e)

  -- by a state that has its sizes
  module _ (z : Sized u next) where
    abbrev after : List ℕ
    after = moved w (min u.letters 256) next.marks next.values next.windows S

    abbrev T : List ℕ
    T = ticked w S

    long_after : length T ≡ 1024
    long_after = ticked-long S w t.long

    read_same : unlimited next.windows ≡ true → windows_in T ≡ next.windows
    read_same e = ticked-windows S w t.long ∙ ap (λ (s : State Moving). s.inner.windows) t.state ∙ z.same e

    few : min u.letters 256 ≤ 256
    few = omega arith

    after-long : length after ≡ 1024
    after-long = placed-long (min u.letters 256) next.marks next.values next.windows T long_after few z.bits z.marks_all z.values_all z.narrow z.windows_all read_same

    after-state : state_in after ≡ record { inner = next; oks = suc u.ticks; stopped = u.stopped }
    after-state =
        let front = placed-front (min u.letters 256) next.marks next.values next.windows T long_after few z.bits z.marks_all z.values_all z.narrow z.windows_all read_same in
        state-by after (record { inner = next; oks = suc u.ticks; stopped = u.stopped })
        (placed-marks (min u.letters 256) next.marks next.values next.windows T long_after few z.bits z.marks_all z.values_all z.narrow z.windows_all read_same)
        (placed-values (min u.letters 256) next.marks next.values next.windows T long_after few z.bits z.marks_all z.values_all z.narrow z.windows_all read_same)
        (front 2 (omega arith) ∙ ticked-before S w t.long)
        (placed-totals (min u.letters 256) next.marks next.values next.windows T long_after few z.bits z.marks_all z.values_all z.narrow z.windows_all read_same
        ∙ ap (count_met next.marks (min u.letters 256)) (ticked-totals S w t.long ∙ ap (λ (s : State Moving). s.inner.totals) t.state))
        (placed-windows (min u.letters 256) next.marks next.values next.windows T long_after few z.bits z.marks_all z.values_all z.narrow z.windows_all read_same)
        (front 0 (omega arith) ∙ ticked-ticks S w t.long ∙ ap (λ (s : State Moving). suc s.oks) t.state)
        (ap (λ (n : ℕ). not (eqb n 0)) (front 1 (omega arith) ∙ ticked-stopped S w t.long) ∙ ap (λ (s : State Moving). s.stopped) t.state)

  halted-state : state_in (halted S) ≡ record { inner = (state_of u).inner; oks = u.ticks; stopped = true }
  halted-state =
      let l = t.long in
      state-by (halted S) (record { inner = (state_of u).inner; oks = u.ticks; stopped = true })
      (halted-marks S l ∙ ap (λ (s : State Moving). s.inner.marks) t.state)
      (halted-values S l ∙ ap (λ (s : State Moving). s.inner.values) t.state)
      (halted-before S l ∙ ap (λ (s : State Moving). s.inner.last) t.state)
      (halted-totals S l ∙ ap (λ (s : State Moving). s.inner.totals) t.state)
      (halted-windows S l ∙ ap (λ (s : State Moving). s.inner.windows) t.state)
      (halted-ticks S l ∙ ap (λ (s : State Moving). s.oks) t.state)
      (ap (λ (n : ℕ). not (eqb n 0)) (halted-stopped S l))

  module _ (z : reply_of u w ≡ ok → Sized u next) where
    left_tied : (r : Reply) → reply_of u w ≡ r → Ties (watch.with_state u (calls.after (onward u) (state_of u) w r)) (left_by W w r)
    left_tied ok e =
        let letters : letters_in W ≡ u.letters = ap (λ (y : Layout). y.letters) t.layout in
        let block : onward_in W w ≡ after (z e) = ap₂ (λ (n : ℕ) (k : Stepped). moved w (min n 256) k.marks k.values k.windows S) letters (good-tick e) in
        with-state u W t (onward_in W w) (record { inner = next; oks = suc u.ticks; stopped = u.stopped }) (ap length block ∙ after-long (z e)) (ap state_in block ∙ after-state (z e))
    left_tied (bad m) e = with-state u W t (halted S) (record { inner = (state_of u).inner; oks = u.ticks; stopped = true }) (halted-long S t.long) halted-state
    left_tied (refused n p) e = t

    pub after_tied : Ties (watch_after u w) (words_after W w)
    unfolding words_after watch_after
    after_tied = subst (λ (r : Reply). Ties (watch.with_state u (calls.after (onward u) (state_of u) w (reply_of u w))) (left_by W w r)) (sym reply-tied) (left_tied (reply_of u w) refl)

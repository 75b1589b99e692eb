-- How many bytes a sheet and its lines can have. Assumes nothing.
use mathlib.Core.Path.{◌≡◌, refl}
use mathlib.Core.Bool.{Bool, true, false, cond}
use mathlib.Core.List.{List, [], ◌∷◌, ◌++◌, map}
use Prim.Native.Nat.{ℕ, zero, suc, ◌+◌, ◌-◌, ◌*◌, ◌^◌, ◌≤◌, ◌<◌, min}
use native.Mathlib.Omega.{arith}
use lib.Dec.{ltb}
use lib.ListN.{length, drop, length-append, length-drop}
use borrow.Author.Tests.{leb-false}
use Rattle.lexer.specs.Bytes.{bytes}
use Rattle.trace.specs.Answer as trace
use Rattle.trace.specs.Record as wire
use Rattle.trace.specs.Record.{Item, word, end, merged, idle, read_record}
use Rattle.trace.proofs.Traces.{word-length}
use Rattle.meaning.specs.Lists.{total, count, member}
use Rattle.meaning.specs.Expression.{Letter, Exp, letters, size}
use Rattle.meaning.specs.Answers.{Answer, value, refused}
use Rattle.meaning.specs.Opening.{Opened, counts, counts_of, open_text}
use Rattle.meaning.specs.Names.{Limit}
use Rattle.meaning.specs.Fit.{Verdict, Tick, History, start, tick, verdict, onward, fits}
use Rattle.meaning.specs.Limits.{keeps, limits_verdict, or_else, judged}
use Rattle.meaning.specs.Fit as fit
use Rattle.meaning.specs.Calls as calls
use Rattle.meaning.specs.Calls.{Reply, ok, bad, State, opening, reply, after, is_full, is_stray, most_ticks}
use Rattle.meaning.specs.Sheet.{decimal, hexadecimal, line, refusal_line, place_numbers, counts_line, first_line, clean_line, met_line, met_lines, all_met_lines, total_line, foot, tick_lines, sheet}
use Rattle.meaning.specs.Totals.{met_from, totals, sum}
use Rattle.meaning.proofs.Totals.{times-few}
use Rattle.rules.specs.Watches.{watch_of}
use Rattle.rules.proofs.Limited.{limits-few}
use Rattle.rules.proofs.Placing.{letters-long}
use Rattle.monitor.proofs.Program.{Counted, text-counted}
use Rattle.sheet.specs.Lines.{ok_line, bad_line}
use Rattle.sheet.proofs.PageSteps.{decimal-within, decimal-short, hexadecimal-long}

-- ---- lines

-- each field and what closes it
pub line-long : (f : List ℕ) (fs : List (List ℕ)) → length (line (f ∷ fs)) ≡ total (λ (g : List ℕ). length g + 1) (f ∷ fs)
unfolding line
line-long f [] = omega (arith, length-append f (10 ∷ []))
line-long f (g ∷ fs) = omega (arith, length-append f (32 ∷ line (g ∷ fs)), line-long g fs)

module _ (t w : ℕ) (h : t < 10 ^ 20) where
  pub ok-short : length (ok_line t w) ≤ 64
  ok-short = omega (arith, line-long (decimal t) (hexadecimal 16 w ∷ bytes "ok" ∷ []), decimal-short t h, hexadecimal-long 16 w)

  pub bad-short : (m : ℕ) → m < 10 ^ 20 → length (bad_line t w m) ≤ 64
  bad-short m l = omega (arith, line-long (decimal t) (hexadecimal 16 w ∷ bytes "bad" ∷ decimal m ∷ []), decimal-short t h, decimal-short m l, hexadecimal-long 16 w)

pub clean-short : (t : ℕ) → t < 10 ^ 20 → length (clean_line t) ≤ 64
unfolding clean_line
clean-short t h = omega (arith, line-long (bytes "clean") (decimal t ∷ []), decimal-short t h)

-- a refusal at a tick
pub refused-short : (number t : ℕ) → number < 10 ^ 20 → t < 10 ^ 20 → length (refusal_line number (t ∷ [])) ≤ 64
unfolding refusal_line
refused-short number t h l = omega (arith, line-long (bytes "refused") (decimal number ∷ decimal t ∷ []), decimal-short number h, decimal-short t l)

pub met-short : (i j c : ℕ) → i < 32 → j < 256 → c < 4294967296 → length (met_line i j c) ≤ 24
unfolding met_line
met-short i j c h g l = omega (
  arith,
  line-long (bytes "met") (decimal i ∷ decimal j ∷ decimal c ∷ []),
  decimal-within 1 i (omega (arith, h)),
  decimal-within 2 j (omega (arith, g)),
  decimal-within 9 c (omega (arith, l)),
)

pub total-short : (n : ℕ) → n < 10 ^ 20 → length (total_line n) ≤ 64
unfolding total_line
total-short n h = omega (arith, line-long (bytes "total") (decimal n ∷ []), decimal-short n h)

-- ---- the foot

module _ (ts : List Tick) (few : length ts ≤ most_ticks) where
  module _ (m : Exp) where
    abbrev times : Letter → ℕ
    times l = count (member l.number) (met_from m [] ts)

    -- those of some letters of monitor i, from letter j on
    letters-short : (i j : ℕ) (ls : List Letter) → i < 32 → j + length ls ≤ 256 → length (met_lines i j (map times ls)) ≤ 24 * length ls
    unfolding met_lines
    letters-short i j [] h g = omega arith
    letters-short i j (l ∷ ls) h g = omega (
      arith,
      length-append (met_line i j (times l)) (met_lines i (suc j) (map times ls)),
      met-short i j (times l) h (omega (arith, g)) (omega (arith, times-few m l.number ts, few)),
      letters-short i (suc j) ls h (omega (arith, g)),
    )

    letters-few : (ls : List Letter) → total (λ (n : ℕ). n) (map times ls) ≤ most_ticks * length ls
    letters-few [] = omega arith
    letters-few (l ∷ ls) = omega (arith, times-few m l.number ts, few, letters-few ls)

  monitors-short : (i : ℕ) (ms : List Exp) → i + length ms ≤ 32 → total size ms ≤ 256 → length (all_met_lines i (totals ms ts)) ≤ 24 * total size ms
  unfolding all_met_lines
  monitors-short i [] h g = omega arith
  monitors-short i (m ∷ ms) h g =
      let n = letters-long m in
      omega (
        arith,
        n,
        length-append (met_lines i 0 (map (times m) (letters m))) (all_met_lines (suc i) (totals ms ts)),
        letters-short m i 0 (letters m) (omega (arith, h)) (omega (arith, g, n)),
        monitors-short (suc i) ms (omega (arith, h)) (omega (arith, g)),
      )

  -- the sum has few digits too
  monitors-few : (ms : List Exp) → sum (totals ms ts) ≤ most_ticks * total size ms
  monitors-few [] = omega arith
  monitors-few (m ∷ ms) = omega (arith, letters-long m, letters-few m (letters m), monitors-few ms)

  foot-short : (ms : List Exp) → length ms ≤ 32 → total size ms ≤ 256 → length (foot (totals ms ts)) ≤ 24 * total size ms + 64
  unfolding foot
  foot-short ms h g = omega (
    arith,
    length-append (all_met_lines 0 (totals ms ts)) (total_line (sum (totals ms ts))),
    monitors-short 0 ms (omega (arith, h)) g,
    total-short (sum (totals ms ts)) (omega (arith, g, monitors-few ms)),
  )

-- ---- what is printed is small

of-cond : {A : Type 0} (P : A → Type 0) (b : Bool) (x y : A) → (b ≡ true → P x) → (b ≡ false → P y) → P (cond b x y)
of-cond P true x y p q = p refl
of-cond P false x y p q = q refl

-- the number that a bad tick is answered with: monitors and limits have one below 40
abbrev Blames : Verdict → Type 0
Blames fit.ok = Unit {0}
Blames (fit.bad m) = m < 40

blames : (i : ℕ) (ms : List Exp) (ts : List Tick) → i + length ms ≤ 32 → Blames (verdict i ms ts)
unfolding verdict
blames i [] ts h = tt
blames i (m ∷ ms) ts h =
    let next = blames (suc i) ms ts (omega (arith, h)) in
    of-cond Blames (fits m ts) (verdict (suc i) ms ts) (fit.bad i) (λ e. next) (λ e. omega (arith, h))

limits-blame : (i : ℕ) (ls : List Limit) (ms : List Exp) (ts : List Tick) → i + length ls ≤ 8 → Blames (limits_verdict i ls ms ts)
unfolding limits_verdict
limits-blame i [] ms ts h = tt
limits-blame i (l ∷ ls) ms ts h =
    let next = limits-blame (suc i) ls ms ts (omega (arith, h)) in
    of-cond Blames (keeps l ms ts) (limits_verdict (suc i) ls ms ts) (fit.bad (32 + i)) (λ e. next) (λ e. omega (arith, h))

else-blames : (u v : Verdict) → Blames u → Blames v → Blames (or_else u v)
else-blames fit.ok v a b = b
else-blames (fit.bad m) v a b = a

abbrev Small : (oks : ℕ) → Reply → Type 0
Small oks ok = oks < most_ticks
Small oks (bad m) = m < 40
Small oks (calls.refused k p) = k < 18

reply-small : (ls : List Limit) (ms : List Exp) (wires : ℕ) → length ls ≤ 8 → length ms ≤ 32 → (s : State History) (w : ℕ) → Small s.oks (reply (judged ls ms) wires s w)
unfolding reply
reply-small ls ms wires few_limits few_monitors s w =
    let P : Reply → Type 0 = Small s.oks in
    of-cond P s.stopped _ _ (λ e. omega arith) (λ e.
    of-cond P (is_full s.oks) _ _ (λ f. omega arith) (λ f.
    of-cond P (is_stray wires w) _ _ (λ g. omega arith) (λ g.
    by (judged ls ms s.inner w)
    (else-blames (verdict 0 ms _) (limits_verdict 0 ls ms _) (blames 0 ms _ (omega (arith, few_monitors))) (limits-blame 0 ls ms _ (omega (arith, few_limits)))) (leb-false most_ticks s.oks f))))
  where
    by : (v : Verdict) → Blames v → s.oks < most_ticks → Small s.oks (calls.reply_of v)
    by fit.ok b l = l
    by (fit.bad m) b l = b

-- so is the number of a record refused
abbrev Turned : trace.Answer Item → Type 0
Turned (trace.value x) = Unit {0}
Turned (trace.refused number place) = number < 15

turned : (rest : List ℕ) (before : ℕ) → Turned (read_record rest before)
unfolding read_record
turned [] before = tt
turned (map ∷ given) before = by (ltb (length given) (wire.count 8 map)) (idle 8 before map given) (word (merged before map given) (1 + wire.count 8 map))
  where
    by : (cut idles : Bool) (x : Item) → Turned (wire.judged cut idles x)
    by true b x = omega arith
    by false true x = omega arith
    by false false x = tt

-- ---- the lines of the ticks

module _ (o : Opened) (c : Counted o) (few_limits : length o.limits ≤ 8) where
  abbrev foot_at : State History → List ℕ
  foot_at s = foot (totals o.monitors s.inner.ticks)

  at-foot : (s : State History) → s.oks ≤ most_ticks → length s.inner.ticks ≡ s.oks → length (foot_at s) ≤ 24 * o.letter_count + 64
  at-foot s h l =
      let x = foot-short s.inner.ticks (omega (arith, h, l)) o.monitors c.few_monitors (omega (arith, c.letters_are, c.few_letters)) in
      omega (arith, x, c.letters_are)

  -- n ticks more at most, a last line and the foot
  abbrev Within : List ℕ → (n : ℕ) → Type 0
  Within lines n = length lines ≤ 64 * (n + 1) + (24 * o.letter_count + 64)

  abbrev Short : ℕ → Type 0
  Short k = (s : State History) (rest : List ℕ) (before : ℕ) → s.oks ≤ most_ticks → length s.inner.ticks ≡ s.oks
      → Within (tick_lines k o s s.oks rest before) (min (length rest) (most_ticks - s.oks))

  clean-foot : (s : State History) (n : ℕ) → s.oks ≤ most_ticks → length s.inner.ticks ≡ s.oks → Within (clean_line s.oks ++ foot_at s) n
  clean-foot s n h l = omega (arith, length-append (clean_line s.oks) (foot_at s), clean-short s.oks (omega (arith, h)), at-foot s h l)

  module _ (k : ℕ) (next : Short k) (s : State History) (rest : List ℕ) (before : ℕ) (h : s.oks ≤ most_ticks) (l : length s.inner.ticks ≡ s.oks) where
    abbrev Here : Type 0
    Here = Within (tick_lines (suc k) o s s.oks rest before) (min (length rest) (most_ticks - s.oks))

    on-reply : (w n : ℕ) → read_record rest before ≡ trace.value (word w n) → (r : Reply) → reply (judged o.limits o.monitors) o.wires s w ≡ r → Small s.oks r
        → Here
    unfolding tick_lines onward
    on-reply w n e ok f small =
        let p = word-length rest before w n e in
        let x = next (after (onward o.monitors) s w ok) (drop n rest) w small (omega (arith, l, length-append s.inner.ticks (tick s.inner w ∷ []))) in
        rw (e, f) (omega (
          arith,
          length-append (ok_line s.oks w) (tick_lines k o (after (onward o.monitors) s w ok) (suc s.oks) (drop n rest) w),
          ok-short s.oks w (omega (arith, h)),
          x,
          length-drop n rest,
          p.0,
          p.1,
        ))
    on-reply w n e (bad m) f small = rw (e, f) (omega (
      arith,
      length-append (bad_line s.oks w m) (foot_at s),
      bad-short s.oks w (omega (arith, h)) m (omega (arith, small)),
      at-foot s h l,
    ))
    on-reply w n e (calls.refused m p) f small = rw (e, f) (omega (arith, refused-short m s.oks (omega (arith, small)) (omega (arith, h))))

    on_read : (r : trace.Answer Item) → read_record rest before ≡ r → Turned r → Here
    unfolding tick_lines
    on_read (trace.value (word w n)) e small = on-reply w n e (reply (judged o.limits o.monitors) o.wires s w) refl (reply-small o.limits o.monitors o.wires few_limits c.few_monitors s w)
    on_read (trace.value end) e small = rw e (clean-foot s (min (length rest) (most_ticks - s.oks)) h l)
    on_read (trace.refused number place) e small = rw e (omega (arith, refused-short number s.oks (omega (arith, small)) (omega (arith, h))))

  ticks-short : (k : ℕ) → Short k
  unfolding tick_lines
  ticks-short zero s rest before h l = clean-foot s (min (length rest) (most_ticks - s.oks)) h l
  ticks-short (suc k) s rest before h l = on_read k (ticks-short k) s rest before h l (read_record rest before) refl (turned rest before)

-- ---- the sheet

-- where the first line is short, as it is if the numbers of a refused text's place are 64-bit words
pub sheet-short : (text records : List ℕ) → length (first_line (counts_of (open_text text))) ≤ 128
    → length (sheet text records) ≤ 256 + 24 * min (watch_of (open_text text)).letters 256 + 64 * min (length records) most_ticks
unfolding sheet counts_of watch_of
sheet-short text records first = by (open_text text) refl first
  where
    by : (a : Answer Opened) → open_text text ≡ a → length (first_line (counts_of a)) ≤ 128
        → length (sheet text records) ≤ 256 + 24 * min (watch_of (open_text text)).letters 256 + 64 * min (length records) most_ticks
    by (value o) e h =
        let c = text-counted text o e in
        rw e (omega (
          arith,
          h,
          length-append (counts_line (counts o)) (tick_lines (length records) o (opening (start o.initial)) 0 records 0),
          ticks-short o c (limits-few text o e) (length records) (opening (start o.initial)) records 0 (omega arith) refl,
          c.few_letters,
        ))
    by (refused number place) e h = rw e (omega (arith, h, length-append (refusal_line number (place_numbers place)) []))

-- Through a range that C lends: after opening a text in it, every list of calls is answered, as numbers that are taken apart again, as on the watch; and what the entries then tell is what the watch holds. Assumes nothing.
use mathlib.Core.Path.{◌≡◌, refl, sym, ap, ap₂, ◌∙◌, subst}
use mathlib.Core.Bool.{Bool, true, false, cond}
use mathlib.Core.List.{List, [], ◌∷◌, map}
use Prim.Native.Nat.{ℕ, zero, suc, ◌+◌, ◌-◌, ◌<◌, ◌≤◌, min}
use native.Mathlib.Omega.{arith}
use native.Mathlib.Decide.{dec_lt}
use borrow.Author.Tests.{ne_eqb, lt-ltb, le-ltb, ltb-true}
use lib.Dec.{eqb, ltb}
use lib.ListN.{length, length-set, length-replicate, get_or, set, replicate, drop, get_or-eq_default, length-map}
use lib.Seq.{sets, get_or-set_same, get_or-set_other, get_or-take, get_or-drop}
use Rattle.lexer.proofs.Bools.{taken, left}
use Rattle.words.specs.Words.{quad, part1, part2}
use Rattle.words.proofs.Quads.{quad-0, quad-1, quad-2}
use Rattle.meaning.specs.Answers.{value}
use Rattle.meaning.specs.Fit.{bad as broken, ok as clean}
use Rattle.meaning.specs.Totals.{totals}
use Rattle.meaning.specs.Calls.{Call, look, take, State, Reply, ok, bad, refused, is_full, is_stray, reply, reply_of as verdict_reply, touched_by, Answer, looked, took, standing, AllAnswered}
use Rattle.meaning.specs.Opening.{Opened, open_text}
use Rattle.rules.specs.declared.Watch.{Watch}
use Rattle.rules.specs.Watches.{watch_of}
use Rattle.monitor.specs.Ticks.{Layout, within, letters_end}
use Rattle.monitor.specs.Limited.{is_bad}
use Rattle.monitor.specs.Calls.{Moving, state_of, layout_of, answer_from, reply_of, touched_on, watch_after_call, watch_after_all, answer_of, answers_of, stretch, totals_from, totals_of}
use Rattle.monitor.proofs.Padded.{padded-get}
use Rattle.monitor.proofs.Calls.{stores-long, watch-held, totals-right}
use Rattle.monitor.proofs.Readable.{accepted-initial}
use Rattle.monitor.proofs.TouchedRows.{all-answered, answers-long}
use Rattle.live.specs.State.{values_from}
use Rattle.live.specs.Calls.{Words, state_block, stores_in, opened_in, filled, answers_in, answer_in, words_after_call, words_after_all, store_in, met_in, ticks_in}
use Rattle.live.specs.Codes.{code_of, answer_code, reply_told, answer_told, all_told}
use Rattle.live.specs.Ranges.{first, of_first, range_opened, codes_of, range_after_all, Lent, store_at, met_at, ticks_at}
use Rattle.live.proofs.Tied.{Shaped, Ties}
use Rattle.live.proofs.Reached.{answers-same, all-tied}

-- ---- an answer as a number, taken apart again

-- numbers that fit their 16 bits
abbrev Small : Reply → Type 0
Small ok = Unit {0}
Small (bad m) = m < 65536
Small (refused n p) = (n < 65536) × (p ≡ 0)

reply-there : (r : Reply) (n : ℕ) → Small r → reply_told (code_of r n) ≡ r
reply-there ok n s = ap (λ (k : ℕ). cond (eqb k 0) ok (cond (eqb k 1) (bad (part1 (quad 0 0 n 0))) (refused (part1 (quad 0 0 n 0)) 0))) (quad-0 0 0 n 0 (omega arith))
reply-there (bad m) n s =
    ap (λ (k : ℕ). cond (eqb k 0) ok (cond (eqb k 1) (bad (part1 (quad 1 m n 0))) (refused (part1 (quad 1 m n 0)) 0))) (quad-0 1 m n 0 (omega arith)) ∙ ap bad (quad-1 1 m n 0 s)
reply-there (refused k p) n s =
    ap (λ (i : ℕ). cond (eqb i 0) ok (cond (eqb i 1) (bad (part1 (quad 2 k n 0))) (refused (part1 (quad 2 k n 0)) 0))) (quad-0 2 k n 0 (omega arith))
    ∙ ap₂ refused (quad-1 2 k n 0 s.0) (sym s.1)

rows-there : (r : Reply) (n : ℕ) → n < 65536 → part2 (code_of r n) ≡ n
rows-there ok n h = quad-2 0 0 n 0 h
rows-there (bad m) n h = quad-2 1 m n 0 h
rows-there (refused k p) n h = quad-2 2 k n 0 h

reply-small : (u : Watch) (w : ℕ) → Small (reply_of u w)
unfolding reply_of reply
reply-small u w = by u.stopped (is_full u.ticks) (is_stray u.wires w) (is_bad (answer_from u (state_of u).inner w)) refl
  where
    by : (a b c d : Bool) → is_bad (answer_from u (state_of u).inner w) ≡ d
        → Small (cond a (refused 16 0) (cond b (refused 17 0) (cond c (refused 15 0) (verdict_reply (cond d (broken (answer_from u (state_of u).inner w)) clean)))))
    by true b c d e = (omega arith, refl)
    by false true c d e = (omega arith, refl)
    by false false true d e = (omega arith, refl)
    by false false false true e = let l = ltb-true (answer_from u (state_of u).inner w) 40 e in omega (arith, l)
    by false false false false e = tt

few-touched : (u : Watch) (r : Reply) → touched_by r (touched_on u) < 65536
unfolding touched_on
few-touched u ok = omega arith
few-touched u (bad m) = omega arith
few-touched u (refused n p) = omega arith

answer-there : (u : Watch) (c : Call) → answer_told c (answer_code (answer_of u c)) ≡ answer_of u c
answer-there u (look w) = ap looked (reply-there (reply_of u w) 0 (reply-small u w))
answer-there u (take w) =
    ap₂ took (reply-there (reply_of u w) (touched_by (reply_of u w) (touched_on u)) (reply-small u w)) (rows-there (reply_of u w) (touched_by (reply_of u w) (touched_on u)) (few-touched u (reply_of u w)))

all_there : (u : Watch) (cs : List Call) → all_told cs (map answer_code (answers_of u cs)) ≡ answers_of u cs
unfolding all_told answers_of
all_there u [] = refl
all_there u (c ∷ cs) = ap₂ (λ (x : Answer) (xs : List Answer). x ∷ xs) (answer-there u c) (all_there (watch_after_call u c) cs)

-- ---- a range

module _ (R : List Words) (some : length R ≡ 0 → ⊥) where
  by_first : {A : Type 0} (short a : A) → of_first R short a ≡ a
  by_first short a = left (eqb (length R) 0) short a (ne_eqb (length R) 0 some)

  pub first-set : (W : Words) → first (set R 0 W) ≡ W
  first-set W = get_or-set_same R 0 W [] (positive (length R) some)
    where
      positive : (n : ℕ) → (n ≡ 0 → ⊥) → 0 < n
      positive zero h = absurd (h refl)
      positive (suc n) h = omega arith

  some-set : (W : Words) → length (set R 0 W) ≡ 0 → ⊥
  some-set W e = some (sym (length-set R 0 W) ∙ e)

codes-by : (cs : List Call) (R : List Words) → (length R ≡ 0 → ⊥) → codes_of R cs ≡ map answer_code (answers_in (first R) cs)
unfolding codes_of answers_in
codes-by [] R some = refl
codes-by (c ∷ cs) R some =
    let a = by_first R some R (set R 0 (words_after_call (first R) c)) in
    ap₂ (λ (x : ℕ) (xs : List ℕ). x ∷ xs) (by_first R some _ (answer_code (answer_in (first R) c)))
    (ap (λ (Q : List Words). codes_of Q cs) a ∙ codes-by cs (set R 0 (words_after_call (first R) c)) (some-set R some (words_after_call (first R) c))
    ∙ ap (λ (W : Words). map answer_code (answers_in W cs)) (first-set R some (words_after_call (first R) c)))

-- and the range stays one, with the words that the calls leave in front
ranges-by : (cs : List Call) (R : List Words) → (length R ≡ 0 → ⊥) → (first (range_after_all R cs) ≡ words_after_all (first R) cs) × (length (range_after_all R cs) ≡ 0 → ⊥)
unfolding range_after_all words_after_all
ranges-by [] R some = (refl, some)
ranges-by (c ∷ cs) R some =
    let W = words_after_call (first R) c in
    let a = by_first R some R (set R 0 W) in
    let (p, q) = ranges-by cs (set R 0 W) (some-set R some W) in (
      ap (λ (Q : List Words). first (range_after_all Q cs)) a ∙ p ∙ ap (λ (X : Words). words_after_all X cs) (first-set R some W),
      λ e. q (sym (ap (λ (Q : List Words). length (range_after_all Q cs)) a) ∙ e),
    )

-- ---- what the entries tell of a watch

values-size : (S : List ℕ) (n : ℕ) → length (values_from S n) ≡ 16
unfolding values_from
values-size S zero = length-replicate {A = ℕ} 16 0
values-size S (suc n) = length-set (values_from S n) n (get_or S (16 + n) 0) ∙ values-size S n

same-order : (k n : ℕ) → ltb k n ≡ ltb (suc k) (suc n)
same-order k n = elim (dec_lt k n) [
  | yes l ↦ lt-ltb k n l ∙ sym (lt-ltb (suc k) (suc n) (omega (arith, l)))
  | no l ↦ le-ltb k n (omega (arith, l)) ∙ sym (le-ltb (suc k) (suc n) (omega (arith, l)))
]

value-at : (S : List ℕ) (n k : ℕ) → k < n → n ≤ 16 → get_or (values_from S n) k 0 ≡ get_or S (16 + k) 0
unfolding values_from
value-at S zero k h l = absurd (omega arith)
value-at S (suc n) k h l = elim (dec_lt k n) [
  | yes q ↦ get_or-set_other (values_from S n) n k (get_or S (16 + n) 0) 0 (λ e. omega (arith, e, q)) ∙ value-at S n k q (omega (arith, l))
  | no q ↦
      let e : k ≡ n = omega (arith, h) in
      let m = values-size S n in
      ap (λ (i : ℕ). get_or (set (values_from S n) n (get_or S (16 + n) 0)) i 0) e ∙ get_or-set_same (values_from S n) n (get_or S (16 + n) 0) 0 (omega (arith, m, l)) ∙ ap (λ (i : ℕ). get_or S (16 + i) 0) (sym e)
]

stretch-at : (N : List ℕ) (n f l : ℕ) → get_or (stretch N n f) l 0 ≡ cond (ltb l n) (get_or N (f + l) 0) 0
unfolding stretch
stretch-at N zero f l = sym (left (ltb l 0) (get_or N (f + l) 0) 0 (le-ltb l 0 (omega arith)))
stretch-at N (suc n) f zero = let e : f ≡ f + 0 = omega arith in ap (λ (i : ℕ). get_or N i 0) e ∙ sym (taken (ltb 0 (suc n)) (get_or N (f + 0) 0) 0 (lt-ltb 0 (suc n) (omega arith)))
stretch-at N (suc n) f (suc l) =
    let e : suc f + l ≡ f + suc l = omega arith in
    stretch-at N n (suc f) l ∙ ap₂ (λ (b : Bool) (i : ℕ). cond b (get_or N i 0) 0) (same-order l n) e

totals-at : (F N : List ℕ) (m l n i k : ℕ) → get_or (totals_from F N m l n i) k [] ≡ cond (ltb k n) (stretch N (letters_end F m l (i + k) - get_or F (i + k) 0) (get_or F (i + k) 0)) []
unfolding totals_from
totals-at F N m l zero i k = sym (left (ltb k 0) (stretch N (letters_end F m l (i + k) - get_or F (i + k) 0) (get_or F (i + k) 0)) [] (le-ltb k 0 (omega arith)))
totals-at F N m l (suc n) i zero =
    let e : i ≡ i + 0 = omega arith in
    ap (λ (j : ℕ). stretch N (letters_end F m l j - get_or F j 0) (get_or F j 0)) e
    ∙ sym (taken (ltb 0 (suc n)) (stretch N (letters_end F m l (i + 0) - get_or F (i + 0) 0) (get_or F (i + 0) 0)) [] (lt-ltb 0 (suc n) (omega arith)))
totals-at F N m l (suc n) i (suc k) =
    let e : suc i + k ≡ i + suc k = omega arith in
    totals-at F N m l n (suc i) k ∙ ap₂ (λ (b : Bool) (j : ℕ). cond b (stretch N (letters_end F m l j - get_or F j 0) (get_or F j 0)) []) (same-order k n) e

-- a letter's number among those that are parted by monitor
met_at_lem : (F N : List ℕ) (m l n i k : ℕ) → get_or (get_or (totals_from F N m l n 0) i []) k 0
    ≡ cond (ltb i n) (cond (ltb k (letters_end F m l i - get_or F i 0)) (get_or N (get_or F i 0 + k) 0) 0) 0
met_at_lem F N m l n i k =
    let e : 0 + i ≡ i = omega arith in
    ap (λ (xs : List ℕ). get_or xs k 0) (totals-at F N m l n 0 i)
    ∙ ap (λ (j : ℕ). get_or (cond (ltb i n) (stretch N (letters_end F m l j - get_or F j 0) (get_or F j 0)) []) k 0) e
    ∙ by (ltb i n)
  where
    by : (b : Bool) → get_or (cond b (stretch N (letters_end F m l i - get_or F i 0) (get_or F i 0)) []) k 0 ≡ cond b (cond (ltb k (letters_end F m l i - get_or F i 0)) (get_or N (get_or F i 0 + k) 0) 0) 0
    by true = stretch-at N (letters_end F m l i - get_or F i 0) (get_or F i 0) k
    by false = refl

end_low : (F : List ℕ) (m l i : ℕ) → l ≤ 256 → letters_end F m l i ≤ 256
end_low F m l i h = by (ltb (suc i) m)
  where
    by : (b : Bool) → cond b (min (get_or F (suc i) 0) 256) l ≤ 256
    by true = omega arith
    by false = h

module _ (u : Watch) (W : Words) (t : Ties u W) where
  abbrev S : List ℕ
  S = state_block W

  total-at : (p : ℕ) → p < 256 → get_or S (320 + p) 0 ≡ get_or u.totals p 0
  total-at p h = sym (get_or-drop 320 S p 0) ∙ sym (get_or-take 256 (drop 320 S) p 0 h) ∙ ap (λ (s : State Moving). get_or s.inner.totals p 0) t.state

  -- the number that an entry tells is that of the watch
  tied-met : (i k : ℕ) → met_in W i k ≡ get_or (get_or (totals_of u) i []) k 0
  tied-met i k =
      let y = within (layout_of u) in
      let from = get_or y.firsts i 0 in
      let to = letters_end y.firsts y.monitors y.letters i in
      let low = end_low y.firsts y.monitors y.letters i (omega arith) in
      ap (λ (z : Layout). placed-met (letters_place (within z) i k)) t.layout
      ∙ by (ltb i y.monitors) from to low
      ∙ sym (met_at_lem u.firsts u.totals (min u.monitors 32) (min u.letters 256) (min u.monitors 32) i k)
    where
      letters_place : Layout → (i l : ℕ) → ℕ
      letters_place y i l = cond (ltb i y.monitors) (cond (ltb l (letters_end y.firsts y.monitors y.letters i - get_or y.firsts i 0)) (get_or y.firsts i 0 + l) 256) 256

      placed-met : ℕ → ℕ
      placed-met p = cond (ltb p 256) (get_or S (320 + p) 0) 0

      by : (b : Bool) (from to : ℕ) → to ≤ 256 → placed-met (cond b (cond (ltb k (to - from)) (from + k) 256) 256) ≡ cond b (cond (ltb k (to - from)) (get_or u.totals (from + k) 0) 0) 0
      by false from to l = left (ltb 256 256) (get_or S (320 + 256) 0) 0 (le-ltb 256 256 (omega arith))
      by true from to l = inner (ltb k (to - from)) refl
        where
          inner : (c : Bool) → ltb k (to - from) ≡ c → placed-met (cond c (from + k) 256) ≡ cond c (get_or u.totals (from + k) 0) 0
          inner false e = left (ltb 256 256) (get_or S (320 + 256) 0) 0 (le-ltb 256 256 (omega arith))
          inner true e =
              let h = ltb-true k (to - from) e in
              let b : from + k < 256 = omega (arith, h, l) in
              taken (ltb (from + k) 256) (get_or S (320 + (from + k)) 0) 0 (lt-ltb (from + k) 256 b) ∙ total-at (from + k) b

  tied-store : (σ : List ℕ) → u.values ≡ sets (replicate 16 0) 0 σ → length σ ≡ u.stores → length σ ≤ 16 → (k : ℕ) → store_in W k ≡ get_or σ k 0
  tied-store σ e n few k = elim (dec_lt k (length σ)) [
    | yes l ↦
        let q = t.stores in
        taken (ltb k (min (stores_in W) 16)) (get_or S (16 + k) 0) 0 (lt-ltb k (min (stores_in W) 16) (omega (arith, l, q, n, few)))
        ∙ sym (value-at S 16 k (omega (arith, l, few)) (omega arith)) ∙ ap (λ (s : State Moving). get_or s.inner.values k 0) t.state ∙ ap (λ (x : List ℕ). get_or x k 0) e ∙ padded-get 16 σ few k
    | no l ↦
        let q = t.stores in
        left (ltb k (min (stores_in W) 16)) (get_or S (16 + k) 0) 0 (le-ltb k (min (stores_in W) 16) (omega (arith, l, q, n, few))) ∙ sym (get_or-eq_default σ 0 {n = k} (omega (arith, l)))
  ]

-- ---- through a range

module _ (text : List ℕ) (o : Opened) (e : open_text text ≡ value o) (R : List Words) (lent : Lent R) where
  abbrev v : Watch
  v = watch_of (value o)

  shaped : Shaped (first R)
  shaped = record { groups = lent.groups; blocks = lent.blocks }

  first-stores : v.stores ≡ length o.initial
  unfolding watch_of
  first-stores = refl

  -- the range that opening leaves
  abbrev R₁ : List Words
  R₁ = range_opened text R

  opens : R₁ ≡ set R 0 (filled v (first R))
  opens = by_first R lent.some R (set R 0 (opened_in (open_text text) (first R))) ∙ ap (λ x. set R 0 (opened_in x (first R))) e

  front : first R₁ ≡ filled v (first R)
  front = ap first opens ∙ first-set R lent.some (filled v (first R))

  stays : length R₁ ≡ 0 → ⊥
  stays z = some-set R lent.some (filled v (first R)) (sym (ap length opens) ∙ z)

  codes-right : (cs : List Call) → codes_of R₁ cs ≡ map answer_code (answers_of v cs)
  codes-right cs = codes-by cs R₁ stays ∙ ap (λ (W : Words). map answer_code (answers_in W cs)) front ∙ ap (map answer_code) (answers-same text o e (first R) shaped cs)

  -- There is a number for each call, and taken apart it is the right answer.
  pub live-rightly : (cs : List Call)
      → (length (codes_of R₁ cs) ≡ length cs) × AllAnswered o.limits o.monitors o.initial o.wires cs (all_told cs (codes_of R₁ cs))
  live-rightly cs = (
    ap length (codes-right cs) ∙ length-map (answers_of v cs) answer_code ∙ answers-long v cs,
    subst (AllAnswered o.limits o.monitors o.initial o.wires cs) (sym (ap (all_told cs) (codes-right cs) ∙ all_there v cs)) (all-answered text o e cs),
  )

  -- And the entries then tell the ok takes, the store values and how often each letter was met.
  pub live-held : (cs : List Call)
      → let h = standing o.limits o.monitors o.initial o.wires cs in
      let Q = range_after_all R₁ cs in
      (ticks_at Q ≡ h.oks) × ((k : ℕ) → store_at Q k ≡ get_or h.inner.stores k 0) × ((m l : ℕ) → met_at Q m l ≡ get_or (get_or (totals o.monitors h.inner.ticks) m []) l 0)
  live-held cs =
      let h = standing o.limits o.monitors o.initial o.wires cs in
      let u = watch_after_all v cs in
      let Q = range_after_all R₁ cs in
      let (p, some) = ranges-by cs R₁ stays in
      let t : Ties u (first Q) = subst (Ties u) (sym (p ∙ ap (λ (W : Words). words_after_all W cs) front)) (all-tied text o e (first R) shaped cs) in
      let d = watch-held text o e cs in
      let n = stores-long text o e cs in
      let few = (accepted-initial text o e).0 in
      let stores : u.stores ≡ length o.initial = ap (λ (x : Watch). x.stores) d.tables ∙ first-stores in (
        by_first Q some 0 (ticks_in (first Q)) ∙ ap (λ (s : State Moving). s.oks) t.state ∙ d.ticks,
        λ k. by_first Q some 0 (store_in (first Q) k) ∙ tied-store u (first Q) t h.inner.stores d.values (n ∙ sym stores) (omega (arith, n, few)) k,
        λ m l. by_first Q some 0 (met_in (first Q) m l) ∙ tied-met u (first Q) t m l ∙ ap (λ (xs : List (List ℕ)). get_or (get_or xs m []) l 0) (totals-right text o e cs),
      )

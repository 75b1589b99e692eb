-- How often letters were met, as a watch counts it: a good tick counts each letter met at it once, and no number outgrows its 32 bits. Assumes nothing.
use mathlib.Core.Path.{◌≡◌, refl, sym, ap, ap₂, ◌∙◌, subst}
use mathlib.Core.Bool.{Bool, true, false, not, cond}
use mathlib.Core.List.{List, [], ◌∷◌, ◌++◌, map, append_assoc}
use mathlib.Core.Option.{some}
use Prim.Native.Nat.{ℕ, suc, ◌+◌, ◌-◌, ◌%◌, ◌<◌, ◌≤◌}
use native.Mathlib.Omega.{arith}
use borrow.Author.Tests.{leb-false}
use lib.Dec.{eqb}
use lib.ListN.{length, length-append, length-map, get_or, set, drop, replicate, length-replicate}
use lib.Seq.{append_snoc, set_at, get_or_at, set-get_or, sets, sets-eq}
use Rattle.meaning.specs.Lists.{◌∈◌, each, total, count, member}
use Rattle.meaning.specs.Expression.{Letter, Exp, letters, size, rows, Ordered}
use Rattle.meaning.specs.Names.{Limit}
use Rattle.meaning.specs.Fit.{Tick, History, start, tick, met, onward}
use Rattle.meaning.specs.Limits.{judged}
use Rattle.meaning.specs.Totals.{met_from, times_from, totals}
use Rattle.meaning.specs.Positions.{Positions, at_start, on, kept_each}
use Rattle.meaning.specs.Calls.{Call, look, take, Reply, ok, bad, refused, reply_of, most_ticks, is_full, is_stray, State, opening, reply, after, state_from, standing}
use Rattle.meaning.proofs.ListLaws.{here, there, clash, each-∈, map-∈}
use Rattle.meaning.proofs.Active.{positions_after}
use Rattle.meaning.proofs.Monitor.{Accepted, go_counted, same-member, positions-met}
use Rattle.meaning.proofs.Sets.{Alike}
use Rattle.meaning.proofs.Shifted.{shift_all}
use Rattle.meaning.proofs.Watch.{Tracked}
use Rattle.meaning.proofs.Totals.{times_snoc, times-few}
use Rattle.rules.proofs.Placing.{letters-long}
use Rattle.meaning.specs.Table.{Table}
use Rattle.monitor.specs.Ticks.{Layout, letters_end, if_marked, each_marked, one_more, count_met}
use Rattle.monitor.specs.Calls.{stretch, totals_from}
use Rattle.monitor.proofs.Padded.{zeros-at}
use Rattle.monitor.proofs.Going.{marked_from}
use Rattle.monitor.proofs.Moves.{Counted, ordered-counted, MarksAll}
use Rattle.monitor.proofs.ShutRows.{marked, same_met}
use Rattle.monitor.proofs.Monitors.{AllStanding}

-- ---- the numbers of all letters

-- monitor by monitor
abbrev pub flat : List Exp → List Tick → List ℕ
flat ms ts = each (totals ms ts) (λ ns. ns)

-- as a watch's array has them
abbrev pub shown : List ℕ → List ℕ
shown ns = sets (replicate 256 0) 0 ns

times_long : (m : Exp) (ts : List Tick) → length (times_from m [] ts) ≡ size m
times_long m ts = length-map (letters m) (λ x. count (member x.number) (met_from m [] ts)) ∙ letters-long m

-- one for each letter
pub total-letters : (ms : List Exp) (ts : List Tick) → length (flat ms ts) ≡ total size ms
total-letters [] ts = refl
total-letters (m ∷ ms) ts = length-append (times_from m [] ts) (flat ms ts) ∙ ap₂ ◌+◌ (times_long m ts) (total-letters ms ts)

-- ---- one more for each marked letter

module _ (K : List ℕ) where
  -- the number n of letter l, in 32 bits
  abbrev more : (l n : ℕ) → ℕ
  more l n = cond (eqb (get_or K l 0) 0) n (suc n % 4294967296)

  -- the numbers of letters from l on
  abbrev raised : (l : ℕ) → List ℕ → List ℕ
  raised l [] = []
  raised l (n ∷ ns) = more l n ∷ raised (suc l) ns

  raised_long : (l : ℕ) (ns : List ℕ) → length (raised l ns) ≡ length ns
  raised_long l [] = refl
  raised_long l (n ∷ ns) = ap suc (raised_long (suc l) ns)

  raised-append : (l : ℕ) (ns ks : List ℕ) → raised l (ns ++ ks) ≡ raised l ns ++ raised (l + length ns) ks
  raised-append l [] ks = let e : l ≡ l + 0 = omega arith in ap (λ (k : ℕ). raised k ks) e
  raised-append l (n ∷ ns) ks =
      let e : suc l + length ns ≡ l + suc (length ns) = omega arith in
      ap (λ zs. more l n ∷ zs) (raised-append (suc l) ns ks ∙ ap (λ (k : ℕ). raised (suc l) ns ++ raised k ks) e)

  one-raised : (l : ℕ) (pre : List ℕ) (n : ℕ) (rest : List ℕ) → length pre ≡ l → if_marked K one_more l (pre ++ n ∷ rest) ≡ pre ++ more l n ∷ rest
  one-raised l pre n rest e = by (eqb (get_or K l 0) 0)
    where
      by : (b : Bool) → cond b (pre ++ n ∷ rest) (one_more l (pre ++ n ∷ rest)) ≡ pre ++ cond b n (suc n % 4294967296) ∷ rest
      by true = refl
      by false = ap (λ (k : ℕ). set (pre ++ n ∷ rest) l (suc k % 4294967296)) (get_or_at pre n rest 0 l e) ∙ set_at pre n rest (suc n % 4294967296) l e

  -- where they stand between others
  each-raised : (l : ℕ) (pre ns post : List ℕ) → length pre ≡ l → each_marked K one_more (length ns) l (pre ++ (ns ++ post)) ≡ pre ++ (raised l ns ++ post)
  unfolding each_marked
  each-raised l pre [] post e = refl
  each-raised l pre (n ∷ ns) post e =
      ap (each_marked K one_more (length ns) (suc l)) (one-raised l pre n (ns ++ post) e ∙ sym (append_snoc pre (more l n) (ns ++ post)))
      ∙ each-raised (suc l) (pre ++ more l n ∷ []) ns post (let s = length-append pre (more l n ∷ []) in omega (arith, s, e))
      ∙ append_snoc pre (more l n) (raised (suc l) ns ++ post)

  -- at the front of an array
  stored-raised : (Z ns : List ℕ) → length ns ≤ length Z → count_met K (length ns) (sets Z 0 ns) ≡ sets Z 0 (raised 0 ns)
  stored-raised Z ns h =
      let s = raised_long 0 ns in
      ap (count_met K (length ns)) (sets-eq ns Z 0 (omega (arith, h)))
      ∙ each-raised 0 [] ns (drop (0 + length ns) Z) refl
      ∙ ap (λ (k : ℕ). raised 0 ns ++ drop (0 + k) Z) (sym s)
      ∙ sym (sets-eq (raised 0 ns) Z 0 (omega (arith, h, s)))

-- ---- one tick

-- letters with the numbers f, of which those in ns are marked
module _ (K : List ℕ) (l : ℕ) (ns : List ℕ) (f : Letter → ℕ) (few : (x : Letter) → suc (f x) < 4294967296) where
  letters-raised : (j : ℕ) (xs : List Letter) → Counted j xs → ((x : Letter) → x ∈ xs → marked K (l + x.number) ≡ member x.number ns)
      → raised K (l + j) (map f xs) ≡ map (λ x. cond (member x.number ns) (suc (f x)) (f x)) xs
  letters-raised j [] c h = refl
  letters-raised j (x ∷ xs) c h =
      let e : suc (l + j) ≡ l + suc j = omega arith in
      ap₂ ◌∷◌ (by (eqb (get_or K (l + j) 0) 0) (member x.number ns) (ap (λ (k : ℕ). marked K (l + k)) (sym c.0) ∙ h x (here refl)))
      (ap (λ (k : ℕ). raised K k (map f xs)) e ∙ letters-raised (suc j) xs c.1 (λ y i. h y (there i)))
    where
      by : (b a : Bool) → not b ≡ a → cond b (f x) (suc (f x) % 4294967296) ≡ cond a (suc (f x)) (f x)
      by true false p = refl
      by false true p = let q = few x in omega (arith, q)
      by true true p = clash (cc p)
      by false false p = clash (cc p)

-- the tick t behind the ticks ts left the marks K: the letters marked are the set of those met
module _ (K : List ℕ) (ts : List Tick) (t : Tick) where
  pub marked-met : (l : ℕ) (m : Exp) → Ordered 0 m → Accepted m → (ns : List ℕ) → marked_from K (size m) l ≡ shift_all l ns
      → (y : Positions) → positions_after (go_counted m) at_start (ts ++ t ∷ []) ≡ some y → Alike (on ns) y → (x : Letter) → x ∈ letters m → marked K (l + x.number) ≡ member x.number (met m ts t)
  marked-met l m o ac ns e at_start p a x i = absurd a
  marked-met l m o ac ns e (on qs) p a x i = same_met K l m o ns e x i ∙ same-member ns qs a.0 a.1 x.number ∙ sym (positions-met m ac ts t qs p x.number)

-- so each has one more
module _ (K : List ℕ) (ts : List Tick) (t : Tick) (few : suc (length ts) < 4294967296) where
  monitor-raised : (l : ℕ) (m : Exp) → Ordered 0 m → Accepted m → (ns : List ℕ) → marked_from K (size m) l ≡ shift_all l ns
      → (y : Positions) → positions_after (go_counted m) at_start (ts ++ t ∷ []) ≡ some y → Alike (on ns) y → raised K l (times_from m [] ts) ≡ times_from m [] (ts ++ t ∷ [])
  monitor-raised l m o ac ns e y p a =
      let z : l ≡ l + 0 = omega arith in
      ap (λ (k : ℕ). raised K k (times_from m [] ts)) z
      ∙ letters-raised K l (met m ts t) (λ x. count (member x.number) (met_from m [] ts)) (λ x. let q = times-few m x.number ts in omega (arith, q, few))
      0 (letters m) (ordered-counted 0 m o)
      (marked-met K ts t l m o ac ns e y p a)
      ∙ sym (times_snoc m ts t)

  all-raised : (i l : ℕ) (ms : List Exp) (nss : List (List ℕ)) → ((m : Exp) → m ∈ ms → Ordered 0 m × Accepted m) → MarksAll K i l ms (kept_each ms nss)
      → Tracked ms (ts ++ t ∷ []) (kept_each ms nss) → raised K l (flat ms ts) ≡ flat ms (ts ++ t ∷ [])
  unfolding MarksAll kept_each
  all-raised i l [] nss o h r = refl
  all-raised i l (m ∷ ms) [] o h r = absurd h
  all-raised i l (m ∷ ms) (ns ∷ nss) o h r =
      let (y, p, a) = r.0 in
      let (d, ac) = o m (here refl) in
      raised-append K l (times_from m [] ts) (flat ms ts)
      ∙ ap₂ ◌++◌ (monitor-raised l m d ac _ h.0.1 y p a)
      (ap (λ (k : ℕ). raised K (l + k) (flat ms ts)) (times_long m ts) ∙ all-raised (suc i) (l + size m) ms nss (λ n j. o n (there j)) h.1 r.1)

  -- in a watch's array
  pub tick-counted : (ms : List Exp) (nss : List (List ℕ)) → total size ms ≤ 256 → ((m : Exp) → m ∈ ms → Ordered 0 m × Accepted m) → MarksAll K 0 0 ms (kept_each ms nss)
      → Tracked ms (ts ++ t ∷ []) (kept_each ms nss) → count_met K (total size ms) (shown (flat ms ts)) ≡ shown (flat ms (ts ++ t ∷ []))
  tick-counted ms nss room o h r =
      let s = total-letters ms ts in
      ap (λ (n : ℕ). count_met K n (shown (flat ms ts))) (sym s)
      ∙ stored-raised K (replicate 256 0) (flat ms ts) (let z = length-replicate {A = ℕ} 256 0 in omega (arith, s, z, room))
      ∙ ap shown (all-raised 0 0 ms nss o h r)

-- ---- before tick 0

zeros-stored : (n i : ℕ) (ns : List ℕ) → ((k : ℕ) → k ∈ ns → k ≡ 0) → sets (replicate n 0) i ns ≡ replicate n 0
zeros-stored n i [] h = refl
zeros-stored n i (k ∷ ns) h =
    ap (λ (zs : List ℕ). sets zs (suc i) ns) (ap (set (replicate n 0) i) (h k (here refl) ∙ sym (zeros-at n i)) ∙ set-get_or (replicate n 0) i 0)
    ∙ zeros-stored n (suc i) ns (λ j u. h j (there u))

pub none-counted : (ms : List Exp) → replicate 256 0 ≡ shown (flat ms [])
unfolding met_from
none-counted ms = sym (zeros-stored 256 0 (flat ms []) (λ n i.
    let (ns, j, k) = each-∈ (totals ms []) (λ ns. ns) i in
    let (m, u, e) = map-∈ (λ m. times_from m [] []) ms j in
    let (x, v, d) = map-∈ (λ x. count (member x.number) (met_from m [] [])) (letters m) (subst (λ ks. n ∈ ks) (sym e) k) in
    sym d))

-- ---- no more ticks than a watch takes

module _ (ls : List Limit) (ms : List Exp) (wires : ℕ) where
  -- the ok takes are the ticks
  abbrev Few : State History → Type 0
  Few s = (length s.inner.ticks ≡ s.oks) × (s.oks ≤ most_ticks)

  not_full : (s : State History) (w : ℕ) → reply (judged ls ms) wires s w ≡ ok → s.oks < most_ticks
  unfolding reply
  not_full s w p = by s.stopped (is_full s.oks) refl p
    where
      by : (a b : Bool) → is_full s.oks ≡ b → cond a (refused 16 0) (cond b (refused 17 0) (cond (is_stray wires w) (refused 15 0) (reply_of (judged ls ms s.inner w)))) ≡ ok
          → s.oks < most_ticks
      by true b e p = clash (cc p)
      by false true e p = clash (cc p)
      by false false e p = leb-false most_ticks s.oks e

  few-after : (s : State History) → Few s → (w : ℕ) (r : Reply) → reply (judged ls ms) wires s w ≡ r → Few (after (onward ms) s w r)
  unfolding onward
  few-after s (a, b) w ok p = (
    (let l = length-append s.inner.ticks (tick s.inner w ∷ []) in omega (arith, l, a)),
    not_full s w p,
  )
  few-after s f w (bad m) p = f
  few-after s f w (refused n q) p = f

  few-from : (s : State History) → Few s → (cs : List Call) → Few (state_from (judged ls ms) (onward ms) wires s cs)
  unfolding state_from
  few-from s f [] = f
  few-from s f (look w ∷ cs) = few-from s f cs
  few-from s f (take w ∷ cs) = few-from (after (onward ms) s w (reply (judged ls ms) wires s w)) (few-after s f w (reply (judged ls ms) wires s w) refl) cs

pub ticks-few : (ls : List Limit) (ms : List Exp) (initial : List ℕ) (wires : ℕ) (cs : List Call) → length (standing ls ms initial wires cs).inner.ticks ≤ 1000000
ticks-few ls ms initial wires cs = let (a, b) = few-from ls ms wires (opening (start initial)) (refl, omega arith) cs in omega (arith, a, b)

-- ---- monitor by monitor

stretch-at : (l : ℕ) (pre ns post : List ℕ) → length pre ≡ l → stretch (pre ++ (ns ++ post)) (length ns) l ≡ ns
unfolding stretch
stretch-at l pre [] post e = refl
stretch-at l pre (n ∷ ns) post e =
    ap₂ ◌∷◌ (get_or_at pre n (ns ++ post) 0 l e)
    (ap (λ (N : List ℕ). stretch N (length ns) (suc l)) (sym (append_snoc pre n (ns ++ post)))
    ∙ stretch-at (suc l) (pre ++ n ∷ []) ns post (let s = length-append pre (n ∷ []) in omega (arith, s, e)))

-- where each monitor's letters stand behind those of the one before it, the numbers fall apart into those of each
module _ (R : Table) (P : List ℕ) (y : Layout) (n : ℕ) (ts : List Tick) where
  pub totals-split : (i r l : ℕ) (ms : List Exp) → AllStanding R P y n i r l ms → (pre post : List ℕ) → length pre ≡ l
      → totals_from y.firsts (pre ++ (flat ms ts ++ post)) y.monitors y.letters (length ms) i ≡ totals ms ts
  unfolding AllStanding totals_from
  totals-split i r l [] h pre post e = refl
  totals-split i r l (m ∷ ms) h pre post e =
      let cs = times_from m [] ts in
      let a = h.0.first in
      let z = h.0.end in
      let k = times_long m ts in
      let d : letters_end y.firsts y.monitors y.letters i - get_or y.firsts i 0 ≡ length cs = omega (arith, a, z, k) in
      let apart : pre ++ ((cs ++ flat ms ts) ++ post) ≡ pre ++ (cs ++ (flat ms ts ++ post)) = ap (λ xs. pre ++ xs) (append_assoc cs (flat ms ts) post) in
      ap₂ ◌∷◌
      (ap₂ (λ (u v : ℕ). stretch (pre ++ ((cs ++ flat ms ts) ++ post)) u v) d a ∙ ap (λ (N : List ℕ). stretch N (length cs) l) apart ∙ stretch-at l pre cs (flat ms ts ++ post) e)
      (ap (λ (N : List ℕ). totals_from y.firsts N y.monitors y.letters (length ms) (suc i)) (apart ∙ sym (append_assoc pre cs (flat ms ts ++ post)))
      ∙ totals-split (suc i) (r + rows m) (l + size m) ms h.1 (pre ++ cs) post (let s = length-append pre cs in omega (arith, s, e, k)))

-- One tick of a watch is one tick of the meaning's machine: the same verdict, and the same positions and store values after it. Assumes nothing.
use mathlib.Core.Path.{◌≡◌, refl, sym, ap, ◌∙◌, subst}
use mathlib.Core.Bool.{Bool, true, false, not, cond}
use mathlib.Core.List.{List, [], ◌∷◌}
use mathlib.Core.Option.{Option, none, some}
use mathlib.Core.Logic.{⊎_elim}
use Prim.Native.Nat.{ℕ, zero, suc, ◌+◌, ◌<◌, ◌≤◌}
use native.Mathlib.Omega.{arith}
use native.Mathlib.Decide.{dec_lt}
use lib.Dec.{T, eqb, ltb}
use borrow.Author.Tests.{le-ltb, lt-ltb, eq-eqb, ne_eqb}
use lib.ListN.{length, length-take, get_or, get_or-eq_default, take, drop}
use lib.Seq.{get_or-take, get_or-drop}
use Rattle.meaning.specs.Lists.{◌∈◌, total, member}
use Rattle.meaning.specs.Expression.{Exp, size, Ordered}
use Rattle.meaning.specs.Fit.{Tick}
use Rattle.meaning.specs.Positions.{Positions, go, Ticked, fine, wrong, go_on, go_each, kept_each, write_each}
use Rattle.meaning.proofs.ListLaws.{here, there, no-∈, clash, ∈-member, member-∈}
use Rattle.meaning.proofs.Numbering.{between}
use Rattle.meaning.proofs.Sets.{go-inside}
use Rattle.monitor.specs.Letters.{Given}
use Rattle.monitor.specs.Ticks.{Layout, marks_after, write_marked, writers, Reached, Move, move, empty_memory, shut_busy, move_by, monitors_go, step_within}
use Rattle.monitor.proofs.Padded.{padded-get}
use Rattle.monitor.proofs.Memory.{Marked, Exactly}
use Rattle.monitor.proofs.Going.{AllGo, Went, monitors-go, spread}
use Rattle.monitor.proofs.Moves.{AllInside, all-marked, MarksAll, marks_all, AllWriteAs, writes-all}

-- ---- the letters met are each monitor's own

on_fine : (i : ℕ) (a : Option (List ℕ)) (b : Ticked) (nss : List (List ℕ)) → go_on i a b ≡ fine nss
    → (ns : List ℕ) × (kss : List (List ℕ)) × (a ≡ some ns) × (b ≡ fine kss) × (nss ≡ ns ∷ kss)
on_fine i none b nss e = clash (cc e)
on_fine i (some ns) (wrong j) nss e = clash (cc e)
on_fine i (some ns) (fine kss) nss e = (ns, kss, refl, refl, cc e)

all-inside : (i l : ℕ) (K : List ℕ) (ms : List Exp) (xs : List Positions) (t : Tick) (nss : List (List ℕ)) → MarksAll K i l ms xs → ((m : Exp) → m ∈ ms → Ordered 0 m)
    → go_each i ms xs t ≡ fine nss → AllInside ms nss
unfolding MarksAll go_each AllInside
all-inside i l K [] [] t [] h o e = tt
all-inside i l K [] [] t (ns ∷ nss) h o e = clash (cc e)
all-inside i l K [] (x ∷ xs) t nss h o e = absurd h
all-inside i l K (m ∷ ms) [] t nss h o e = absurd h
all-inside i l K (m ∷ ms) (x ∷ xs) t nss h o e =
    let (ns, kss, p, q, s) = on_fine i (go m x t) (go_each (suc i) ms xs t) nss e in
    subst (λ (z : List (List ℕ)). AllInside (m ∷ ms) z) (sym s) (
      λ k j. let (d, u, v) = go-inside m x t ns p k j in let b = between 0 m (o m (here refl)) d u in omega (arith, b.1, v),
      all-inside (suc i) (l + size m) K ms xs t kss h.1 (λ z j. o z (there j)) q,
    )

-- ---- the marks after a tick

module _ (n : ℕ) (M : List ℕ) (few : n ≤ 256) where
  taken-long : length (take n (drop 1024 M)) ≤ n
  taken-long = let l = length-take n (drop 1024 M) in omega (arith, l)

  after_is : (k : ℕ) → get_or (marks_after n M) k 0 ≡ get_or (take n (drop 1024 M)) k 0
  after_is = padded-get 288 (take n (drop 1024 M)) (let l = taken-long in omega (arith, l, few))

  pub after-at : (k : ℕ) → k < n → get_or (marks_after n M) k 0 ≡ get_or M (1024 + k) 0
  after-at k c = after_is k ∙ get_or-take n (drop 1024 M) k 0 c ∙ get_or-drop 1024 M k 0

  after-beyond : (k : ℕ) → n ≤ k → get_or (marks_after n M) k 0 ≡ 0
  after-beyond k c = after_is k ∙ get_or-eq_default (take n (drop 1024 M)) 0 {n = k} (let l = taken-long in omega (arith, l, c))

zero_or : (v : ℕ) → v ≤ 1 → (v ≡ 1 → ⊥) → v ≡ 0
zero_or zero h f = refl
zero_or (suc zero) h f = absurd (f refl)
zero_or (suc (suc v)) h f = absurd (omega (arith, h))

-- ---- a tick

-- what a step comes to, by what the machine comes to
pub record Steps (ms : List Exp) (t : Tick) (σ : List ℕ) (pad : List ℕ → List ℕ) (stores : ℕ) (a : Ticked) (z : Move) : Type 0 where
  pub stands : (j : ℕ) → a ≡ wrong j → (z.monitor ≡ j) × (j < length ms)
  pub goes : (nss : List (List ℕ)) → a ≡ fine nss
      → (z.monitor ≡ length ms) × MarksAll z.marks 0 0 ms (kept_each ms nss) × (z.values ≡ pad (write_each t ms nss σ)) × (length (write_each t ms nss σ) ≡ stores)

module _ (Good : List ℕ → Type 0) (bits : (M : List ℕ) → Good M → (l : ℕ) → l < 256 → get_or M (1024 + l) 0 ≤ 1)
    (g : Given) (t : Tick) (y : Layout) (K : List ℕ) (first : Good (shut_busy g K y.letters empty_memory)) (clear : (l : ℕ) → Marked (shut_busy g K y.letters empty_memory) l → ⊥) (ms : List Exp) (ordered : (m : Exp) → m ∈ ms → Ordered 0 m)
    (monitors : y.monitors ≡ length ms) (few_monitors : length ms ≤ 32) (letters : y.letters ≡ total size ms) (few_letters : total size ms ≤ 256)
    (enough : (Q ρ : List ℕ) → write_marked g Q (writers g (total size ms)) 0 ρ ≡ write_marked g Q (total size ms) 0 ρ) where
  -- the memory at the tick's start
  abbrev begin : List ℕ
  begin = shut_busy g K y.letters empty_memory

  -- the marks in a memory, letter by letter
  marked-if : (M ks : List ℕ) → Exactly Good begin ks M → (k : ℕ) → k < total size ms
      → eqb (get_or (marks_after 256 M) k 0) 0 ≡ not (member k ks)
  marked-if M ks x k c = ap (λ (z : ℕ). eqb z 0) (after-at 256 M (omega arith) k (omega (arith, c, few_letters))) ∙ by (member k ks) refl
    where
      by : (b : Bool) → member k ks ≡ b → eqb (get_or M (1024 + k) 0) 0 ≡ not b
      by true e = ne_eqb (get_or M (1024 + k) 0) 0 (λ z. let p = x.adds k (member-∈ k ks (subst T (sym e) tt)) in absurd (omega (arith, p, z)))
      by false e =
          eq-eqb (get_or M (1024 + k) 0) 0
          (zero_or (get_or M (1024 + k) 0) (bits M x.good k (omega (arith, c, few_letters)))
          (λ p. ⊎_elim (clear k) (λ q. subst T e (∈-member k ks q)) (x.only k p)))

  module _ (xs : List Positions) (σ : List ℕ) (pad : List ℕ → List ℕ) (stores : ℕ) (marked : MarksAll K 0 0 ms xs) (long-values : length σ ≡ stores) (padded : g.values ≡ pad σ)
      (go_all : AllGo Good g t y K 0 0 ms xs) (writes : (Q : List ℕ) → AllWriteAs g t Q pad stores 0 ms) where
    went : Went Good g t y K 0 (length ms) 0 ms (go_each 0 ms xs t) begin (monitors_go g y K y.monitors 0 begin)
    went = subst (λ (c : ℕ). Went Good g t y K 0 (length ms) 0 ms (go_each 0 ms xs t) begin (monitors_go g y K c 0 begin)) (sym monitors)
        (monitors-go Good g t y K 0 0 ms xs go_all begin first)

    bad-step : (z : Reached) (j : ℕ) → Went Good g t y K 0 (length ms) 0 ms (wrong j) begin z → ((move_by g y K z).monitor ≡ j) × (j < length ms)
    unfolding Went
    bad-step z j (p, q) =
        let b : ltb z.monitor y.monitors ≡ true = lt-ltb z.monitor y.monitors (omega (arith, p, q, monitors)) in (
          ap (λ (c : Bool). (cond c (move z.monitor K g.values) (move z.monitor (marks_after 256 z.memory) (write_marked g (marks_after 256 z.memory) (writers g y.letters) 0 g.values))).monitor) b ∙ p,
          omega (arith, q),
        )

    good-step : (z : Reached) (nss : List (List ℕ)) → AllInside ms nss → Went Good g t y K 0 (length ms) 0 ms (fine nss) begin z
        → ((move_by g y K z).monitor ≡ length ms) × MarksAll (move_by g y K z).marks 0 0 ms (kept_each ms nss) × ((move_by g y K z).values ≡ pad (write_each t ms nss σ))
        × (length (write_each t ms nss σ) ≡ stores)
    unfolding Went
    good-step z nss inside (p, x) =
        let b : ltb z.monitor y.monitors ≡ false = le-ltb z.monitor y.monitors (omega (arith, p, monitors)) in
        let n = total size ms in
        let Q = marks_after 256 z.memory in
        let a = all-marked Q n [] 0 ms nss inside (λ k i. absurd (no-∈ i)) (λ k c. marked-if z.memory (spread 0 ms nss) x k c) (omega arith) in
        let m = marks_all Q 0 0 ms nss ordered (λ k u v. after-beyond 256 z.memory (omega arith) (256 + k) (omega arith)) a in
        let w = writes-all g t Q pad stores 0 ms nss ordered a (writes Q) σ long-values in
        rw (b, letters) (omega (arith, p), m, enough Q g.values ∙ ap (write_marked g Q n 0) padded ∙ w.0, w.1)

    good-bits : (z : Reached) (nss : List (List ℕ)) → Went Good g t y K 0 (length ms) 0 ms (fine nss) begin z → (k : ℕ) → get_or (move_by g y K z).marks k 0 ≤ 1
    unfolding Went
    good-bits z nss (p, x) k =
        let b : ltb z.monitor y.monitors ≡ false = le-ltb z.monitor y.monitors (omega (arith, p, monitors)) in
        rw b (elim (dec_lt k 256) [
          | yes l ↦ (let e = after-at 256 z.memory (omega arith) k l in let h = bits z.memory x.good k l in omega (arith, e, h))
          | no h ↦ (let e = after-beyond 256 z.memory (omega arith) k (omega arith) in omega (arith, e))
        ])

    pub steps-right : Steps ms t σ pad stores (go_each 0 ms xs t) (step_within g y K)
    unfolding step_within
    steps-right = record {
      stands = λ j e. bad-step (monitors_go g y K y.monitors 0 begin) j (subst (λ (a : Ticked). Went Good g t y K 0 (length ms) 0 ms a begin (monitors_go g y K y.monitors 0 begin)) e went);
      goes = λ nss e. good-step (monitors_go g y K y.monitors 0 begin) nss (all-inside 0 0 K ms xs t nss marked ordered e)
          (subst (λ (a : Ticked). Went Good g t y K 0 (length ms) 0 ms a begin (monitors_go g y K y.monitors 0 begin)) e went);
    }

    -- and behind a good tick each mark is 0 or 1
    pub steps-bits : (nss : List (List ℕ)) → go_each 0 ms xs t ≡ fine nss → (k : ℕ) → get_or (step_within g y K).marks k 0 ≤ 1
    unfolding step_within
    steps-bits nss e =
        good-bits (monitors_go g y K y.monitors 0 begin) nss
        (subst (λ (a : Ticked). Went Good g t y K 0 (length ms) 0 ms a begin (monitors_go g y K y.monitors 0 begin)) e went)

    pub steps-both : Steps ms t σ pad stores (go_each 0 ms xs t) (step_within g y K) × ((nss : List (List ℕ)) → go_each 0 ms xs t ≡ fine nss → (k : ℕ) → get_or (step_within g y K).marks k 0 ≤ 1)
    steps-both = (steps-right, steps-bits)

-- Positions go on one after the other, of one monitor and of all: where every one has a way, the letters of these ways are marked, and no others. Assumes nothing.
use mathlib.Core.Path.{◌≡◌, refl, ap}
use mathlib.Core.Bool.{Bool, true, false, cond}
use mathlib.Core.List.{List, [], ◌∷◌, ◌++◌, append-nil}
use mathlib.Core.Option.{Option, none, some}
use Prim.Native.Nat.{ℕ, zero, suc, ◌+◌, ◌<◌, ◌≤◌}
use native.Mathlib.Omega.{arith}
use lib.Dec.{eqb}
use lib.ListN.{length, get_or}
use Rattle.meaning.specs.Expression.{Exp, size}
use Rattle.meaning.specs.Fit.{Tick}
use Rattle.meaning.specs.Positions.{Way, joined, Positions, at_start, on, go_all, go, Ticked, fine, wrong, go_on, go_each}
use Rattle.meaning.proofs.Shifted.{shift, shift_all}
use Rattle.monitor.specs.Letters.{Given}
use Rattle.monitor.specs.Walk.{Told, told, ask_m, leave_m}
use Rattle.monitor.specs.Ticks.{steps, Layout, and_then, letters_go, start_goes, monitor_goes, Reached, reached, reached_by, monitors_go}
use Rattle.monitor.proofs.Memory.{Exactly, Goes, exactly-none, exactly-then, goes_over, goes_then}

-- ---- one monitor

-- the letters that are marked, of n from l on
unfoldable pub marked_from : (marks : List ℕ) → (n l : ℕ) → List ℕ
marked_from marks zero l = []
marked_from marks (suc n) l = cond (eqb (get_or marks l 0) 0) (marked_from marks n (suc l)) (l ∷ marked_from marks n (suc l))

-- the marks of a monitor are its positions: i is its number, its n letters are those from l on
abbrev pub MarksAre : (marks : List ℕ) → (i n l : ℕ) → Positions → Type 0
MarksAre marks i n l at_start = (eqb (get_or marks (256 + i) 0) 0 ≡ false) × (marked_from marks n l ≡ [])
MarksAre marks i n l (on ns) = (eqb (get_or marks (256 + i) 0) 0 ≡ true) × (marked_from marks n l ≡ ns)

-- the way of a monitor whose own row has the way S, and whose letters, when left, have the ways W
abbrev pub go_by : Way → (ℕ → Way) → Positions → Way
go_by S W at_start t = S t
go_by S W (on ns) t = go_all W ns t

joined-over : (a : Option (List ℕ)) → joined a (some []) ≡ a
joined-over none = refl
joined-over (some ns) = ap some (append-nil ns)

module _ (Good : List ℕ → Type 0) (g : Given) (t : Tick) (places own marks : List ℕ) where
  -- leaving letter k goes the way W k
  abbrev pub LeavesBy : (ℕ → Way) → ℕ → Type 0
  LeavesBy W k = (M : List ℕ) → Good M → Goes Good (W k t) M (leave_m steps g (get_or places k 0) M)

  -- a letter that may be marked (b: it is not), and the letters ks behind it
  one_more : (b : Bool) (W : ℕ → Way) (l : ℕ) (ks : List ℕ) {M : List ℕ} {x : Told} (f : List ℕ → Told) → Good M → Goes Good (W l t) M x
      → ((N : List ℕ) → Good N → Goes Good (go_all W ks t) N (f N)) → Goes Good (go_all W (cond b ks (l ∷ ks)) t) M (and_then (cond b (told true M) x) f)
  unfolding go_all
  one_more true W l ks {M} f p q next = next M p
  one_more false W l ks f p q next = goes_then (W l t) (go_all W ks t) f q next

  pub letters-go : (W : ℕ → Way) (n l : ℕ) → ((k : ℕ) → l ≤ k → k < l + n → LeavesBy W k)
      → (M : List ℕ) → Good M → Goes Good (go_all W (marked_from marks n l) t) M (letters_go g places marks n l M)
  unfolding letters_go marked_from go_all
  letters-go W zero l h M p = goes_over p
  letters-go W (suc n) l h M p =
      one_more (eqb (get_or marks l 0) 0) W l (marked_from marks n (suc l)) (letters_go g places marks n (suc l)) p (h l (omega arith) (omega arith) M p)
      (λ N q. letters-go W n (suc l) (λ k a b. h k (omega arith) (omega arith)) N q)

  module _ (S : Way) (W : ℕ → Way) (i n l : ℕ) (asks : (M : List ℕ) → Good M → Goes Good (S t) M (ask_m steps g (get_or own i 0) M))
      (leaves : (k : ℕ) → l ≤ k → k < l + n → LeavesBy W k) where
    pub both_go : (x : Positions) → MarksAre marks i n l x → (M : List ℕ) → Good M
        → Goes Good (go_by S W x t) M (and_then (start_goes g own marks i M) (letters_go g places marks n l))
    unfolding go_all
    both_go at_start (a, b) M p =
        rw (a, ← joined-over (S t)) (goes_then (S t) (some []) (letters_go g places marks n l) (asks M p) (λ N q. rw b at (letters-go W n l leaves N q)))
    both_go (on ns) (a, b) M p = rw (a, ← b) (letters-go W n l leaves M p)

-- ---- all monitors

-- the letters met in each monitor, numbered over all of them
unfoldable pub spread : (l : ℕ) → List Exp → List (List ℕ) → List ℕ
spread l [] nss = []
spread l (m ∷ ms) [] = []
spread l (m ∷ ms) (ns ∷ nss) = shift_all l ns ++ spread (l + size m) ms nss

module _ (Good : List ℕ → Type 0) (g : Given) (t : Tick) (y : Layout) (marks : List ℕ) where
  -- each monitor goes as its positions say, from number i and letter l on
  unfoldable pub AllGo : (i l : ℕ) → List Exp → List Positions → Type 0
  AllGo i l [] [] = Unit {0}
  AllGo i l [] (x ∷ xs) = ⊥
  AllGo i l (m ∷ ms) [] = ⊥
  AllGo i l (m ∷ ms) (x ∷ xs) = ((M : List ℕ) → Good M → Goes Good (shift l (go m x t)) M (monitor_goes g y marks i M)) × AllGo (suc i) (l + size m) ms xs

  -- what the monitors answered from M is what they answer in the meaning
  unfoldable pub Went : (i n l : ℕ) → List Exp → Ticked → List ℕ → Reached → Type 0
  Went i n l ms (fine nss) M z = (z.monitor ≡ i + n) × Exactly Good M (spread l ms nss) z.memory
  Went i n l ms (wrong j) M z = (z.monitor ≡ j) × (j < i + n)

  went_on : (i n l : ℕ) (m : Exp) (ms : List Exp) (a : Option (List ℕ)) (b : Ticked) (M : List ℕ) (x : Told) (f : List ℕ → Reached)
      → Goes Good (shift l a) M x → ((N : List ℕ) → Good N → Went (suc i) n (l + size m) ms b N (f N)) → Went i (suc n) l (m ∷ ms) (go_on i a b) M (reached_by i x f)
  unfolding Went spread
  went_on i n l m ms none b M x f p q = rw p.yes (refl, omega arith)
  went_on i n l m ms (some ns) (wrong j) M x f p q = let (u, h) = q x.memory (p.marks tt).good in rw p.yes (u, omega (arith, h))
  went_on i n l m ms (some ns) (fine nss) M x f p q =
      let (u, v) = q x.memory (p.marks tt).good in
      rw p.yes (omega (arith, u), exactly-then (shift_all l ns) (spread (l + size m) ms nss) (p.marks tt) v)

  none-went : (i l : ℕ) (M : List ℕ) → Good M → Went i 0 l [] (fine []) M (reached i M)
  unfolding Went spread
  none-went i l M p = (omega arith, exactly-none p)

  pub monitors-go : (i l : ℕ) (ms : List Exp) (xs : List Positions) → AllGo i l ms xs → (M : List ℕ) → Good M
      → Went i (length ms) l ms (go_each i ms xs t) M (monitors_go g y marks (length ms) i M)
  unfolding AllGo go_each monitors_go
  monitors-go i l [] [] h M p = none-went i l M p
  monitors-go i l [] (x ∷ xs) h M p = absurd h
  monitors-go i l (m ∷ ms) [] h M p = absurd h
  monitors-go i l (m ∷ ms) (x ∷ xs) h M p =
      went_on i (length ms) l m ms (go m x t) (go_each (suc i) ms xs t) M (monitor_goes g y marks i M) (monitors_go g y marks (length ms) (suc i)) (h.0 M p)
      (λ N q. monitors-go (suc i) (l + size m) ms xs h.1 N q)

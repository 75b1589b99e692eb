-- Each monitor of a program goes, over its rows in a watch, as its positions do in the meaning. Assumes nothing.
use mathlib.Core.Path.{◌≡◌, refl, sym, ◌∙◌, subst}
use mathlib.Core.Bool.{Bool, true, false}
use mathlib.Core.List.{List, [], ◌∷◌}
use mathlib.Core.Option.{Option}
use mathlib.Core.Logic.{◌⊎◌, inl, inr, ⊎_elim}
use Prim.Native.Nat.{ℕ, suc, ◌+◌, ◌*◌, ◌-◌, ◌<◌, ◌≤◌}
use native.Mathlib.Omega.{arith}
use lib.Dec.{T, eqb, eqb→eq}
use borrow.Author.Tests.{eqb-false}
use lib.ListN.{length, get_or}
use Rattle.meaning.specs.Lists.{◌∈◌}
use Rattle.meaning.specs.Expression.{Letter, Exp, star, letters, size, rows, renumbered, Ordered}
use Rattle.meaning.specs.Fit.{Tick}
use Rattle.meaning.specs.Positions.{stuck, busy, leave, Positions, at_start, on, go}
use Rattle.meaning.specs.Table.{Table, Holds}
use Rattle.meaning.specs.RowWalk.{ask_row, leave_row}
use Rattle.meaning.proofs.ListLaws.{here, there}
use Rattle.meaning.proofs.Step.{Solid}
use Rattle.meaning.proofs.Ends.{AskEnds, LeaveEnds}
use Rattle.meaning.proofs.Walk.{ThreadsShut, Shuts, top-asks, letter-leaves}
use Rattle.meaning.proofs.Numbering.{renumbered-size, renumbered-rows, renumbered-ordered, numbered}
use Rattle.meaning.proofs.Shifted.{shift, shift_positions, go-renumbered, renumbered-solid}
use Rattle.rules.proofs.Placing.{letters-long}
use Rattle.monitor.specs.Letters.{Given}
use Rattle.monitor.specs.Walk.{ask_m, leave_m}
use Rattle.monitor.specs.Ticks.{steps, Layout, letters_end, monitor_goes}
use Rattle.monitor.proofs.Memory.{Goes}
use Rattle.monitor.proofs.Going.{MarksAre, go_by, both_go, AllGo}
use Rattle.monitor.proofs.Moves.{Counted, ordered-counted, MarksAll}

-- letters numbered one after the other have every number in between
pub counted_has : (j : ℕ) (xs : List Letter) → Counted j xs → (k : ℕ) → j ≤ k → k < j + length xs → (x : Letter) × (x ∈ xs) × (x.number ≡ k)
counted_has j [] c k a b = absurd (omega (arith, a, b))
counted_has j (x ∷ xs) c k a b = ⊎_elim
    (λ e. (x, here refl, c.0 ∙ e))
    (λ h. let (y, i, p) = counted_has (suc j) xs c.1 k h (omega (arith, b)) in (y, there i, p))
    (same-or-more (eqb j k) refl)
  where
    same-or-more : (b : Bool) → eqb j k ≡ b → (j ≡ k) ⊎ (suc j ≤ k)
    same-or-more true e = inl (eqb→eq j k (subst T (sym e) tt))
    same-or-more false e = inr (omega (arith, a, eqb-false j k e))

-- the letters that are active
abbrev pub active : Positions → List ℕ
active at_start = []
active (on ns) = ns

-- a monitor's own row is r, its first letter l and its number i
pub record Standing (R : Table) (places : List ℕ) (y : Layout) (n i r l : ℕ) (m : Exp) : Type 0 where
  pub held : Holds R (λ k. get_or places k 0) r (renumbered l m)
  pub top : (R r).up ≡ r
  pub within : r < n
  pub letters_within : (k : ℕ) → l ≤ k → k < l + size m → get_or places k 0 < n
  pub few : 4 * rows m ≤ steps
  pub row : get_or y.own i 0 ≡ r
  pub first : get_or y.firsts i 0 ≡ l
  pub end : letters_end y.firsts y.monitors y.letters i ≡ l + size m

module _ (Good : List ℕ → Type 0) (g : Given) (t : Tick) (shut : ℕ → Bool) (R : Table) (threads : ThreadsShut shut R) (n : ℕ) (y : Layout) (marks : List ℕ)
    (asks : (r : ℕ) → r < n → AskEnds shut steps R r t → (M : List ℕ) → Good M → Goes Good (ask_row shut steps R r t) M (ask_m steps g r M))
    (leaves : (r : ℕ) → r < n → LeaveEnds shut steps R r t → (M : List ℕ) → Good M → Goes Good (leave_row shut steps R r t) M (leave_m steps g r M)) where
  module _ (i r l : ℕ) (m : Exp) (s : Standing R y.places y n i r l m) (ordered : Ordered 0 m) (solid : Solid (star m)) where
    abbrev place : ℕ → ℕ
    place k = get_or y.places k 0

    solid' : Solid (star (renumbered l m))
    unfolding renumbered
    solid' = renumbered-solid l (star m) solid

    start-way : (M : List ℕ) → Good M → Goes Good (go (renumbered l m) at_start t) M (ask_m steps g (get_or y.own i 0) M)
    unfolding go
    start-way M p =
        let (e, q) = top-asks shut R threads place r (renumbered l m) s.held solid' s.top steps (let z = renumbered-rows l m in let f = s.few in omega (arith, z, f)) t in
        rw s.row (rw q at (asks r s.within e M p))

    letter-way : (B : Exp → Bool) → Shuts shut R B r (renumbered l m) → (k : ℕ) → l ≤ k → k < l + size m → (M : List ℕ) → Good M
        → Goes Good (leave B k (star (renumbered l m)) stuck t) M (leave_m steps g (get_or y.places k 0) M)
    letter-way B c k a b M p =
        let o = renumbered-ordered l m in
        let z = renumbered-size l m in
        let d = letters-long (renumbered l m) in
        let (x, j, h) = counted_has l (letters (renumbered l m)) (ordered-counted l (renumbered l m) o) k a (omega (arith, b, z, d)) in
        let (e, q) = letter-leaves shut R threads place r (renumbered l m) s.held solid' s.top (numbered l (renumbered l m) o) B c x j steps
        (let u = renumbered-rows l m in let f = s.few in omega (arith, u, f)) t in
        rw (← h) (rw q at (leaves (place x.number) (rw h (s.letters_within k a b)) e M p))

    pub monitor-goes : (x : Positions) → MarksAre marks i (size m) l (shift_positions l x) → Shuts shut R (busy (active (shift_positions l x))) r (renumbered l m) → (M : List ℕ) → Good M
        → Goes Good (shift l (go m x t)) M (monitor_goes g y marks i M)
    unfolding monitor_goes go
    monitor-goes x h b M p =
        let c : letters_end y.firsts y.monitors y.letters i - get_or y.firsts i 0 ≡ size m
        = (let e = s.end in let f = s.first in omega (arith, e, f)) in
        subst (λ (a : Option (List ℕ)). Goes Good a M (monitor_goes g y marks i M)) (same (shift_positions l x) ∙ go-renumbered l m ordered x t)
        (rw (c, s.first)
        (both_go Good g t y.places y.own marks (go (renumbered l m) at_start) (λ k. leave (busy (active (shift_positions l x))) k (star (renumbered l m)) stuck) i (size m) l start-way (letter-way (busy (active (shift_positions l x))) b)
        (shift_positions l x) h M p))
      where
        same : (z : Positions) → go_by (go (renumbered l m) at_start) (λ k. leave (busy (active z)) k (star (renumbered l m)) stuck) z t ≡ go (renumbered l m) z t
        same at_start = refl
        same (on ns) = refl

-- the threads of each monitor are shut where they are busy, from row r and letter l on
unfoldable pub AllShut : (shut : ℕ → Bool) → Table → (r l : ℕ) → List Exp → List Positions → Type 0
AllShut shut R r l [] xs = Unit {0}
AllShut shut R r l (m ∷ ms) [] = Unit {0}
AllShut shut R r l (m ∷ ms) (x ∷ xs) = Shuts shut R (busy (active (shift_positions l x))) r (renumbered l m) × AllShut shut R (r + rows m) (l + size m) ms xs

-- all monitors, from number i, row r and letter l on
unfoldable pub AllStanding : Table → (places : List ℕ) → Layout → (n i r l : ℕ) → List Exp → Type 0
AllStanding R places y n i r l [] = Unit {0}
AllStanding R places y n i r l (m ∷ ms) = Standing R places y n i r l m × AllStanding R places y n (suc i) (r + rows m) (l + size m) ms

module _ (Good : List ℕ → Type 0) (g : Given) (t : Tick) (shut : ℕ → Bool) (R : Table) (threads : ThreadsShut shut R) (n : ℕ) (y : Layout) (marks : List ℕ)
    (asks : (r : ℕ) → r < n → AskEnds shut steps R r t → (M : List ℕ) → Good M → Goes Good (ask_row shut steps R r t) M (ask_m steps g r M))
    (leaves : (r : ℕ) → r < n → LeaveEnds shut steps R r t → (M : List ℕ) → Good M → Goes Good (leave_row shut steps R r t) M (leave_m steps g r M)) where
  pub all_go : (i r l : ℕ) (ms : List Exp) (xs : List Positions) → AllStanding R y.places y n i r l ms → ((m : Exp) → m ∈ ms → Ordered 0 m × Solid (star m))
      → MarksAll marks i l ms xs → AllShut shut R r l ms xs → AllGo Good g t y marks i l ms xs
  unfolding AllStanding MarksAll AllShut AllGo
  all_go i r l [] [] s o h b = tt
  all_go i r l [] (x ∷ xs) s o h b = absurd h
  all_go i r l (m ∷ ms) [] s o h b = absurd h
  all_go i r l (m ∷ ms) (x ∷ xs) s o h b = (
    monitor-goes Good g t shut R threads n y marks asks leaves i r l m s.0 (o m (here refl)).0 (o m (here refl)).1 x h.0 b.0,
    all_go (suc i) (r + rows m) (l + size m) ms xs s.1 (λ k j. o k (there j)) h.1 b.1,
  )

-- The rows that a tick touches, from where the machine stands: of a monitor at its start what asking it touches, of any other the sums over its positions; and they are no more than twice the rows.
use mathlib.Core.List.{List, [], ◌∷◌, ◌++◌}
use mathlib.Core.Bool.{Bool, true, false, cond, ◌||◌}
use mathlib.Core.Logic.{◌⊎◌, inl, inr}
use mathlib.Core.Option.{some, some-injective}
use mathlib.Core.Path.{◌≡◌, refl, sym, ap, ap₂, ◌∙◌, subst, fun_ext}
use Prim.Native.Nat.{ℕ, zero, suc, ◌+◌, ◌*◌, ◌≤◌}
use native.Mathlib.Omega.{arith}
use lib.Dec.{T, eqb, eqb→eq, eqb_refl}
use Rattle.meaning.specs.Lists.{◌∈◌, any, count, total, member, below}
use Rattle.meaning.specs.Expression.{Exp, letter, seq, alt, star, pipe, letters, rows, renumbered, Ordered}
use Rattle.meaning.specs.Fit.{Tick, met}
use Rattle.meaning.specs.Positions.{has, Positions, at_start, on}
use Rattle.meaning.specs.Touched.{is_asked, is_left, rows_in, touches, touched}
use Rattle.lexer.proofs.Bools.{or-false}
use Rattle.meaning.proofs.ListLaws.{map-∈, any-from, any-to}
use Rattle.meaning.proofs.Threads.{among-at, among-to}
use Rattle.meaning.proofs.Active.{then_some, positions_after}
use Rattle.meaning.proofs.Monitor.{Accepted, go_counted, same-member, positions-met}
use Rattle.meaning.proofs.Sets.{Alike}
use Rattle.meaning.proofs.Occupied.{one_single, steady-after}
use Rattle.meaning.proofs.Watch.{Tracked, AllAccepted}
use Rattle.meaning.proofs.Counting.{one, ends, tally, tally_after, asked_count, sums_after}
use Rattle.meaning.proofs.Touching.{touches-start, touches-met}
use Rattle.meaning.proofs.Tally.{tally-start, tally-met}
use Rattle.meaning.proofs.Shifted.{shift_letter, renumbered-shifted, letters-shifted, eqb-shifted}
use Rattle.meaning.proofs.CountingLaws.{after-shifted}
use Rattle.meaning.proofs.Levels.{sums-start, sums-met}

-- ---- where a machine stands ----

-- one monitor
abbrev pub count_at : Exp → Positions → ℕ
count_at m at_start = asked_count m
count_at m (on ns) = sums_after (λ n. member n ns) m

-- all of them
unfoldable pub counts_at : List Exp → List Positions → ℕ
counts_at [] xs = 0
counts_at (m ∷ ms) [] = 0
counts_at (m ∷ ms) (x ∷ xs) = count_at m x + counts_at ms xs

-- the first ticks and the last one, if there is any
last-tick : (ts : List Tick) → (ts ≡ []) ⊎ ((us : List Tick) × (t : Tick) × (ts ≡ us ++ t ∷ []))
last-tick [] = inl refl
last-tick (t ∷ ts) = inr (by (last-tick ts))
  where
    by : (ts ≡ []) ⊎ ((us : List Tick) × (u : Tick) × (ts ≡ us ++ u ∷ [])) → (us : List Tick) × (u : Tick) × (t ∷ ts ≡ us ++ u ∷ [])
    by (inl p) = ([], t, ap (λ l. t ∷ l) p)
    by (inr (us, u, p)) = (t ∷ us, u, ap (λ l. t ∷ l) p)

-- behind a tick there are positions
on-after : (m : Exp) (us : List Tick) (t : Tick) (x y : Positions) → positions_after (go_counted m) x (us ++ t ∷ []) ≡ some y → (ns : List ℕ) × (y ≡ on ns)
unfolding positions_after
on-after m [] t x y p = let (ns, a, b) = then_some (go_counted m x t) (λ ns. some (on ns)) y p in (ns, sym (some-injective (on ns) y b))
on-after m (u ∷ us) t x y p =
    let (ns, a, b) = then_some (go_counted m x u) (λ ns. positions_after (go_counted m) (on ns) (us ++ t ∷ [])) y p in
    on-after m us t (on ns) y b

module _ (m : Exp) (ac : Accepted m) where
  -- at the start
  start-counted : rows_in (rows m) (touches m []) ≡ asked_count m
  start-counted = ap (rows_in (rows m)) (touches-start m) ∙ tally-start m ∙ sums-start m ac.solid.1

  -- behind a tick, with the letters met at it as positions
  met-counted : (us : List Tick) (t : Tick) (ns : List ℕ) → positions_after (go_counted m) at_start (us ++ t ∷ []) ≡ some (on ns)
      → rows_in (rows m) (touches m (us ++ t ∷ [])) ≡ sums_after (λ n. member n ns) m
  met-counted us t ns p =
      let (inside, single) = steady-after m ac (us ++ t ∷ []) at_start (on ns) tt p in
      let same = positions-met m ac us t ns p in
      ap (rows_in (rows m)) (touches-met m ac.numbered us t)
      ∙ tally-met m ac.numbered (met m us t)
      (λ n i.
      let (k, j, e) = any-to (eqb n) ns (subst T (same n) (any-from (eqb n) i (eqb_refl n))) in
      let (l, h, q) = inside k j in
      among-at (letters m) n l h (q ∙ sym (eqb→eq n k e)))
      ∙ ap (λ act. tally_after act m) (fun_ext same)
      ∙ sums-met m ac.solid.1 ac.solid.0 ac.numbered ns single

  -- where the positions are the machine's, as a set
  pub one-counted : (ts : List Tick) (x y : Positions) → positions_after (go_counted m) at_start ts ≡ some y → Alike x y → rows_in (rows m) (touches m ts) ≡ count_at m x
  unfolding positions_after
  one-counted ts x y p a = by (last-tick ts)
    where
      start : (x y : Positions) → at_start ≡ y → Alike x y → asked_count m ≡ count_at m x
      start at_start y q a = refl
      start (on ns) y q a = absurd (subst (Alike (on ns)) (sym q) a)

      alike : (x : Positions) (ns : List ℕ) → Alike x (on ns) → sums_after (λ n. member n ns) m ≡ count_at m x
      alike at_start ns a = absurd a
      alike (on ks) ns a = ap (λ act. sums_after act m) (fun_ext (same-member ns ks a.1 a.0))

      by : (ts ≡ []) ⊎ ((us : List Tick) × (t : Tick) × (ts ≡ us ++ t ∷ [])) → rows_in (rows m) (touches m ts) ≡ count_at m x
      by (inl e) =
          ap (λ l. rows_in (rows m) (touches m l)) e ∙ start-counted
          ∙ start x y (some-injective at_start y (subst (λ l. positions_after (go_counted m) at_start l ≡ some y) e p)) a
      by (inr (us, t, e)) =
          let q = subst (λ l. positions_after (go_counted m) at_start l ≡ some y) e p in
          let (ns, r) = on-after m us t at_start y q in
          ap (λ l. rows_in (rows m) (touches m l)) e
          ∙ met-counted us t ns (q ∙ ap some r)
          ∙ alike x ns (subst (Alike x) r a)

pub touched-tracked : (ms : List Exp) → AllAccepted ms → (ts : List Tick) (xs : List Positions) → Tracked ms ts xs → touched ms ts ≡ counts_at ms xs
unfolding counts_at
touched-tracked [] ac ts [] h = refl
touched-tracked [] ac ts (x ∷ xs) h = absurd h
touched-tracked (m ∷ ms) ac ts [] h = absurd h
touched-tracked (m ∷ ms) ac ts (x ∷ xs) h =
    let (y, p, a) = h.0 in
    ap₂ ◌+◌ (one-counted m ac.0 ts x y p a) (touched-tracked ms ac.1 ts xs h.1)

-- ---- twice the rows ----

two : (a b : Bool) → one a + one b ≤ 2
two true true = omega arith
two true false = omega arith
two false true = omega arith
two false false = omega arith

at_most : (p : ℕ → Bool) (n : ℕ) → count p (below n) ≤ n
at_most p zero = omega arith
at_most p (suc n) = by (p n) (at_most p n)
  where
    by : (b : Bool) → count p (below n) ≤ n → cond b 1 0 + count p (below n) ≤ suc n
    by true h = omega (arith, h)
    by false h = omega (arith, h)

-- F26: "never above twice the rows"
pub touched-most : (ms : List Exp) (ts : List Tick) → touched ms ts ≤ 2 * total rows ms
touched-most [] ts = omega arith
touched-most (m ∷ ms) ts =
    let a = at_most (λ r. any (is_asked r) (touches m ts)) (rows m) in
    let b = at_most (λ r. any (is_left r) (touches m ts)) (rows m) in
    let c = touched-most ms ts in
    omega (arith, a, b, c)

-- ---- one letter alone ----

tally-most : (act : ℕ → Bool) (e : Exp) (a : Bool) → tally act e a ≤ 2 * rows e
unfolding tally rows
tally-most act (letter l) a = two a (act l.number)
tally-most act (seq e f) a = let x = two a (ends act (seq e f) a) in let y = tally-most act e a in let z = tally-most act f (ends act e a) in omega (arith, x, y, z)
tally-most act (alt e f) a = let x = two a (ends act (alt e f) a) in let y = tally-most act e a in let z = tally-most act f a in omega (arith, x, y, z)
tally-most act (star e) a = let x = two a (ends act (star e) a) in let y = tally-most act e (a || ends act e a) in omega (arith, x, y)
tally-most act (pipe e f) a = let x = two a (ends act (pipe e f) a) in let y = tally-most act e a in let z = tally-most act f (ends act e a) in omega (arith, x, y, z)

-- so what follows one letter is no more than twice the rows, wherever its monitor's numbers begin
alone-most : (m : Exp) → Accepted m → (n : ℕ) → sums_after (λ k. eqb k n) m ≤ 2 * rows m
alone-most m ac n =
    let e : ◌≡◌ {A = ℕ → Bool} (λ k. member k (n ∷ [])) (λ k. eqb k n) = fun_ext (λ k. or-false (eqb k n)) in
    let h = tally-most (λ k. member k (n ∷ [])) m (ends (λ k. member k (n ∷ [])) m false) in
    let q = sums-met m ac.solid.1 ac.solid.0 ac.numbered (n ∷ []) (one_single m n) in
    subst (λ act. sums_after act m ≤ 2 * rows m) e (omega (arith, h, q))

pub alone-most-from : (l : ℕ) (m : Exp) → Ordered 0 m → Accepted m → (n : ℕ) → T (has n (renumbered l m)) → sums_after (λ k. eqb k n) (renumbered l m) ≤ 2 * rows m
alone-most-from l m o ac n h =
    let s = renumbered-shifted l l 0 m (omega arith) o in
    let (x, i, p) = among-to (letters (renumbered l m)) n h in
    let (y, j, q) = map-∈ (shift_letter l) (letters m) (subst (λ ls. x ∈ ls) (ap letters s ∙ letters-shifted l m) i) in
    let d : n ≡ l + y.number = sym p ∙ ap (λ z. z.number) (sym q) in
    let b = alone-most m ac y.number in
    subst (λ (z : ℕ). z ≤ 2 * rows m)
    (sym (ap (sums_after (λ k. eqb k n)) s ∙ after-shifted l (λ k. eqb k n) m
    ∙ ap (λ act. sums_after act m) (fun_ext (λ k. ap (eqb (l + k)) d ∙ eqb-shifted l k y.number)))) b

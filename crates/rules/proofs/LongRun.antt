-- The monitors one by one, and rule 8: the letters are summed up to the first monitor that passes the limit. Assumes nothing.
use mathlib.Core.Path.{◌≡◌, refl, ◌∙◌, ap}
use Rattle.std.specs.Prelude.{Some, None}
use mathlib.Core.Bool.{Bool, true, false, cond}
use mathlib.Core.List.{List, [], ◌∷◌}
use Prim.Native.Nat.{ℕ, suc, ◌+◌, ◌<◌, ◌≤◌}
use native.Mathlib.Numerals.{add-one}
use native.Mathlib.Omega.{arith}
use lib.Dec.{ltb}
use lib.ListN.{length, get_or, take}
use lib.Seq.{get_or-take, length-take-le}
use borrow.Author.Tests.{lt-ltb, le-ltb}
use Rattle.meaning.specs.Lists.{total}
use Rattle.meaning.specs.Answers.{Answer, refused, letter_of}
use Rattle.meaning.specs.Expression.{Exp, size}
use Rattle.meaning.specs.Opening.{Opened, too_long}
use Rattle.words.specs.Words.{part0}
use Rattle.rules.specs.Cells.{at, ProductionAt}
use Rattle.rules.specs.Monitors.{Listed, MonitorsAre, SomeMonitors, FewLetters, FirstLong}

-- ---- the monitors that are still ahead

pub record Ahead (P : List ℕ) (c : ℕ) (M : List ℕ) (count i : ℕ) (rest : List Exp) : Type 0 where
  pub cells : Listed P c M i rest
  pub number : i + length rest ≡ count

-- the first of them, and those behind it
pub record Next (P : List ℕ) (c : ℕ) (M : List ℕ) (count i : ℕ) (rest : List Exp) : Type 0 where
  pub monitor : Exp
  pub others : List Exp
  pub split : rest ≡ monitor ∷ others
  pub production : ProductionAt P c (get_or M i 0) monitor
  pub ahead : Ahead P c M count (i + 1) others

module _ {P : List ℕ} {c : ℕ} {M : List ℕ} {count : ℕ} where
  pub all-ahead : {ms : List Exp} → MonitorsAre P c M count ms → Ahead P c M count 0 ms
  all-ahead w = record { cells = w.cells; number = omega (arith, w.number) }

  pub next-ahead : (i : ℕ) (rest : List Exp) → Ahead P c M count i rest → i < count → Next P c M count i rest
  unfolding Listed
  next-ahead i [] a l = absurd (omega (arith, a.number))
  next-ahead i (m ∷ ms) a l = record {
    monitor = m;
    others = ms;
    split = refl;
    production = a.cells.0;
    ahead = record { cells = rw (add-one i) a.cells.1; number = omega (arith, a.number) };
  }

  pub none_ahead : (i : ℕ) (rest : List Exp) → Ahead P c M count i rest → (i < count → ⊥) → rest ≡ []
  none_ahead i [] a l = refl
  none_ahead i (m ∷ ms) a l = absurd (l (omega (arith, a.number)))

-- the first cells of a longer list
module _ (P : List ℕ) (c : ℕ) (M : List ℕ) (count : ℕ) where
  listed-front : (i : ℕ) (ms : List Exp) → i + length ms ≤ count → Listed P c M i ms → Listed P c (take count M) i ms
  unfolding Listed
  listed-front i [] l a = tt
  listed-front i (m ∷ ms) l a =
      let g = get_or-take count M i 0 (omega arith) in
      (rw g a.0, listed-front (suc i) ms (omega arith) a.1)

  pub front-monitors : count ≤ length M → {ms : List Exp} → MonitorsAre P c M count ms → MonitorsAre P c (take count M) (length (take count M)) ms
  front-monitors l {ms} w =
      let g = length-take-le count M l in
      rw g
      (record { within = w.within; number = w.number; few = w.few; cells = listed-front 0 ms (omega (arith, w.number)) w.cells })

module _ (P M : List ℕ) (count : ℕ) (l : count ≤ length M) where
  pub front-some : SomeMonitors P M count → SomeMonitors P (take count M) (length (take count M))
  front-some (c, ms, w) = (c, ms, front-monitors P c M count l w)

  pub front-few : FewLetters P M count → FewLetters P (take count M) (length (take count M))
  front-few (c, ms, w, s) = (c, ms, front-monitors P c M count l w, s)

-- ---- rule 8

-- the monitors before number i have so many letters, and passed no limit
pub record Summed (P : List ℕ) (c : ℕ) (M : List ℕ) (count : ℕ) (ms : List Exp) (i sum : ℕ) : Type 0 where
  pub rest : List Exp
  pub ahead : Ahead P c M count i rest
  pub same : (o : Answer Opened) → too_long 0 0 ms o ≡ too_long i sum rest o
  pub sums : sum + total size rest ≡ total size ms

-- whatever monitors there are
abbrev pub AllSummed : (P M : List ℕ) → (count i sum : ℕ) → Type 0
AllSummed P M count i sum = (c : ℕ) → (ms : List Exp) → MonitorsAre P c M count ms → Summed P c M count ms i sum

module _ (P M : List ℕ) (count : ℕ) where
  pub summed-start : AllSummed P M count 0 0
  summed-start c ms w = record { rest = ms; ahead = all-ahead w; same = λ o. refl; sums = omega arith }

  module _ (i sum : ℕ) (a : AllSummed P M count i sum) where
    pub next-cell : SomeMonitors P M count → i < count → get_or M i 0 + 2 < length P
    next-cell (c, ms, w) l =
        let s = a c ms w in
        let n = next-ahead i s.rest s.ahead l in
        omega (arith, n.production.used, w.within)

    pub summed-end : (i < count → ⊥) → (c : ℕ) → (ms : List Exp) → MonitorsAre P c M count ms → sum ≤ 256 → FirstLong ms None
    unfolding FirstLong too_long
    summed-end l c ms w b =
        let s = a c ms w in
        let e = none_ahead i s.rest s.ahead l in
        let t : total size s.rest ≡ 0 = ap (total size) e in
        (omega (arith, s.sums), λ o. s.same o ∙ ap (λ (x : List Exp). too_long i sum x o) e)

    module _ (k : ℕ) (q : k ≡ part0 (at P (get_or M i 0 + 2))) (l : i < count) where
      -- the next monitor is counted
      asked : (c : ℕ) (ms : List Exp) (w : MonitorsAre P c M count ms) (n : Next P c M count i (a c ms w).rest) (b : Bool) → ltb 256 (sum + size n.monitor) ≡ b
          → (o : Answer Opened) → too_long 0 0 ms o ≡ cond b (refused 8 (letter_of i 0)) (too_long (suc i) (sum + size n.monitor) n.others o)
      unfolding too_long
      asked c ms w n b e o =
          (a c ms w).same o ∙ ap (λ (x : List Exp). too_long i sum x o) n.split
          ∙ ap (λ (t : Bool). cond t (refused 8 (letter_of i 0)) (too_long (suc i) (sum + size n.monitor) n.others o)) e

      pub over : 256 < sum + k → (c : ℕ) → (ms : List Exp) → MonitorsAre P c M count ms → FirstLong ms (Some i)
      unfolding FirstLong
      over b c ms w =
          let s = a c ms w in
          let n = next-ahead i s.rest s.ahead l in
          let h = lt-ltb 256 (sum + size n.monitor) (omega (arith, n.production.letters)) in
          asked c ms w n true h

      pub summed-next : (256 < sum + k → ⊥) → AllSummed P M count (i + 1) (sum + k)
      summed-next b c ms w =
          let s = a c ms w in
          let n = next-ahead i s.rest s.ahead l in
          let e : size n.monitor ≡ k = omega (arith, n.production.letters) in
          let h = le-ltb 256 (sum + size n.monitor) (omega arith) in
          let t : total size s.rest ≡ size n.monitor + total size n.others = ap (total size) n.split in
          record { rest = n.others; ahead = n.ahead; same = λ o. asked c ms w n false h o ∙ rw (e, add-one i); sums = omega (arith, s.sums) }

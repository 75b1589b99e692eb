-- Before tick 0: the marks of a newly opened watch are the monitors' starts. Assumes nothing.
use mathlib.Core.Path.{◌≡◌, refl, sym, ap, ap₂, ◌∙◌}
use mathlib.Core.Bool.{Bool, cond}
use mathlib.Core.List.{List, [], ◌∷◌, ◌++◌, map}
use Prim.Native.Nat.{ℕ, zero, suc, ◌+◌, ◌<◌, ◌≤◌}
use native.Mathlib.Omega.{arith}
use borrow.Author.Tests.{eq-eqb, ne_eqb}
use lib.ListN.{length, get_or, get_or-append, take, drop, replicate, length-replicate, get_or-replicate}
use lib.Seq.{sets, sets-eq, length-take-le, get_or-take, get_or-append-add}
use Rattle.meaning.specs.Lists.{total}
use Rattle.meaning.specs.Expression.{Exp, size}
use Rattle.meaning.specs.Positions.{at_start}
use Rattle.monitor.proofs.Going.{marked_from}
use Rattle.monitor.proofs.Most.{AllMost, replicate-most, sets-most}
use Rattle.monitor.proofs.Moves.{MarksAll}
use Rattle.monitor.proofs.Padded.{zeros-at}

none_from : (K : List ℕ) (n l : ℕ) → l + n ≤ 256 → ((k : ℕ) → k < 256 → get_or K k 0 ≡ 0) → marked_from K n l ≡ []
unfolding marked_from
none_from K zero l h z = refl
none_from K (suc n) l h z =
    ap (λ (b : Bool). cond b (marked_from K n (suc l)) (l ∷ marked_from K n (suc l))) (eq-eqb (get_or K l 0) 0 (z l (omega (arith, h)))) ∙ none_from K n (suc l) (omega (arith, h)) z

all_start : (K : List ℕ) (i l : ℕ) (ms : List Exp) → l + total size ms ≤ 256 → ((k : ℕ) → k < 256 → get_or K k 0 ≡ 0) → ((k : ℕ) → i ≤ k → k < i + length ms → get_or K (256 + k) 0 ≡ 1)
    → MarksAll K i l ms (map (λ m. at_start) ms)
unfolding MarksAll
all_start K i l [] h z o = tt
all_start K i l (m ∷ ms) h z o = (
  (let p = o i (omega arith) (omega arith) in ne_eqb (get_or K (256 + i) 0) 0 (λ q. absurd (omega (arith, p, q))), none_from K (size m) l (omega (arith, h)) z),
  all_start K (suc i) (l + size m) ms (omega (arith, h)) z (λ k u v. o k (omega arith) (omega (arith, v))),
)

abbrev zeros : List ℕ
zeros = replicate 288 0

abbrev ones : ℕ → List ℕ
ones c = replicate c 1

module _ (c : ℕ) (few : c ≤ 32) where
  abbrev first : List ℕ
  first = sets zeros 256 (ones c)

  abbrev rest : List ℕ
  rest = ones c ++ drop (256 + length (ones c)) zeros

  as-list : first ≡ take 256 zeros ++ rest
  as-list = let a = length-replicate {A = ℕ} 288 0 in let b = length-replicate {A = ℕ} c 1 in sets-eq (ones c) zeros 256 (omega (arith, a, b, few))

  front_long : length (take 256 zeros) ≡ 256
  front_long = let a = length-replicate {A = ℕ} 288 0 in length-take-le {A = ℕ} 256 zeros (omega (arith, a))

  letter-unmarked : (k : ℕ) → k < 256 → get_or first k 0 ≡ 0
  letter-unmarked k h =
      let f = front_long in
      ap (λ (z : List ℕ). get_or z k 0) as-list ∙ get_or-append (take 256 zeros) rest 0 k (omega (arith, f, h)) ∙ get_or-take 256 zeros k 0 h ∙ zeros-at 288 k

  start-marked : (k : ℕ) → k < c → get_or first (256 + k) 0 ≡ 1
  start-marked k h =
      let b = length-replicate {A = ℕ} c 1 in
      ap₂ (λ (z : List ℕ) (j : ℕ). get_or z (j + k) 0) as-list (sym front_long)
      ∙ get_or-append-add (take 256 zeros) rest k 0
      ∙ get_or-append (ones c) (drop (256 + length (ones c)) zeros) 0 k (omega (arith, b, h)) ∙ get_or-replicate c k 1 0 h

  pub starts : (ms : List Exp) → length ms ≡ c → total size ms ≤ 256 → MarksAll first 0 0 ms (map (λ m. at_start) ms)
  starts ms e h = all_start first 0 0 ms (omega (arith, h)) letter-unmarked (λ k u v. start-marked k (omega (arith, v, e)))

-- each of them is 0 or 1
pub start-bits : (c : ℕ) → AllMost 1 (sets zeros 256 (ones c))
start-bits c = sets-most (ones c) zeros 256 (replicate-most 288 0 (omega arith)) (replicate-most c 1 (omega arith))

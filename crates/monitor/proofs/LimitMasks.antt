-- A tick's mask: its bit k says whether the tick counts for limit k. Assumes nothing.
use mathlib.Core.Path.{◌≡◌, refl, sym, ap, ap₂, ◌∙◌}
use mathlib.Core.Bool.{Bool, true, false, not, cond, ◌&&◌, ◌||◌, or_assoc, or-false, and_comm}
use mathlib.Core.List.{List, [], ◌∷◌, ◌++◌}
use Prim.Native.Nat.{ℕ, zero, suc, ◌+◌, ◌*◌, ◌/◌, ◌%◌, ◌^◌, ◌<◌, ◌≤◌}
use native.Mathlib.Nat.{pow-succ', div-div-eq-div-mul}
use native.Mathlib.Omega.{arith}
use lib.Dec.{eqb}
use lib.ListN.{length, get_or}
use Rattle.meaning.specs.Lists.{◌∈◌, any, total, member}
use Rattle.meaning.specs.Expression.{Letter, Exp, letters, size, Ordered}
use Rattle.meaning.specs.Names.{Limit}
use Rattle.meaning.specs.Fit.{Tick, met}
use Rattle.meaning.specs.Limits.{counts_at}
use Rattle.meaning.specs.Positions.{kept_each}
use Rattle.meaning.proofs.ListLaws.{here, there}
use Rattle.meaning.proofs.Monitor.{Accepted}
use Rattle.meaning.proofs.Numbering.{between}
use Rattle.meaning.proofs.Watch.{Tracked}
use Rattle.windows.specs.Windows.{bit_of, met_mask, some_met}
use Rattle.windows.proofs.Right.{mask-bit}
use Rattle.rules.specs.Cells.{flag}
use Rattle.rules.specs.Watches.{limit_mask}
use Rattle.rules.proofs.Limited.{CountedFrom}
use Rattle.rules.proofs.Placing.{letters-long}
use Rattle.monitor.proofs.Moves.{Counted, ordered-counted, MarksAll}
use Rattle.monitor.proofs.LetterTotals.{marked-met}

-- limit k of the list; there is one where k is below its length
abbrev pub limit_at : List Limit → (k : ℕ) → Limit
limit_at ls k = get_or ls k (record { production = 0; most = 0; window = 1 })

-- as a bit
abbrev pub digit : Bool → ℕ
digit b = cond b 1 0

-- bit k of x says, for each limit k, whether the tick t behind the ticks ts counts for it
abbrev pub Bits : List Limit → List Exp → (ts : List Tick) → Tick → (x : ℕ) → Type 0
Bits ls ms ts t x = (k : ℕ) → k < length ls → bit_of k x ≡ digit (counts_at (limit_at ls k).production ms ts t)

-- ---- the limits that count a letter

low_bit : (b : Bool) (n : ℕ) → eqb (bit_of 0 (flag b + 2 * n)) 1 ≡ b
low_bit true n = let e : (1 + 2 * n) / 1 % 2 ≡ 1 = omega arith in ap (λ (k : ℕ). eqb k 1) e
low_bit false n = let e : (0 + 2 * n) / 1 % 2 ≡ 0 = omega arith in ap (λ (k : ℕ). eqb k 1) e

next_bit : (b : Bool) (n k : ℕ) → bit_of (suc k) (flag b + 2 * n) ≡ bit_of k n
next_bit b n k =
    ap (λ (d : ℕ). (flag b + 2 * n) / d % 2) (pow-succ' 2 k)
    ∙ ap (λ (m : ℕ). m % 2) (sym (div-div-eq-div-mul (flag b + 2 * n) 2 (2 ^ k)) ∙ ap (λ (m : ℕ). m / 2 ^ k) (half b))
  where
    half : (c : Bool) → (flag c + 2 * n) / 2 ≡ n
    half true = omega arith
    half false = omega arith

limit-bit : (ls : List Limit) (x : Letter) (k : ℕ) → k < length ls → eqb (bit_of k (limit_mask ls x)) 1 ≡ member (limit_at ls k).production x.through
unfolding limit_mask
limit-bit [] x k h = absurd (omega arith)
limit-bit (l ∷ ls) x zero h = low_bit (member l.production x.through) (limit_mask ls x)
limit-bit (l ∷ ls) x (suc k) h = ap (λ (n : ℕ). eqb n 1) (next_bit (member l.production x.through) (limit_mask ls x) k) ∙ limit-bit ls x k (omega arith)

-- ---- the letters met that they count

-- M: the memory of the tick; C: for each letter, the mask of the limits that count it
module _ (M C : List ℕ) (k : ℕ) where
  -- letter i is met and counted by limit k
  abbrev brings : (i : ℕ) → Bool
  brings i = not (eqb (get_or M (1024 + i) 0) 0) && eqb (bit_of k (get_or C i 0)) 1

  letters-some : (f : Letter → Bool) (l j : ℕ) (xs : List Letter) → Counted j xs → ((x : Letter) → x ∈ xs → brings (l + x.number) ≡ f x)
      → some_met M C k (l + j + length xs) ≡ (some_met M C k (l + j) || any f xs)
  unfolding some_met
  letters-some f l j [] c h = let e : l + j + 0 ≡ l + j = omega arith in ap (some_met M C k) e ∙ sym (or-false (some_met M C k (l + j)))
  letters-some f l j (x ∷ xs) c h =
      let e : l + j + suc (length xs) ≡ l + suc j + length xs = omega arith in
      let d : l + suc j ≡ suc (l + j) = omega arith in
      ap (some_met M C k) e ∙ letters-some f l (suc j) xs c.1 (λ y i. h y (there i))
      ∙ ap (λ (n : ℕ). some_met M C k n || any f xs) d
      ∙ ap (λ (b : Bool). (some_met M C k (l + j) || b) || any f xs) (ap (λ (n : ℕ). brings (l + n)) (sym c.0) ∙ h x (here refl))
      ∙ or_assoc (some_met M C k (l + j)) (f x) (any f xs)

-- the tick t behind the ticks ts left the marks K, which are those of the memory
module _ (M C K : List ℕ) (same : (i : ℕ) → i < 256 → get_or K i 0 ≡ get_or M (1024 + i) 0) (ls : List Limit) (ts : List Tick) (t : Tick) (k : ℕ) (few : k < length ls) where
  -- letter x of the monitor m is met and came through the production of limit k
  abbrev comes : Exp → Letter → Bool
  comes m x = member (limit_at ls k).production x.through && member x.number (met m ts t)

  monitor-some : (l : ℕ) (m : Exp) → Ordered 0 m → ((x : Letter) → x ∈ letters m → not (eqb (get_or M (1024 + (l + x.number)) 0) 0) ≡ member x.number (met m ts t))
      → ((x : Letter) → x ∈ letters m → get_or C (l + x.number) 0 ≡ limit_mask ls x) → some_met M C k (l + size m) ≡ (some_met M C k l || any (comes m) (letters m))
  monitor-some l m o h d =
      let e : l + size m ≡ l + 0 + length (letters m) = (let s = letters-long m in omega (arith, s)) in
      let z : l + 0 ≡ l = omega arith in
      ap (some_met M C k) e
      ∙ letters-some M C k (comes m) l 0 (letters m) (ordered-counted 0 m o)
      (λ x i.
      ap₂ ◌&&◌ (h x i) (ap (λ (n : ℕ). eqb (bit_of k n) 1) (d x i) ∙ limit-bit ls x k few)
      ∙ and_comm (member x.number (met m ts t)) (member (limit_at ls k).production x.through))
      ∙ ap (λ (n : ℕ). some_met M C k n || any (comes m) (letters m)) z

  all-some : (i l : ℕ) (ms : List Exp) (nss : List (List ℕ)) → l + total size ms ≤ 256 → ((m : Exp) → m ∈ ms → Ordered 0 m × Accepted m) → MarksAll K i l ms (kept_each ms nss)
      → Tracked ms (ts ++ t ∷ []) (kept_each ms nss) → CountedFrom C ls l ms → some_met M C k (l + total size ms) ≡ (some_met M C k l || counts_at (limit_at ls k).production ms ts t)
  unfolding counts_at MarksAll kept_each
  all-some i l [] nss room o h r d = let e : l + 0 ≡ l = omega arith in ap (some_met M C k) e ∙ sym (or-false (some_met M C k l))
  all-some i l (m ∷ ms) [] room o h r d = absurd h
  all-some i l (m ∷ ms) (ns ∷ nss) room o h r d =
      let (y, p, a) = r.0 in
      let (q, ac) = o m (here refl) in
      let e : l + (size m + total size ms) ≡ l + size m + total size ms = omega arith in
      ap (some_met M C k) e
      ∙ all-some (suc i) (l + size m) ms nss (omega arith) (λ n j. o n (there j)) h.1 r.1 d.1
      ∙ ap (λ (b : Bool). b || counts_at (limit_at ls k).production ms ts t)
      (monitor-some l m q
      (λ x j.
      let (_, b) = between 0 m q x j in
      ap (λ (n : ℕ). not (eqb n 0)) (sym (same (l + x.number) (omega (arith, b, room)))) ∙ marked-met K ts t l m q ac _ h.0.1 y p a x j)
      d.0)
      ∙ or_assoc (some_met M C k l) (any (comes m) (letters m)) (counts_at (limit_at ls k).production ms ts t)

  pub mask-right : (ms : List Exp) (nss : List (List ℕ)) → total size ms ≤ 256 → ((m : Exp) → m ∈ ms → Ordered 0 m × Accepted m) → MarksAll K 0 0 ms (kept_each ms nss)
      → Tracked ms (ts ++ t ∷ []) (kept_each ms nss) → CountedFrom C ls 0 ms → bit_of k (met_mask M C (total size ms)) ≡ digit (counts_at (limit_at ls k).production ms ts t)
  unfolding some_met
  mask-right ms nss room o h r d =
      let e : total size ms ≡ 0 + total size ms = omega arith in
      mask-bit M C k (total size ms) ∙ ap digit (ap (some_met M C k) e ∙ all-some 0 0 ms nss (omega arith) o h r d)

-- Turns of the loops that read and store a watch's state. Assumes nothing.
use Rattle.std.proofs.Common.{◌≡◌, sym, ap, ◌∙◌, List, [], ◌∷◌, ◌++◌, ℕ, zero, suc, ◌+◌, ◌-◌, ◌*◌, ◌/◌, ◌<◌, ◌≤◌, length, get_or, take, drop, append_assoc, arith}
use Rattle.std.proofs.Math.ListN.{set, replicate}
use Rattle.std.proofs.Math.Seq.{sets, sets-eq}
use Rattle.std.proofs.lemmas.List.{take-append-drop, take_more, drop_more, set_at, places}
use borrow.Author.Rules.{rules}
use Rattle.std.specs.Int.{w64, to_le_bytes}
use borrow.Rule.Slice.PartMut.{put_mid, Post-is}
use borrow.Author.Tests.{ne_eqb}
use Rattle.lexer.proofs.Bools.{left}
use Rattle.words.specs.Words.{part1}
use Rattle.monitor.specs.Ticks.{each_marked}
use Rattle.monitor.specs.Limited.{unlimited}
use Rattle.monitor.proofs.TickSteps.{done_none}
use Rattle.live.specs.State.{stored, byte_of, joined, one_more, with_totals, windows_from, limitless, windows_in, gather, with_windows}

-- ---- marks

module _ (M : List ℕ) (x i : ℕ) where
  -- a word's bytes stored one behind the other, and as a part
  bytes-set : sets M i (to_le_bytes w64 x) ≡ stored (λ j. byte_of j x) i 8 M
  unfolding stored byte_of
  bytes-set =
      let q₀ : i ≡ i + 0 = omega arith in
      let q₁ : suc i ≡ i + 1 = omega arith in
      let q₂ : suc (suc i) ≡ i + 2 = omega arith in
      let q₃ : suc (suc (suc i)) ≡ i + 3 = omega arith in
      let q₄ : suc (suc (suc (suc i))) ≡ i + 4 = omega arith in
      let q₅ : suc (suc (suc (suc (suc i)))) ≡ i + 5 = omega arith in
      let q₆ : suc (suc (suc (suc (suc (suc i))))) ≡ i + 6 = omega arith in
      let q₇ : suc (suc (suc (suc (suc (suc (suc i)))))) ≡ i + 7 = omega arith in
      let e₂ : x / 65536 ≡ x / 256 / 256 = omega arith in
      let e₃ : x / 16777216 ≡ x / 256 / 256 / 256 = omega arith in
      let e₄ : x / 4294967296 ≡ x / 256 / 256 / 256 / 256 = omega arith in
      let e₅ : x / 1099511627776 ≡ x / 256 / 256 / 256 / 256 / 256 = omega arith in
      let e₆ : x / 281474976710656 ≡ x / 256 / 256 / 256 / 256 / 256 / 256 = omega arith in
      let e₇ : x / 72057594037927936 ≡ x / 256 / 256 / 256 / 256 / 256 / 256 / 256 = omega arith in
      cc

  pub bytes-put : i + 7 < length M → put_mid i (i + 8 - i) M (to_le_bytes w64 x) ≡ stored (λ j. byte_of j x) i 8 M
  bytes-put h =
      let p : put_mid i (i + 8 - i) M (to_le_bytes w64 x) ≡ take i M ++ (to_le_bytes w64 x ++ drop (i + 8) M) = ap (λ (t : List ℕ). take i M ++ (to_le_bytes w64 x ++ t)) (Post-is i (i + 8) M (omega arith)) in
      let q : sets M i (to_le_bytes w64 x) ≡ take i M ++ (to_le_bytes w64 x ++ drop (i + 8) M) = sets-eq (to_le_bytes w64 x) M i (omega (arith, h)) ∙ append_assoc (take i M) (to_le_bytes w64 x) (drop (i + 8) M) in
      p ∙ sym q ∙ bytes-set

-- ---- store values

-- numbers stored one behind the other, and as a part
pub part-stored : (f : ℕ → ℕ) (k n : ℕ) (S ys : List ℕ) → n ≤ length ys → k + n ≤ length S → ((j : ℕ) → j < n → get_or ys j 0 ≡ f j) → take k S ++ (take n ys ++ drop (k + n) S) ≡ stored f k n S
unfolding stored
part-stored f k zero S ys h l e = let q : k + 0 ≡ k = omega arith in rw q (take-append-drop k S)
part-stored f k (suc n) S ys h l e =
    let q : k + suc n ≡ k + n + 1 = omega arith in
    let u : suc n ≡ n + 1 = omega arith in
    let long : length (take k S ++ take n ys) ≡ k + n = search (rules, places) in
    let d : drop (k + n) S ≡ get_or S (k + n) 0 ∷ drop (k + n + 1) S = drop_more S (k + n) 0 (omega (arith, l)) in
    let t : take (n + 1) ys ≡ take n ys ++ get_or ys n 0 ∷ [] = take_more ys n 0 (omega (arith, h)) in
    let s : set ((take k S ++ take n ys) ++ get_or S (k + n) 0 ∷ drop (k + n + 1) S) (k + n) (f n) ≡ (take k S ++ take n ys) ++ f n ∷ drop (k + n + 1) S = set_at (take k S ++ take n ys) (get_or S (k + n) 0) (drop (k + n + 1) S) (f n) (k + n) long in
    let r : take k S ++ (take n ys ++ drop (k + n) S) ≡ stored f k n S = part-stored f k n S ys (omega (arith, h)) (omega (arith, l)) (λ j b. e j (omega (arith, b))) in
    let v : get_or ys n 0 ≡ f n = e n (omega arith) in
    let w : take k S ++ (take n ys ++ drop (k + n) S) ≡ (take k S ++ take n ys) ++ drop (k + n) S = sym (append_assoc (take k S) (take n ys) (drop (k + n) S)) in
    let a₁ : take k S ++ (take (n + 1) ys ++ drop (k + n + 1) S) ≡ (take k S ++ take n ys) ++ f n ∷ drop (k + n + 1) S =
    ap (λ (z : List ℕ). take k S ++ (z ++ drop (k + n + 1) S)) t
    ∙ ap (λ (z : List ℕ). take k S ++ z) (append_assoc (take n ys) (get_or ys n 0 ∷ []) (drop (k + n + 1) S))
    ∙ sym (append_assoc (take k S) (take n ys) (get_or ys n 0 ∷ drop (k + n + 1) S))
    ∙ ap (λ (z : ℕ). (take k S ++ take n ys) ++ z ∷ drop (k + n + 1) S) v in
    let a₂ : set ((take k S ++ take n ys) ++ get_or S (k + n) 0 ∷ drop (k + n + 1) S) (k + n) (f n) ≡ set (stored f k n S) (k + n) (f n) =
    ap (λ (z : List ℕ). set z (k + n) (f n)) (ap (λ (z : List ℕ). (take k S ++ take n ys) ++ z) (sym d) ∙ sym w ∙ r) in
    rw (q, u) (a₁ ∙ sym s ∙ a₂)

-- ---- how often letters were met

first-zero : (a r : ℕ) → a + 256 * r ≡ 0 → a ≡ 0
first-zero a r z = omega (arith, z)

rest-zero : (a r : ℕ) → a + 256 * r ≡ 0 → r ≡ 0
rest-zero a r z = omega (arith, z)

joined-zero : (n : ℕ) (K : List ℕ) (i : ℕ) → joined n K i ≡ 0 → (j : ℕ) → j < n → get_or K (i + j) 0 ≡ 0
unfolding joined
joined-zero zero K i z j h = absurd (omega arith)
joined-zero (suc n) K i z zero h = let e : i + 0 ≡ i = omega arith in ap (λ (k : ℕ). get_or K k 0) e ∙ first-zero (get_or K i 0) (joined n K (suc i)) z
joined-zero (suc n) K i z (suc j) h =
    let e : i + suc j ≡ suc i + j = omega arith in
    ap (λ (k : ℕ). get_or K k 0) e ∙ joined-zero n K (suc i) (rest-zero (get_or K i 0) (joined n K (suc i)) z) j (omega (arith, h))

-- eight letters of which none is marked
pub none-counted : (K S : List ℕ) (l x : ℕ) → x ≡ joined 8 K l → x ≡ 0 → S ≡ each_marked K one_more 8 l S
unfolding each_marked
none-counted K S l x e z =
    let d : l + 8 - l ≡ 8 = omega arith in
    let n : l + 8 - (l + 8) ≡ 0 = omega arith in
    sym (ap (λ (m : ℕ). each_marked K one_more m l S) (sym d) ∙ done_none K one_more 8 (l + 8) l S (omega arith) (joined-zero 8 K l (sym e ∙ z)) ∙ ap (λ (m : ℕ). each_marked K one_more m (l + 8) S) n)

pub counts-first : (K S : List ℕ) (n : ℕ) → with_totals K n S ≡ each_marked K one_more (n - 0) 0 S
counts-first K S n = let e : n ≡ n - 0 = omega arith in ap (λ (k : ℕ). each_marked K one_more k 0 S) e

-- ---- windows

pub all-windows : (S : List ℕ) (x : ℕ) → x ≡ part1 (get_or S 838 0) → (x ≡ 0 → ⊥) → (W : List ℕ) (i : ℕ) → W ≡ windows_from S i → i ≡ 264 → W ≡ windows_in S
all-windows S x e n W i w q =
    w ∙ ap (windows_from S) q ∙ sym (left (limitless S) (replicate 1056 0) (windows_from S 264) (ne_eqb (part1 (get_or S 838 0)) 0 (λ z. n (e ∙ z))))

pub windows-stored : (W S₀ S : List ℕ) (i : ℕ) → (get_or W 1049 0 ≡ 0 → ⊥) → S ≡ stored (λ j. gather W (4 * j)) 576 i S₀ → i ≡ 264 → S ≡ with_windows W S₀
windows-stored W S₀ S i n e q =
    e ∙ ap (λ (k : ℕ). stored (λ j. gather W (4 * j)) 576 k S₀) q ∙ sym (left (unlimited W) S₀ (stored (λ i. gather W (4 * i)) 576 264 S₀) (ne_eqb (get_or W 1049 0) 0 n))

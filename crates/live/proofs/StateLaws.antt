-- What a good tick leaves in the block of a watch's state is read back as what it came to, part by part. Assumes nothing.
use mathlib.Core.Path.{◌≡◌, refl, sym, ap, ap₂, ◌∙◌}
use mathlib.Core.Bool.{Bool, true, false, cond}
use mathlib.Core.List.{List, [], ◌∷◌, ◌++◌, append-nil}
use Prim.Native.Nat.{ℕ, zero, suc, ◌+◌, ◌-◌, ◌*◌, ◌/◌, ◌%◌, ◌<◌, ◌≤◌, min}
use native.Mathlib.Omega.{arith}
use native.Mathlib.Decide.{dec_lt}
use borrow.Author.Tests.{ne_eqb, eqb-false}
use lib.Dec.{eqb}
use lib.ListN.{length, length-take, length-drop, length-set, length-replicate, get_or, set, take, drop, replicate, drop_of_length-le}
use lib.Seq.{sets, sets-eq, length-take-le, take-suc, take_all, get_or-take, get_or-drop, get_or-set_same, get_or-set_other, take-set-lt, drop-set-add, ext_get_or}
use Rattle.lexer.proofs.Bools.{left}
use Rattle.words.specs.Words.{part0, part1, part2, part3}
use Rattle.words.proofs.Quads.{quad-0, quad-1, quad-2, quad-3}
use Rattle.rules.proofs.Overlay.{sets_behind}
use Rattle.monitor.specs.Ticks.{if_marked, each_marked, count_met}
use Rattle.monitor.specs.Ticks as ticks
use Rattle.monitor.specs.Limited.{unlimited}
use Rattle.monitor.proofs.Most.{AllMost}
use Rattle.live.specs.State.{stored, byte_of, joined, marks_from, marks_in, values_from, values_in, totals_in, windows_from, limitless, windows_in, spread, with_marks, one_more, with_totals, with_values, gather, with_windows, placed, ticked, halted}

-- ---- lists

-- a list on top of one as long
pub sets-all : (xs ys : List ℕ) → length xs ≡ length ys → sets xs 0 ys ≡ ys
sets-all xs ys e =
    sets-eq ys xs 0 (omega (arith, e)) ∙ ap (λ (r : List ℕ). ys ++ r) (drop_of_length-le xs {i = 0 + length ys} (omega (arith, e))) ∙ append-nil ys

-- one number more of a list over the front of another
values-more : (L W : List ℕ) (i : ℕ) → i < length W → set (sets L 0 (take i W)) i (get_or W i 0) ≡ sets L 0 (take (i + 1) W)
values-more L W i h =
    sets_behind L 0 i (take i W) (get_or W i 0 ∷ []) (take (i + 1) W) (let l = length-take-le i W (omega arith) in omega (arith, l)) (let e : i + 1 ≡ suc i = omega arith in ap (λ (n : ℕ). take n W) e ∙ take-suc W i 0 h)

-- n words from k on, by what stands there
pub same-part : (k n : ℕ) (S S' : List ℕ) → length S ≡ length S' → ((i : ℕ) → i < n → get_or S (k + i) 0 ≡ get_or S' (k + i) 0) → take n (drop k S) ≡ take n (drop k S')
same-part k n S S' e h =
    ext_get_or 0 (take n (drop k S)) (take n (drop k S')) (length-take n (drop k S) ∙ ap (λ (m : ℕ). min n m) (length-drop k S ∙ ap (λ (m : ℕ). m - k) e ∙ sym (length-drop k S')) ∙ sym (length-take n (drop k S')))
    (λ i l.
    let m = length-take n (drop k S) in
    let b : i < n = omega (arith, l, m) in
    get_or-take n (drop k S) i 0 b ∙ get_or-drop k S i 0 ∙ h i b ∙ sym (get_or-take n (drop k S') i 0 b ∙ get_or-drop k S' i 0))

-- ---- numbers that are stored from a place on

module _ (f : ℕ → ℕ) (k : ℕ) (S : List ℕ) where
  stored-long : (n : ℕ) → length (stored f k n S) ≡ length S
  unfolding stored
  stored-long zero = refl
  stored-long (suc n) = length-set (stored f k n S) (k + n) (f n) ∙ stored-long n

  -- a load at none of the places, and at one of them
  stored-out : (n i : ℕ) → ((j : ℕ) → j < n → i ≡ k + j → ⊥) → get_or (stored f k n S) i 0 ≡ get_or S i 0
  unfolding stored
  stored-out zero i h = refl
  stored-out (suc n) i h = get_or-set_other (stored f k n S) (k + n) i (f n) 0 (λ e. h n (omega arith) e) ∙ stored-out n i (λ j l e. h j (omega (arith, l)) e)

  stored-in : (n j : ℕ) → j < n → k + n ≤ length S → get_or (stored f k n S) (k + j) 0 ≡ f j
  unfolding stored
  stored-in zero j h l = absurd (omega arith)
  stored-in (suc n) j h l = elim (dec_lt j n) [
    | yes q ↦ get_or-set_other (stored f k n S) (k + n) (k + j) (f n) 0 (λ e. omega (arith, e, q)) ∙ stored-in n j q (omega (arith, l))
    | no q ↦
        let e : j ≡ n = omega (arith, h) in
        let g = stored-long n in
        ap (λ (i : ℕ). get_or (set (stored f k n S) (k + n) (f n)) (k + i) 0) e ∙ get_or-set_same (stored f k n S) (k + n) (f n) 0 (omega (arith, g, l)) ∙ ap f (sym e)
  ]

-- ---- marks

-- a byte of a word that bytes were joined to
low_byte : (a r : ℕ) → a ≤ 255 → (a + 256 * r) % 256 ≡ a
low_byte a r h = omega (arith, h)

high-bytes : (a r : ℕ) → a ≤ 255 → (a + 256 * r) / 256 ≡ r
high-bytes a r h = omega (arith, h)

byte-joined : (K : List ℕ) → AllMost 255 K → (n m i : ℕ) → n < m → byte_of n (joined m K i) ≡ get_or K (i + n) 0
unfolding byte_of joined
byte-joined K b n zero i h = absurd (omega arith)
byte-joined K b zero (suc m) i h = let e : i ≡ i + 0 = omega arith in low_byte (get_or K i 0) (joined m K (suc i)) (b i) ∙ ap (λ (k : ℕ). get_or K k 0) e
byte-joined K b (suc n) (suc m) i h =
    let e : suc i + n ≡ i + suc n = omega arith in
    ap (byte_of n) (high-bytes (get_or K i 0) (joined m K (suc i)) (b i)) ∙ byte-joined K b n m (suc i) (omega (arith, h)) ∙ ap (λ (k : ℕ). get_or K k 0) e

module _ (K S : List ℕ) (bytes : AllMost 255 K) (long : length K ≡ 288) where
  -- the first l of them
  abbrev front : (l : ℕ) → List ℕ
  front l = sets (replicate 288 0) 0 (take l K)

  some-further : (i n : ℕ) → n ≤ 8 → i + 8 ≤ 288 → stored (λ j. byte_of j (joined 8 K i)) i n (front i) ≡ front (i + n)
  unfolding stored
  some-further i zero h l = let e : i ≡ i + 0 = omega arith in ap front e
  some-further i (suc n) h l =
      let e : i + n + 1 ≡ i + suc n = omega arith in
      ap₂ (λ (M : List ℕ) (x : ℕ). set M (i + n) x) (some-further i n (omega (arith, h)) l) (byte-joined K bytes n 8 i (omega (arith, h)))
      ∙ values-more (replicate 288 0) K (i + n) (omega (arith, h, l, long)) ∙ ap front e

  words-read : (n : ℕ) → n ≤ 36 → ((j : ℕ) → j < 36 → get_or S (32 + j) 0 ≡ joined 8 K (8 * j)) → marks_from S n ≡ front (8 * n)
  unfolding marks_from
  words-read zero h at = refl
  words-read (suc n) h at =
      let e : 8 * n + 8 ≡ 8 * suc n = omega arith in
      ap₂ (λ (x : ℕ) (M : List ℕ). stored (λ j. byte_of j x) (8 * n) 8 M) (at n (omega (arith, h))) (words-read n (omega (arith, h)) at)
      ∙ some-further (8 * n) 8 (omega arith) (omega (arith, h)) ∙ ap front e

  -- bytes that stand in the block are read as the marks
  read-marks : ((j : ℕ) → j < 36 → get_or S (32 + j) 0 ≡ joined 8 K (8 * j)) → marks_in S ≡ K
  read-marks at =
      words-read 36 (omega arith) at ∙ ap (sets (replicate 288 0) 0) (take_all 288 K (omega (arith, long))) ∙ sets-all (replicate 288 0) K (length-replicate {A = ℕ} 288 0 ∙ sym long)

-- ---- store values

none_read : (S : List ℕ) → values_from S zero ≡ replicate 16 0
unfolding values_from
none_read S = refl

one-read : (S : List ℕ) (n : ℕ) → values_from S (suc n) ≡ set (values_from S n) n (get_or S (16 + n) 0)
unfolding values_from
one-read S n = refl

-- the values that a block is read as go by the words that they stand in
same-values : (S S' : List ℕ) → ((i : ℕ) → i < 16 → get_or S (16 + i) 0 ≡ get_or S' (16 + i) 0) → (n : ℕ) → n ≤ 16 → values_from S n ≡ values_from S' n
unfolding values_from
same-values S S' h zero l = refl
same-values S S' h (suc n) l = ap₂ (λ (M : List ℕ) (x : ℕ). set M n x) (same-values S S' h n (omega (arith, l))) (h n (omega (arith, l)))

read-values : (σ S : List ℕ) → length σ ≡ 16 → ((i : ℕ) → i < 16 → get_or S (16 + i) 0 ≡ get_or σ i 0) → values_in S ≡ σ
read-values σ S long at = some 16 (omega arith) ∙ ap (sets (replicate 16 0) 0) (take_all 16 σ (omega (arith, long))) ∙ sets-all (replicate 16 0) σ (length-replicate {A = ℕ} 16 0 ∙ sym long)
  where
    some : (n : ℕ) → n ≤ 16 → values_from S n ≡ sets (replicate 16 0) 0 (take n σ)
    some zero l = none_read S
    some (suc n) l =
        let q : n + 1 ≡ suc n = omega arith in
        one-read S n
        ∙ ap₂ (λ (M : List ℕ) (x : ℕ). set M n x) (some n (omega (arith, l))) (at n (omega (arith, l)))
        ∙ values-more (replicate 16 0) σ n (omega (arith, l, long)) ∙ ap (λ (k : ℕ). sets (replicate 16 0) 0 (take k σ)) q

-- ---- windows

module _ (W S : List ℕ) (narrow : AllMost 65535 W) (long : length W ≡ 1056) where
  abbrev part : (l : ℕ) → List ℕ
  part l = sets (replicate 1056 0) 0 (take l W)

  one_further : (l x : ℕ) → l < 1056 → x ≡ get_or W l 0 → (M : List ℕ) → M ≡ part l → set M l x ≡ part (l + 1)
  one_further l x h e M m = ap₂ (λ (k : List ℕ) (y : ℕ). set k l y) m e ∙ values-more (replicate 1056 0) W l (omega (arith, h, long))

  four-further : (i : ℕ) → i + 3 < 1056 → spread (gather W i) i (part i) ≡ part (i + 4)
  four-further i h =
      let a = one_further i (part0 (gather W i)) (omega (arith, h)) (quad-0 (get_or W i 0) (get_or W (i + 1) 0) (get_or W (i + 2) 0) (get_or W (i + 3) 0) (let n = narrow i in omega (arith, n))) (part i) refl in
      let b = one_further (i + 1) (part1 (gather W i)) (omega (arith, h)) (quad-1 (get_or W i 0) (get_or W (i + 1) 0) (get_or W (i + 2) 0) (get_or W (i + 3) 0) (let n = narrow (i + 1) in omega (arith, n))) _ a in
      let two : i + 1 + 1 ≡ i + 2 = omega arith in
      let c = one_further (i + 2) (part2 (gather W i)) (omega (arith, h)) (quad-2 (get_or W i 0) (get_or W (i + 1) 0) (get_or W (i + 2) 0) (get_or W (i + 3) 0) (let n = narrow (i + 2) in omega (arith, n))) _ (b ∙ ap part two) in
      let three : i + 2 + 1 ≡ i + 3 = omega arith in
      let d = one_further (i + 3) (part3 (gather W i)) (omega (arith, h)) (quad-3 (get_or W i 0) (get_or W (i + 1) 0) (get_or W (i + 2) 0) (get_or W (i + 3) 0) (let n = narrow (i + 3) in omega (arith, n))) _ (c ∙ ap part three) in
      let four : i + 3 + 1 ≡ i + 4 = omega arith in
      d ∙ ap part four

  read_some : (n : ℕ) → n ≤ 264 → ((j : ℕ) → j < n → get_or S (576 + j) 0 ≡ gather W (4 * j)) → windows_from S n ≡ part (4 * n)
  unfolding windows_from
  read_some zero h at = refl
  read_some (suc n) h at =
      let e : 4 * n + 4 ≡ 4 * suc n = omega arith in
      ap₂ (λ (x : ℕ) (M : List ℕ). spread x (4 * n) M) (at n (omega arith)) (read_some n (omega (arith, h)) (λ j l. at j (omega (arith, l))))
      ∙ four-further (4 * n) (omega (arith, h)) ∙ ap part e

  read-windows : (get_or W 1049 0 ≡ 0 → ⊥) → ((j : ℕ) → j < 264 → get_or S (576 + j) 0 ≡ gather W (4 * j)) → windows_in S ≡ W
  read-windows some at =
      let q : part1 (get_or S 838 0) ≡ get_or W 1049 0 = ap part1 (at 262 (omega arith)) ∙ quad-1 (get_or W 1048 0) (get_or W 1049 0) (get_or W 1050 0) (get_or W 1051 0) (let n = narrow 1049 in omega (arith, n)) in
      left (limitless S) (replicate 1056 0) (windows_from S 264) (ne_eqb (part1 (get_or S 838 0)) 0 (λ z. some (sym q ∙ z)))
      ∙ read_some 264 (omega arith) at
      ∙ ap (sets (replicate 1056 0) 0) (take_all 1056 W (omega (arith, long))) ∙ sets-all (replicate 1056 0) W (length-replicate {A = ℕ} 1056 0 ∙ sym long)

-- ---- how often letters were met

totals-out : (K : List ℕ) (n l : ℕ) (S : List ℕ) (i : ℕ) → ((k : ℕ) → k < l + n → i ≡ 320 + k → ⊥) → get_or (each_marked K one_more n l S) i 0 ≡ get_or S i 0
unfolding each_marked
totals-out K zero l S i h = refl
totals-out K (suc n) l S i h =
    totals-out K n (suc l) (if_marked K one_more l S) i (λ k b e. h k (omega (arith, b)) e) ∙ by (eqb (get_or K l 0) 0)
  where
    by : (b : Bool) → get_or (cond b S (one_more l S)) i 0 ≡ get_or S i 0
    by true = refl
    by false = get_or-set_other S (320 + l) i (suc (get_or S (320 + l) 0) % 4294967296) 0 (λ e. h l (omega arith) e)

totals-long : (K : List ℕ) (n l : ℕ) (S : List ℕ) → length (each_marked K one_more n l S) ≡ length S
unfolding each_marked
totals-long K zero l S = refl
totals-long K (suc n) l S = totals-long K n (suc l) (if_marked K one_more l S) ∙ by (eqb (get_or K l 0) 0)
  where
    by : (b : Bool) → length (cond b S (one_more l S)) ≡ length S
    by true = refl
    by false = length-set S (320 + l) (suc (get_or S (320 + l) 0) % 4294967296)

one-counted : (l : ℕ) (S : List ℕ) → l < 256 → totals_in (one_more l S) ≡ ticks.one_more l (totals_in S)
one-counted l S h =
    let e : get_or (totals_in S) l 0 ≡ get_or S (320 + l) 0 = get_or-take 256 (drop 320 S) l 0 h ∙ get_or-drop 320 S l 0 in
    ap (take 256) (drop-set-add 320 S l (suc (get_or S (320 + l) 0) % 4294967296)) ∙ take-set-lt 256 (drop 320 S) l (suc (get_or S (320 + l) 0) % 4294967296) h
    ∙ ap (λ (x : ℕ). set (totals_in S) l (suc x % 4294967296)) (sym e)

read-totals : (K : List ℕ) (n l : ℕ) (S : List ℕ) → l + n ≤ 256 → totals_in (each_marked K one_more n l S) ≡ each_marked K ticks.one_more n l (totals_in S)
unfolding each_marked
read-totals K zero l S h = refl
read-totals K (suc n) l S h =
    read-totals K n (suc l) (if_marked K one_more l S) (omega (arith, h)) ∙ ap (each_marked K ticks.one_more n (suc l)) (by (eqb (get_or K l 0) 0))
  where
    by : (b : Bool) → totals_in (cond b S (one_more l S)) ≡ cond b (totals_in S) (ticks.one_more l (totals_in S))
    by true = refl
    by false = one-counted l S (omega (arith, h))

-- ---- all parts

marks-out : (K S : List ℕ) (i : ℕ) → ((j : ℕ) → j < 36 → i ≡ 32 + j → ⊥) → get_or (with_marks K S) i 0 ≡ get_or S i 0
marks-out K S i h = stored-out (λ j. joined 8 K (8 * j)) 32 S 36 i h

windows-out : (W S : List ℕ) (i : ℕ) → ((j : ℕ) → j < 264 → i ≡ 576 + j → ⊥) → get_or (with_windows W S) i 0 ≡ get_or S i 0
windows-out W S i h = by (unlimited W)
  where
    by : (b : Bool) → get_or (cond b S (stored (λ j. gather W (4 * j)) 576 264 S)) i 0 ≡ get_or S i 0
    by true = refl
    by false = stored-out (λ j. gather W (4 * j)) 576 S 264 i h

windows-long : (W S : List ℕ) → length (with_windows W S) ≡ length S
windows-long W S = by (unlimited W)
  where
    by : (b : Bool) → length (cond b S (stored (λ j. gather W (4 * j)) 576 264 S)) ≡ length S
    by true = refl
    by false = stored-long (λ j. gather W (4 * j)) 576 S 264

-- the marks and the windows that a block is read as go by the words that they stand in
same-marks : (S S' : List ℕ) → ((i : ℕ) → i < 36 → get_or S (32 + i) 0 ≡ get_or S' (32 + i) 0) → (n : ℕ) → n ≤ 36 → marks_from S n ≡ marks_from S' n
unfolding marks_from
same-marks S S' h zero l = refl
same-marks S S' h (suc n) l = ap₂ (λ (x : ℕ) (M : List ℕ). stored (λ j. byte_of j x) (8 * n) 8 M) (h n (omega (arith, l))) (same-marks S S' h n (omega (arith, l)))

same_some : (S S' : List ℕ) → ((i : ℕ) → i < 264 → get_or S (576 + i) 0 ≡ get_or S' (576 + i) 0) → (n : ℕ) → n ≤ 264 → windows_from S n ≡ windows_from S' n
unfolding windows_from
same_some S S' h zero l = refl
same_some S S' h (suc n) l = ap₂ (λ (x : ℕ) (M : List ℕ). spread x (4 * n) M) (h n (omega (arith, l))) (same_some S S' h n (omega (arith, l)))

same-windows : (S S' : List ℕ) → ((i : ℕ) → i < 264 → get_or S (576 + i) 0 ≡ get_or S' (576 + i) 0) → windows_in S ≡ windows_in S'
same-windows S S' h =
    ap₂ (λ (x : ℕ) (M : List ℕ). cond (eqb (part1 x) 0) (replicate 1056 0) M) (h 262 (omega arith)) (same_some S S' h 264 (omega arith))

-- T: a block in which ticks, stop and the word before stand already
module _ (n : ℕ) (K σ W T : List ℕ) (long : length T ≡ 1024) (few : n ≤ 256) (bits : AllMost 255 K) (marks_all : length K ≡ 288) (values_all : length σ ≡ 16)
    (narrow : AllMost 65535 W) (windows_all : length W ≡ 1056) (same : unlimited W ≡ true → windows_in T ≡ W) where
  abbrev listing : List ℕ
  listing = with_marks K T

  abbrev counted : List ℕ
  counted = with_totals K n listing

  abbrev valued : List ℕ
  valued = with_values σ counted

  listing-long : length listing ≡ 1024
  listing-long = stored-long (λ j. joined 8 K (8 * j)) 32 T 36 ∙ long

  counted-long : length counted ≡ 1024
  counted-long = totals-long K n 0 listing ∙ listing-long

  valued-long : length valued ≡ 1024
  valued-long = stored-long (λ i. get_or σ i 0) 16 counted 16 ∙ counted-long

  pub placed-long : length (placed n K σ W T) ≡ 1024
  placed-long = windows-long W valued ∙ valued-long

  -- what stands at a place of none of the parts, or of the marks
  from-valued : (i : ℕ) → ((j : ℕ) → j < 264 → i ≡ 576 + j → ⊥) → get_or (placed n K σ W T) i 0 ≡ get_or valued i 0
  from-valued i h = windows-out W valued i h

  from-counted : (i : ℕ) → i < 576 → ((j : ℕ) → j < 16 → i ≡ 16 + j → ⊥) → get_or (placed n K σ W T) i 0 ≡ get_or counted i 0
  from-counted i l h = from-valued i (λ j b e. omega (arith, e, l)) ∙ stored-out (λ j. get_or σ j 0) 16 counted 16 i h

  from-listing : (i : ℕ) → i < 320 → ((j : ℕ) → j < 16 → i ≡ 16 + j → ⊥) → get_or (placed n K σ W T) i 0 ≡ get_or listing i 0
  from-listing i l h = from-counted i (omega (arith, l)) h ∙ totals-out K n 0 listing i (λ k b e. omega (arith, e, l))

  pub placed-front : (i : ℕ) → i < 3 → get_or (placed n K σ W T) i 0 ≡ get_or T i 0
  placed-front i l = from-listing i (omega (arith, l)) (λ j b e. omega (arith, e, l)) ∙ marks-out K T i (λ j b e. omega (arith, e, l))

  pub placed-marks : marks_in (placed n K σ W T) ≡ K
  placed-marks =
      read-marks K (placed n K σ W T) bits marks_all
      (λ j h.
      from-listing (32 + j) (omega (arith, h)) (λ k b e. omega (arith, e, b)) ∙ stored-in (λ i. joined 8 K (8 * i)) 32 T 36 j h (omega (arith, long)))

  pub placed-values : values_in (placed n K σ W T) ≡ σ
  placed-values =
      let c = counted-long in
      read-values σ (placed n K σ W T) values_all (λ i h. from-valued (16 + i) (λ j d e. omega (arith, e, h)) ∙ stored-in (λ j. get_or σ j 0) 16 counted 16 i h (omega (arith, c)))

  pub placed-totals : totals_in (placed n K σ W T) ≡ count_met K n (totals_in T)
  placed-totals =
      same-part 320 256 (placed n K σ W T) counted (placed-long ∙ sym counted-long) (λ i h. from-counted (320 + i) (omega (arith, h)) (λ j b e. omega (arith, e, b)))
      ∙ read-totals K n 0 listing (omega (arith, few))
      ∙ ap (each_marked K ticks.one_more n 0)
      (same-part 320 256 listing T (listing-long ∙ sym long) (λ i h. marks-out K T (320 + i) (λ j b e. omega (arith, e, b))))

  pub placed-windows : windows_in (placed n K σ W T) ≡ W
  placed-windows = by (unlimited W) refl
    where
      kept : (i : ℕ) → i < 264 → get_or valued (576 + i) 0 ≡ get_or T (576 + i) 0
      kept i h =
          stored-out (λ j. get_or σ j 0) 16 counted 16 (576 + i) (λ j b e. omega (arith, e, b))
          ∙ totals-out K n 0 listing (576 + i) (λ k b e. omega (arith, e, b, few)) ∙ marks-out K T (576 + i) (λ j b e. omega (arith, e, b))

      by : (b : Bool) → unlimited W ≡ b → windows_in (cond b valued (stored (λ j. gather W (4 * j)) 576 264 valued)) ≡ W
      by true e = same-windows valued T kept ∙ same e
      by false e =
          let l = valued-long in
          read-windows W (stored (λ j. gather W (4 * j)) 576 264 valued) narrow windows_all (eqb-false (get_or W 1049 0) 0 e) (λ j h. stored-in (λ i. gather W (4 * i)) 576 valued 264 j h (omega (arith, l)))

-- a good tick's word and number, and nothing else
module _ (S : List ℕ) (w : ℕ) (long : length S ≡ 1024) where
  pub ticked-long : length (ticked w S) ≡ 1024
  ticked-long = length-set (set S 2 w) 0 (suc (get_or S 0 0)) ∙ length-set S 2 w ∙ long

  pub ticked-ticks : get_or (ticked w S) 0 0 ≡ suc (get_or S 0 0)
  ticked-ticks = get_or-set_same (set S 2 w) 0 (suc (get_or S 0 0)) 0 (let e = length-set S 2 w in omega (arith, e, long))

  pub ticked-before : get_or (ticked w S) 2 0 ≡ w
  ticked-before = get_or-set_other (set S 2 w) 0 2 (suc (get_or S 0 0)) 0 (λ e. omega (arith, e)) ∙ get_or-set_same S 2 w 0 (omega (arith, long))

  ticked-at : (i : ℕ) → (i ≡ 0 → ⊥) → (i ≡ 2 → ⊥) → get_or (ticked w S) i 0 ≡ get_or S i 0
  ticked-at i a b = get_or-set_other (set S 2 w) 0 i (suc (get_or S 0 0)) 0 a ∙ get_or-set_other S 2 i w 0 b

  pub ticked-stopped : get_or (ticked w S) 1 0 ≡ get_or S 1 0
  ticked-stopped = ticked-at 1 (λ e. omega (arith, e)) (λ e. omega (arith, e))

  pub ticked-totals : totals_in (ticked w S) ≡ totals_in S
  ticked-totals = same-part 320 256 (ticked w S) S (ticked-long ∙ sym long) (λ i h. ticked-at (320 + i) (λ e. omega (arith, e)) (λ e. omega (arith, e)))

  pub ticked-windows : windows_in (ticked w S) ≡ windows_in S
  ticked-windows = same-windows (ticked w S) S (λ i h. ticked-at (576 + i) (λ e. omega (arith, e)) (λ e. omega (arith, e)))

-- a bad tick sets the stop, and nothing else
module _ (S : List ℕ) (long : length S ≡ 1024) where
  halted-at : (i : ℕ) → (i ≡ 1 → ⊥) → get_or (halted S) i 0 ≡ get_or S i 0
  halted-at i h = get_or-set_other S 1 i 1 0 h

  pub halted-long : length (halted S) ≡ 1024
  halted-long = length-set S 1 1 ∙ long

  pub halted-stopped : get_or (halted S) 1 0 ≡ 1
  halted-stopped = get_or-set_same S 1 1 0 (omega (arith, long))

  pub halted-ticks : get_or (halted S) 0 0 ≡ get_or S 0 0
  halted-ticks = halted-at 0 (λ e. omega (arith, e))

  pub halted-before : get_or (halted S) 2 0 ≡ get_or S 2 0
  halted-before = halted-at 2 (λ e. omega (arith, e))

  pub halted-marks : marks_in (halted S) ≡ marks_in S
  halted-marks = same-marks (halted S) S (λ i h. halted-at (32 + i) (λ e. omega (arith, e))) 36 (omega arith)

  pub halted-values : values_in (halted S) ≡ values_in S
  halted-values = same-values (halted S) S (λ i h. halted-at (16 + i) (λ e. omega (arith, e))) 16 (omega arith)

  pub halted-totals : totals_in (halted S) ≡ totals_in S
  halted-totals = same-part 320 256 (halted S) S (length-set S 1 1) (λ i h. halted-at (320 + i) (λ e. omega (arith, e)))

  pub halted-windows : windows_in (halted S) ≡ windows_in S
  halted-windows = same-windows (halted S) S (λ i h. halted-at (576 + i) (λ e. omega (arith, e)))

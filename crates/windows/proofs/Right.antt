-- The windows are right: they keep, for each limit, on how many of its last ticks it counts, and the first limit that they say a tick is beyond is the first that it is beyond. Assumes nothing.
use Rattle.std.proofs.Common.{◌≡◌, ℕ, zero, suc, ◌+◌, ◌-◌, ◌/◌, ◌%◌, ◌^◌, ◌<◌, ◌≤◌, min, Bool, true, false, cond, not, ◌&&◌, ◌||◌, eqb, ltb, List, [], ◌∷◌, ◌++◌, length, get_or, drop, set, sym, refl, ap, ◌∙◌, subst, ap₂, arith, length-append, length-drop, length-set, drop-cons, get_or-set_other, get_or-set_same}
use native.Mathlib.Decide.{dec_lt}
use native.Mathlib.Nat.{zero-div}
use lib.Bits.{bit_or, or_lt, or_shr, or_mod}
use lib.ListN.{length-replicate, get_or-replicate, get_or-append}
use lib.Seq.{drop-append-le, get_or-append_seam}
use Rattle.words.specs.Words.{part1, part2}
use Rattle.windows.specs.Windows.{Bound, bit_of, latest, total, within, lowest_beyond, mask_of, met_mask, some_met, count_at, most_at, back_at, place_at, limits_at, place_in, limits_in, next_count, beyond_from, first_beyond, counted, passed, limited, opened_windows}
use Rattle.windows.proofs.Steps.{counted-other}

-- ---- on how many of the last ticks

total-append : (f : ℕ → ℕ) (xs ys : List ℕ) → total f (xs ++ ys) ≡ total f xs + total f ys
unfolding total
total-append f [] ys = omega arith
total-append f (x ∷ xs) ys = omega (arith, total-append f xs ys)

total-small : (k : ℕ) (bs : List ℕ) → total (bit_of k) bs ≤ length bs
unfolding total
total-small k [] = omega arith
total-small k (b ∷ bs) = omega (arith, total-small k bs)

pub within-small : (k w : ℕ) (bs : List ℕ) → within k w bs ≤ w
within-small k w bs = omega (arith, total-small k (latest w bs), length-drop (length bs - w) bs)

one-longer : (bs : List ℕ) (m : ℕ) → length (bs ++ m ∷ []) ≡ length bs + 1
one-longer bs m = length-append bs (m ∷ [])

within_none : (k w : ℕ) → within k w [] ≡ 0
within_none k w = omega (arith, total-small k (latest w []), length-drop (0 - w) nil)
  where
    nil : List ℕ
    nil = []

-- with one tick more: where there are w ticks, the oldest of the last w leaves
module _ (k w : ℕ) (bs : List ℕ) (m : ℕ) where
  within-full : 1 ≤ w → w ≤ length bs → within k w (bs ++ m ∷ []) + bit_of k (get_or bs (length bs - w) 0) ≡ within k w bs + bit_of k m
  unfolding total
  within-full h l =
      let e : length (bs ++ m ∷ []) - w ≡ suc (length bs - w) = omega (arith, one-longer bs m) in
      let d = ap (λ (n : ℕ). total (bit_of k) (drop n (bs ++ m ∷ []))) e ∙ ap (total (bit_of k)) (drop-append-le (suc (length bs - w)) bs (m ∷ []) (omega arith)) in
      let a = total-append (bit_of k) (drop (suc (length bs - w)) bs) (m ∷ []) in
      let c = ap (total (bit_of k)) (drop-cons bs (length bs - w) 0 (omega arith)) in
      omega (arith, d, a, c)

  within-short : length bs < w → within k w (bs ++ m ∷ []) ≡ within k w bs + bit_of k m
  unfolding total
  within-short h =
      let e : length (bs ++ m ∷ []) - w ≡ 0 = omega (arith, one-longer bs m) in
      let f : length bs - w ≡ 0 = omega arith in
      let a = total-append (bit_of k) bs (m ∷ []) in
      let b = ap (λ (n : ℕ). total (bit_of k) (drop n (bs ++ m ∷ []))) e in
      let c = ap (λ (n : ℕ). total (bit_of k) (drop n bs)) f in
      omega (arith, a, b, c)

-- ---- what the array keeps

-- a window has a tick, and no more than there is room for
abbrev pub Proper : Bound → Type 0
Proper l = (1 ≤ l.window) × (l.window ≤ 1024)

-- limit k of the list; there is one where k is below its length
abbrev pub bound : List Bound → (k : ℕ) → Bound
bound ls k = get_or ls k (record { most = 0; window = 1 })

-- of limit k, whose numbers are l
pub record Kept (l : Bound) (W bs : List ℕ) (k : ℕ) : Type 0 where
  pub proper : Proper l
  pub counts : get_or W (count_at k) 0 ≡ within k l.window bs
  pub mosts : get_or W (most_at k) 0 ≡ l.most
  pub backs : get_or W (back_at k) 0 ≡ 1024 - l.window

-- of the limits ls after the ticks bs
pub record Tracks (ls : List Bound) (W bs : List ℕ) : Type 0 where
  pub few : length ls ≤ 8
  pub size : length W ≡ 1056
  pub limits : get_or W limits_at 0 ≡ length ls
  pub place : get_or W place_at 0 ≡ length bs % 1024
  -- the last 1,024 ticks, and nothing where there was none yet
  pub ticks : (j : ℕ) → j < length bs → length bs ≤ j + 1024 → get_or W (j % 1024) 0 ≡ get_or bs j 0
  pub blank : (j : ℕ) → length bs ≤ j → j < 1024 → get_or W j 0 ≡ 0
  pub each : (k : ℕ) → k < length ls → Kept (bound ls k) W bs k

-- ---- the next count is that of the ticks with the next one

bit-none : (k : ℕ) → bit_of k 0 ≡ 0
bit-none k = ap (λ (x : ℕ). x % 2) (zero-div (2 ^ k))

module _ {ls : List Bound} {W bs : List ℕ} (t : Tracks ls W bs) where
  all-limits : limits_in W ≡ length ls
  all-limits = omega (arith, t.few, t.limits)

  module _ (m k : ℕ) (l : Bound) (kept : Kept l W bs k) where
    next-short : length bs < l.window → next_count W m k ≡ within k l.window (bs ++ m ∷ [])
    next-short h =
        let z = ap (bit_of k) (t.blank ((place_in W + get_or W (back_at k) 0) % 1024) (omega arith) (omega arith)) ∙ bit-none k in
        omega (arith, z, kept.counts, within-short k l.window bs m h)

    next-full : l.window ≤ length bs → next_count W m k ≡ within k l.window (bs ++ m ∷ [])
    next-full h =
        let e : (place_in W + get_or W (back_at k) 0) % 1024 ≡ (length bs - l.window) % 1024 = omega arith in
        let z = ap (bit_of k) (ap (λ (i : ℕ). get_or W i 0) e ∙ t.ticks (length bs - l.window) (omega arith) (omega arith)) in
        omega (arith, z, kept.counts, within-full k l.window bs m kept.proper.0 h)

    next-within : next_count W m k ≡ within k l.window (bs ++ m ∷ [])
    next-within = elim (dec_lt (length bs) l.window) [ yes h ↦ next-short h | no g ↦ next-full (omega arith) ]

-- ---- The first limit that a tick is beyond.

module _ (W : List ℕ) (m : ℕ) (ds : List ℕ) where
  -- what is compared of limit k, whose numbers are l
  abbrev Told : Bound → ℕ → Type 0
  Told l k = (get_or W (most_at k) 0 ≡ l.most) × (next_count W m k ≡ within k l.window ds)

  beyond-all : (ls : List Bound) (k : ℕ) → ((i : ℕ) → i < length ls → Told (bound ls i) (k + i)) → beyond_from W m (length ls) k ≡ lowest_beyond k ls ds
  unfolding beyond_from lowest_beyond
  beyond-all [] k h = refl
  beyond-all (l ∷ ls) k h =
      let e : k + 0 ≡ k = omega arith in
      let (p, q) = subst (Told l) e (h 0 (omega arith)) in
      let rest = beyond-all ls (suc k) (λ i g. let f : k + suc i ≡ suc k + i = omega arith in subst (Told (bound ls i)) f (h (suc i) (omega arith))) in
      ap₂ (λ (x y : ℕ). cond (ltb x y) k (beyond_from W m (length ls) (suc k))) p q ∙ ap (cond (ltb l.most (within k l.window ds)) k) rest

pub beyond-right : {ls : List Bound} {W bs : List ℕ} → Tracks ls W bs → (m : ℕ) → first_beyond W m ≡ lowest_beyond 0 ls (bs ++ m ∷ [])
beyond-right {ls} {W} {bs} t m =
    ap (λ (n : ℕ). beyond_from W m n 0) (all-limits t)
    ∙ beyond-all W m (bs ++ m ∷ []) ls 0 (λ i g.
    let e : i ≡ 0 + i = omega arith in
    subst (Told W m (bs ++ m ∷ []) (bound ls i)) e ((t.each i g).mosts, next-within t m i (bound ls i) (t.each i g)))

-- ---- The next tick.

-- what is stored for each of n limits in turn, and stays, is there for each
stored : (F : ℕ → List ℕ) (at g : ℕ → ℕ) → ((n : ℕ) → n < 8 → get_or (F (suc n)) (at n) 0 ≡ g n) → ((n k : ℕ) → n < 8 → k < n → get_or (F (suc n)) (at k) 0 ≡ get_or (F n) (at k) 0)
    → (n k : ℕ) → n ≤ 8 → k < n → get_or (F n) (at k) 0 ≡ g k
stored F at g new old zero k l h = absurd (omega arith)
stored F at g new old (suc n) k l h = elim (dec_lt k n) [ yes i ↦ old n k (omega arith) i ∙ stored F at g new old n k (omega arith) i | no i ↦ last (omega arith) ]
  where
    last : k ≡ n → get_or (F (suc n)) (at k) 0 ≡ g k
    last e = subst (λ (j : ℕ). get_or (F (suc n)) (at j) 0 ≡ g j) (sym e) (new n (omega arith))

module _ (W : List ℕ) (m : ℕ) where
  counted-size : (n : ℕ) → length (counted W m n) ≡ length W
  unfolding counted
  counted-size zero = refl
  counted-size (suc n) = length-set (counted W m n) (count_at n) _ ∙ counted-size n

  counted-at : length W ≡ 1056 → (n k : ℕ) → n ≤ 8 → k < n → get_or (counted W m n) (count_at k) 0 ≡ next_count W m k % 65536
  unfolding counted
  counted-at s =
      stored (counted W m) count_at (λ k. next_count W m k % 65536)
      (λ n l. get_or-set_same (counted W m n) (count_at n) _ 0 (omega (arith, counted-size n)))
      (λ n k l h. get_or-set_other (counted W m n) (count_at n) (count_at k) _ 0 (λ e. omega arith))

  passed-size : length (passed W m) ≡ length W
  passed-size = length-set (set (counted W m (limits_in W)) (place_in W) m) place_at _ ∙ length-set (counted W m (limits_in W)) (place_in W) m ∙ counted-size (limits_in W)

  -- the next place, the tick in its own, and all that is not changed
  passed-place : length W ≡ 1056 → get_or (passed W m) place_at 0 ≡ (place_in W + 1) % 1024
  passed-place s =
      get_or-set_same (set (counted W m (limits_in W)) (place_in W) m) place_at _ 0 (omega (arith, length-set (counted W m (limits_in W)) (place_in W) m, counted-size (limits_in W)))

  passed-own : length W ≡ 1056 → get_or (passed W m) (place_in W) 0 ≡ m
  passed-own s =
      get_or-set_other (set (counted W m (limits_in W)) (place_in W) m) place_at (place_in W) _ 0 (λ e. omega arith)
      ∙ get_or-set_same (counted W m (limits_in W)) (place_in W) m 0 (omega (arith, counted-size (limits_in W)))

  passed-rest : (i : ℕ) → (i ≡ place_at → ⊥) → (i ≡ place_in W → ⊥) → get_or (passed W m) i 0 ≡ get_or (counted W m (limits_in W)) i 0
  passed-rest i f g = get_or-set_other (set (counted W m (limits_in W)) (place_in W) m) place_at i _ 0 f ∙ get_or-set_other (counted W m (limits_in W)) (place_in W) i m 0 g

  passed-other : (i : ℕ) → (i ≡ place_at → ⊥) → (i ≡ place_in W → ⊥) → (1024 ≤ i → 1032 ≤ i) → get_or (passed W m) i 0 ≡ get_or W i 0
  passed-other i f g h = passed-rest i f g ∙ counted-other W m (limits_in W) i (λ l. let q = h l in omega arith)

module _ {ls : List Bound} {W bs : List ℕ} (t : Tracks ls W bs) (m : ℕ) where
  ticks-next : (j : ℕ) → j < length (bs ++ m ∷ []) → length (bs ++ m ∷ []) ≤ j + 1024 → get_or (passed W m) (j % 1024) 0 ≡ get_or (bs ++ m ∷ []) j 0
  ticks-next j l h = elim (dec_lt j (length bs)) [ yes g ↦ old g | no g ↦ new (omega (arith, one-longer bs m)) ]
    where
      old : j < length bs → get_or (passed W m) (j % 1024) 0 ≡ get_or (bs ++ m ∷ []) j 0
      old g =
          passed-other W m (j % 1024) (λ e. omega arith) (λ e. omega (arith, one-longer bs m, t.place)) (λ e. absurd (omega arith))
          ∙ t.ticks j g (omega (arith, one-longer bs m)) ∙ sym (get_or-append bs (m ∷ []) 0 j g)

      new : j ≡ length bs → get_or (passed W m) (j % 1024) 0 ≡ get_or (bs ++ m ∷ []) j 0
      new e =
          let q : j % 1024 ≡ place_in W = omega (arith, t.place) in
          ap (λ (i : ℕ). get_or (passed W m) i 0) q ∙ passed-own W m t.size ∙ sym (ap (λ (i : ℕ). get_or (bs ++ m ∷ []) i 0) e ∙ get_or-append_seam bs m [] 0)

  kept_next : (k : ℕ) (l : Bound) → k < length ls → Kept l W bs k → Kept l (passed W m) (bs ++ m ∷ []) k
  kept_next k l h kept = record {
    proper = kept.proper;
    counts =
        let n = all-limits t in
        let f = t.few in
        let e = passed-rest W m (count_at k) (λ e. omega arith) (λ e. omega arith) ∙ counted-at W m t.size (limits_in W) k (omega arith) (omega arith) in
        omega (arith, e, next-within t m k l kept, within-small k l.window (bs ++ m ∷ []), kept.proper.1);
    mosts = let f = t.few in passed-other W m (most_at k) (λ e. omega arith) (λ e. omega arith) (λ g. omega arith) ∙ kept.mosts;
    backs = let f = t.few in passed-other W m (back_at k) (λ e. omega arith) (λ e. omega arith) (λ g. omega arith) ∙ kept.backs;
  }

  pub pass-right : Tracks ls (passed W m) (bs ++ m ∷ [])
  pass-right = record {
    few = t.few;
    size = passed-size W m ∙ t.size;
    limits = passed-other W m limits_at (λ e. omega arith) (λ e. omega arith) (λ l. omega arith) ∙ t.limits;
    place = omega (arith, passed-place W m t.size, t.place, one-longer bs m);
    ticks = ticks-next;
    blank = λ j l h. passed-other W m j (λ e. omega arith) (λ e. omega (arith, t.place, one-longer bs m)) (λ e. absurd (omega arith)) ∙ t.blank j (omega (arith, one-longer bs m)) h;
    each = λ k h. kept_next k (bound ls k) h (t.each k h);
  }

-- ---- At opening.

module _ (L : List ℕ) where
  limited-size : (n : ℕ) → length (limited L n) ≡ 1056
  unfolding limited
  limited-size zero = length-replicate {A = ℕ} 1056 0
  limited-size (suc n) = length-set (set (limited L n) (most_at n) _) (back_at n) _ ∙ length-set (limited L n) (most_at n) _ ∙ limited-size n

  limited-other : (n i : ℕ) → n ≤ 8 → i < 1056 → (1032 ≤ i → 1048 ≤ i) → get_or (limited L n) i 0 ≡ 0
  unfolding limited
  limited-other zero i l h f = get_or-replicate 1056 i 0 0 h
  limited-other (suc n) i l h f =
      get_or-set_other (set (limited L n) (most_at n) _) (back_at n) i _ 0 (λ e. let q = f (omega arith) in omega arith)
      ∙ get_or-set_other (limited L n) (most_at n) i _ 0 (λ e. let q = f (omega arith) in omega arith) ∙ limited-other n i (omega arith) h f

  limited-most : (n k : ℕ) → n ≤ 8 → k < n → get_or (limited L n) (most_at k) 0 ≡ part1 (get_or L k 0)
  unfolding limited
  limited-most =
      stored (limited L) most_at (λ k. part1 (get_or L k 0))
      (λ n l. get_or-set_other (set (limited L n) (most_at n) _) (back_at n) (most_at n) _ 0 (λ e. omega arith) ∙ get_or-set_same (limited L n) (most_at n) _ 0 (omega (arith, limited-size n)))
      (λ n k l h. get_or-set_other (set (limited L n) (most_at n) _) (back_at n) (most_at k) _ 0 (λ e. omega arith) ∙ get_or-set_other (limited L n) (most_at n) (most_at k) _ 0 (λ e. omega arith))

  limited-back : (n k : ℕ) → n ≤ 8 → k < n → get_or (limited L n) (back_at k) 0 ≡ 1024 - part2 (get_or L k 0)
  unfolding limited
  limited-back =
      stored (limited L) back_at (λ k. 1024 - part2 (get_or L k 0))
      (λ n l. get_or-set_same (set (limited L n) (most_at n) _) (back_at n) _ 0 (omega (arith, length-set (limited L n) (most_at n) (part1 (get_or L n 0)), limited-size n)))
      (λ n k l h. get_or-set_other (set (limited L n) (most_at n) _) (back_at n) (back_at k) _ 0 (λ e. omega arith) ∙ get_or-set_other (limited L n) (most_at n) (back_at k) _ 0 (λ e. omega arith))

-- the word of a limit has its numbers
abbrev pub Carries : (word : ℕ) → Bound → Type 0
Carries w l = (part1 w ≡ l.most) × (part2 w ≡ l.window)

pub opened-tracks : (ls : List Bound) (L : List ℕ) → length ls ≤ 8 → ((k : ℕ) → k < length ls → Proper (bound ls k)) → ((k : ℕ) → k < length ls → Carries (get_or L k 0) (bound ls k))
    → Tracks ls (opened_windows L (length ls)) []
opened-tracks ls L few proper carried = record {
  few = few;
  size = length-set (limited L n) limits_at n ∙ limited-size L n;
  limits = get_or-set_same (limited L n) limits_at n 0 (omega (arith, limited-size L n)) ∙ all;
  place = at_first place_at (λ e. omega arith) (omega arith) (λ l. omega arith);
  ticks = λ j l h. absurd (omega arith);
  blank = λ j l h. at_first j (λ e. omega arith) (omega arith) (λ g. absurd (omega arith));
  each = λ k h. record {
    proper = proper k h;
    counts = omega (arith, at_first (count_at k) (λ e. omega arith) (omega arith) (λ g. absurd (omega arith)), within_none k (bound ls k).window);
    mosts = get_or-set_other (limited L n) limits_at (most_at k) n 0 (λ e. omega arith) ∙ limited-most L n k (omega arith) (omega (arith, all)) ∙ (carried k h).0;
    backs = get_or-set_other (limited L n) limits_at (back_at k) n 0 (λ e. omega arith) ∙ limited-back L n k (omega arith) (omega (arith, all)) ∙ ap (λ (w : ℕ). 1024 - w) (carried k h).1;
  };
}
  where
    n : ℕ
    n = min (length ls) 8

    all : n ≡ length ls
    all = omega arith

    at_first : (i : ℕ) → (i ≡ limits_at → ⊥) → i < 1056 → (1032 ≤ i → 1048 ≤ i) → get_or (opened_windows L (length ls)) i 0 ≡ 0
    at_first i f h g = get_or-set_other (limited L n) limits_at i n 0 f ∙ limited-other L n i (omega arith) h g

-- ---- The mask of a tick: a bit of it stands exactly if a letter that is met is counted by that limit.

bit-or : (k a b : ℕ) → bit_of k (bit_or a b) ≡ bit_or (bit_of k a) (bit_of k b)
bit-or k a b = ap (λ (x : ℕ). x % 2) (or_shr a b k) ∙ or_mod (a / 2 ^ k) (b / 2 ^ k) 1

or_digits : (a b : Bool) → bit_or (cond a 1 0) (cond b 1 0) ≡ cond (a || b) 1 0
or_digits true true = refl
or_digits true false = refl
or_digits false true = refl
or_digits false false = refl

digit : (x : ℕ) → x < 2 → x ≡ cond (eqb x 1) 1 0
digit zero h = refl
digit (suc zero) h = refl
digit (suc (suc x)) h = absurd (omega arith)

letter-bit : (k c : ℕ) (b : Bool) → bit_of k (cond b 0 c) ≡ cond (not b && eqb (bit_of k c) 1) 1 0
letter-bit k c true = bit-none k
letter-bit k c false = digit (bit_of k c) (omega arith)

module _ (M C : List ℕ) where
  pub mask-bit : (k n : ℕ) → bit_of k (met_mask M C n) ≡ cond (some_met M C k n) 1 0
  unfolding met_mask some_met
  mask-bit k zero = bit-none k
  mask-bit k (suc n) =
      bit-or k (met_mask M C n) (mask_of M C n)
      ∙ ap₂ bit_or (mask-bit k n) (letter-bit k (get_or C n 0) (eqb (get_or M (1024 + n) 0) 0))
      ∙ or_digits (some_met M C k n) (not (eqb (get_or M (1024 + n) 0) 0) && eqb (bit_of k (get_or C n 0)) 1)

  pub mask-small : (n : ℕ) → ((i : ℕ) → i < n → get_or C i 0 < 256) → met_mask M C n < 256
  unfolding met_mask
  mask-small zero h = omega arith
  mask-small (suc n) h = or_lt 8 (met_mask M C n) (mask_of M C n) (mask-small n (λ i l. h i (omega arith))) (one (eqb (get_or M (1024 + n) 0) 0))
    where
      one : (b : Bool) → cond b 0 (get_or C n 0) < 256
      one true = omega arith
      one false = h n (omega arith)

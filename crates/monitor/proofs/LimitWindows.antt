-- The windows of a watch count the ticks that its limits do, and name the limit that the meaning does. Assumes nothing.
use mathlib.Core.Path.{◌≡◌, refl, sym, ap, ap₂, ◌∙◌, subst}
use mathlib.Core.Bool.{Bool, true, false, cond}
use mathlib.Core.List.{List, [], ◌∷◌, ◌++◌, map, map-append}
use Prim.Native.Nat.{ℕ, zero, suc, ◌+◌, ◌-◌, ◌<◌, ◌≤◌}
use native.Mathlib.Omega.{arith}
use borrow.Author.Tests.{lt-ltb, eqb-true}
use lib.Dec.{ltb}
use lib.ListN.{length, get_or, drop, length-map, get_or-map}
use Rattle.meaning.specs.Lists.{◌∈◌, count}
use Rattle.meaning.specs.Lists as lists
use Rattle.meaning.specs.Expression.{Exp}
use Rattle.meaning.specs.Names.{Limit}
use Rattle.meaning.specs.Fit.{Tick, ok, bad}
use Rattle.meaning.specs.Limits.{counts_at, counts_from, latest, beyond}
use Rattle.meaning.proofs.ListLaws.{here, there}
use Rattle.meaning.proofs.Limits.{counts-more, beyond_verdict}
use Rattle.words.proofs.Quads.{quad-1, quad-2}
use Rattle.windows.specs.Windows.{Bound, bit_of, total, within, lowest_beyond, limits_at, first_beyond, passed, opened_windows}
use Rattle.windows.proofs.Right.{Proper, bound, Carries, Tracks, opened-tracks, beyond-right, pass-right}
use Rattle.rules.specs.Watches.{limit_word}
use Rattle.monitor.specs.Limited.{unlimited, verdict_by, windows_after}
use Rattle.monitor.proofs.Stored.{map_at}
use Rattle.monitor.proofs.LimitMasks.{limit_at, digit, Bits}

-- a limit's numbers
abbrev pub bound_of : Limit → Bound
bound_of l = record { most = l.most; window = l.window }

-- ---- masks that say which ticks count

-- bit k of each of the masks, those of the ticks ts, says whether its tick counts for production p
abbrev pub Says : (k p : ℕ) → List Exp → List Tick → (masks : List ℕ) → Type 0
Says k p ms ts bs = map (bit_of k) bs ≡ map digit (counts_from p ms [] ts)

says-more : (k p : ℕ) (ms : List Exp) (ts : List Tick) (bs : List ℕ) → Says k p ms ts bs → (t : Tick) (x : ℕ) → bit_of k x ≡ digit (counts_at p ms ts t) → Says k p ms (ts ++ t ∷ []) (bs ++ x ∷ [])
says-more k p ms ts bs s t x e =
    map-append (bit_of k) bs (x ∷ []) ∙ ap₂ (λ (ns : List ℕ) (n : ℕ). ns ++ n ∷ []) s e
    ∙ sym (ap (map digit) (counts-more p ms [] ts t) ∙ map-append digit (counts_from p ms [] ts) (counts_at p ms ts t ∷ []))

total-sum : (f : ℕ → ℕ) (bs : List ℕ) → total f bs ≡ lists.total (λ n. n) (map f bs)
unfolding total
total-sum f [] = refl
total-sum f (b ∷ bs) = ap (λ (n : ℕ). f b + n) (total-sum f bs)

count-sum : (cs : List Bool) → count (λ b. b) cs ≡ lists.total (λ n. n) (map digit cs)
count-sum [] = refl
count-sum (c ∷ cs) = ap (λ (n : ℕ). digit c + n) (count-sum cs)

map-drop : {A B : Type 0} (f : A → B) (n : ℕ) (xs : List A) → map f (drop n xs) ≡ drop n (map f xs)
map-drop f zero xs = refl
map-drop f (suc n) [] = refl
map-drop f (suc n) (x ∷ xs) = map-drop f n xs

module _ (k p : ℕ) (ms : List Exp) (ts : List Tick) (bs : List ℕ) (s : Says k p ms ts bs) where
  as_long : length bs ≡ length (counts_from p ms [] ts)
  as_long = sym (length-map bs (bit_of k)) ∙ ap length s ∙ length-map (counts_from p ms [] ts) digit

  within-said : (w : ℕ) → within k w bs ≡ count (λ b. b) (latest w (counts_from p ms [] ts))
  within-said w =
      ap (λ (n : ℕ). total (bit_of k) (drop (n - w) bs)) as_long
      ∙ total-sum (bit_of k) (drop (length (counts_from p ms [] ts) - w) bs)
      ∙ ap (lists.total (λ n. n))
      (map-drop (bit_of k) (length (counts_from p ms [] ts) - w) bs ∙ ap (drop (length (counts_from p ms [] ts) - w)) s
      ∙ sym (map-drop digit (length (counts_from p ms [] ts) - w) (counts_from p ms [] ts)))
      ∙ sym (count-sum (latest w (counts_from p ms [] ts)))

-- ---- the lowest limit that a tick is beyond

-- the limits are numbered from i on
lowest-said : (ms : List Exp) (ts : List Tick) (bs : List ℕ) (i : ℕ) (ls : List Limit) → i + length ls ≤ 8 → ((j : ℕ) → j < length ls → Says (i + j) (limit_at ls j).production ms ts bs)
    → verdict_by (32 + lowest_beyond i (map bound_of ls) bs) ≡ beyond_verdict i ls ms ts
unfolding lowest_beyond beyond_verdict
lowest-said ms ts bs i [] few s = refl
lowest-said ms ts bs i (l ∷ ls) few s =
    let z : i + 0 ≡ i = omega arith in
    ap (λ (n : ℕ). verdict_by (32 + cond (ltb l.most n) i (lowest_beyond (suc i) (map bound_of ls) bs)))
    (within-said i l.production ms ts bs (subst (λ (k : ℕ). Says k l.production ms ts bs) z (s 0 (omega arith))) l.window)
    ∙ by (beyond l ms ts)
    (lowest-said ms ts bs (suc i) ls (omega arith)
    (λ j h. let e : i + suc j ≡ suc i + j = omega arith in subst (λ (k : ℕ). Says k (limit_at ls j).production ms ts bs) e (s (suc j) (omega arith))))
  where
    by : (b : Bool) → verdict_by (32 + lowest_beyond (suc i) (map bound_of ls) bs) ≡ beyond_verdict (suc i) ls ms ts
        → verdict_by (32 + cond b i (lowest_beyond (suc i) (map bound_of ls) bs)) ≡ cond b (bad (32 + i)) (beyond_verdict (suc i) ls ms ts)
    by true rest = ap (λ (c : Bool). cond c (bad (32 + i)) ok) (lt-ltb (32 + i) 40 (omega arith))
    by false rest = rest

-- ---- the windows of a watch

-- The windows W after the ticks ts: some masks say which of them count for each limit, and the windows track these. Where there are no limits, no mask need be kept.
pub record Counting (ls : List Limit) (ms : List Exp) (W : List ℕ) (ts : List Tick) : Type 0 where
  pub masks : List ℕ
  pub tracks : Tracks (map bound_of ls) W masks
  pub says : (k : ℕ) → k < length ls → Says k (limit_at ls k).production ms ts masks

module _ (ls : List Limit) (ms : List Exp) (W : List ℕ) (ts : List Tick) (c : Counting ls ms W ts) where
  bounds-long : length (map bound_of ls) ≡ length ls
  bounds-long = length-map ls bound_of

  -- limit k has a number, so they are not without limits
  pub has-limits : (k : ℕ) → k < length ls → get_or W limits_at 0 ≡ 0 → ⊥
  has-limits k h z = let n = c.tracks.limits in let b = bounds-long in omega (arith, n, b, z, h)

  -- one tick more, of mask x
  module _ (t : Tick) (x : ℕ) (b : Bits ls ms ts t x) where
    says-next : (k : ℕ) → k < length ls → Says k (limit_at ls k).production ms (ts ++ t ∷ []) (c.masks ++ x ∷ [])
    says-next k h = says-more k (limit_at ls k).production ms ts c.masks (c.says k h) t x (b k h)

    pub beyond-said : verdict_by (32 + first_beyond W x) ≡ beyond_verdict 0 ls ms (ts ++ t ∷ [])
    beyond-said =
        ap (λ (n : ℕ). verdict_by (32 + n)) (beyond-right c.tracks x)
        ∙ lowest-said ms (ts ++ t ∷ []) (c.masks ++ x ∷ []) 0 ls (let f = c.tracks.few in let n = bounds-long in omega (arith, f, n))
        (λ j h. let e : j ≡ 0 + j = omega arith in subst (λ (k : ℕ). Says k (limit_at ls j).production ms (ts ++ t ∷ []) (c.masks ++ x ∷ [])) e (says-next j h))

    pub counting-on : Counting ls ms (windows_after W x) (ts ++ t ∷ [])
    counting-on = by (unlimited W) refl
      where
        by : (a : Bool) → unlimited W ≡ a → Counting ls ms (cond a W (passed W x)) (ts ++ t ∷ [])
        by true e = record { masks = c.masks; tracks = c.tracks; says = λ k h. absurd (has-limits k h (eqb-true (get_or W limits_at 0) 0 e)) }
        by false e = record { masks = c.masks ++ x ∷ []; tracks = pass-right c.tracks x; says = says-next }

-- ---- at opening

limit-in : (ls : List Limit) (k : ℕ) → k < length ls → limit_at ls k ∈ ls
limit-in [] k h = absurd (omega arith)
limit-in (l ∷ ls) zero h = here refl
limit-in (l ∷ ls) (suc k) h = there (limit-in ls k (omega arith))

pub counting-none : (ls : List Limit) (ms : List Exp) → length ls ≤ 8 → ((l : Limit) → l ∈ ls → (1 ≤ l.window) × (l.window ≤ 1024) × (l.most < l.window))
    → Counting ls ms (opened_windows (map limit_word ls) (length ls)) []
unfolding counts_from
counting-none ls ms few proper = record {
  masks = [];
  tracks = subst (λ (n : ℕ). Tracks (map bound_of ls) (opened_windows (map limit_word ls) n) []) long
      (opened-tracks (map bound_of ls) (map limit_word ls) (omega (arith, long, few))
      (λ k h. let (a, b, d) = at k h in subst Proper (sym (its-bound k)) (a, b))
      (λ k h. let (a, b, d) = at k h in let l = limit_at ls k in
      subst (Carries (get_or (map limit_word ls) k 0)) (sym (its-bound k))
      (subst (λ (w : ℕ). Carries w (bound_of l)) (sym (map_at limit_word (limit_at [] 0) ls k (omega (arith, h, long))))
      (quad-1 l.production l.most l.window 0 (omega (arith, b, d)), quad-2 l.production l.most l.window 0 (omega (arith, b))))));
  says = λ k h. refl;
}
  where
    long : length (map bound_of ls) ≡ length ls
    long = length-map ls bound_of

    its-bound : (k : ℕ) → bound (map bound_of ls) k ≡ bound_of (limit_at ls k)
    its-bound k = get_or-map bound_of ls k (limit_at [] 0)

    at : (k : ℕ) → k < length (map bound_of ls) → (1 ≤ (limit_at ls k).window) × ((limit_at ls k).window ≤ 1024) × ((limit_at ls k).most < (limit_at ls k).window)
    at k h = proper (limit_at ls k) (limit-in ls k (omega (arith, h, long)))

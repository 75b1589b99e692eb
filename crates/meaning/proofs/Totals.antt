-- How often letters were met: one tick more, the sum in both orders, and no number above that of the ticks. Assumes nothing.
use mathlib.Core.Path.{◌≡◌, refl, sym, ap, ap₂, ◌∙◌, fun_ext}
use mathlib.Core.Bool.{Bool, true, false, cond}
use mathlib.Core.List.{List, [], ◌∷◌, ◌++◌, map, append-nil, append_assoc}
use Prim.Native.Nat.{ℕ, suc, ◌+◌, ◌≤◌}
use native.Mathlib.Omega.{arith}
use lib.ListN.{length}
use Rattle.meaning.specs.Lists.{total, count, member}
use Rattle.meaning.specs.Expression.{Letter, Exp, letters}
use Rattle.meaning.specs.Fit.{Tick, met}
use Rattle.meaning.specs.Totals.{met_from, times_from, totals, sum, met_at, met_over}

-- ---- sums

module _ {A : Type 0} where
  total-map : {B : Type 0} (f : B → ℕ) (g : A → B) (xs : List A) → total f (map g xs) ≡ total (λ x. f (g x)) xs
  total-map f g [] = refl
  total-map f g (x ∷ xs) = ap (λ n. f (g x) + n) (total-map f g xs)

  total-zero : (xs : List A) → total (λ x. 0) xs ≡ 0
  total-zero [] = refl
  total-zero (x ∷ xs) = let e = total-zero xs in omega (arith, e)

  total-plus : (f g : A → ℕ) (xs : List A) → total (λ x. f x + g x) xs ≡ total f xs + total g xs
  total-plus f g [] = refl
  total-plus f g (x ∷ xs) = let e = total-plus f g xs in omega (arith, e)

  total-same : (f g : A → ℕ) → ((x : A) → f x ≡ g x) → (xs : List A) → total f xs ≡ total g xs
  total-same f g h [] = refl
  total-same f g h (x ∷ xs) = ap₂ ◌+◌ (h x) (total-same f g h xs)

-- ---- the sum over letters is that over ticks

-- how often the letters of m were met, one tick more in front
times_more : (m : Exp) (before : List Tick) (t : Tick) (ts : List Tick)
    → total (λ n. n) (times_from m before (t ∷ ts)) ≡ count (λ l. member l.number (met m before t)) (letters m) + total (λ n. n) (times_from m (before ++ t ∷ []) ts)
unfolding met_from
times_more m before t ts =
    total-map (λ n. n) (λ (l : Letter). count (member l.number) (met_from m before (t ∷ ts))) (letters m)
    ∙ total-plus (λ (l : Letter). cond (member l.number (met m before t)) 1 0) (λ (l : Letter). count (member l.number) (met_from m (before ++ t ∷ []) ts)) (letters m)
    ∙ ap (λ n. count (λ l. member l.number (met m before t)) (letters m) + n)
    (sym (total-map (λ n. n) (λ (l : Letter). count (member l.number) (met_from m (before ++ t ∷ []) ts)) (letters m)))

none-met : (m : Exp) (before : List Tick) → total (λ n. n) (times_from m before []) ≡ 0
unfolding met_from
none-met m before = total-map (λ n. n) (λ (l : Letter). 0) (letters m) ∙ total-zero (letters m)

sum-from : (ms : List Exp) (before ts : List Tick) → total (λ m. total (λ n. n) (times_from m before ts)) ms ≡ met_over ms before ts
unfolding met_over
sum-from ms before [] = total-same _ (λ m. 0) (λ m. none-met m before) ms ∙ total-zero ms
sum-from ms before (t ∷ ts) =
    total-same _ _ (λ m. times_more m before t ts) ms
    ∙ total-plus (λ m. count (λ l. member l.number (met m before t)) (letters m)) (λ m. total (λ n. n) (times_from m (before ++ t ∷ []) ts)) ms
    ∙ ap (λ n. met_at ms before t + n) (sum-from ms (before ++ t ∷ []) ts)

-- F28, both ways
pub sum-over-ticks : (ms : List Exp) (ts : List Tick) → sum (totals ms ts) ≡ met_over ms [] ts
sum-over-ticks ms ts = total-map (total (λ n. n)) (λ m. times_from m [] ts) ms ∙ sum-from ms [] ts

-- ---- one tick more, and the most that a number can be

met-snoc : (m : Exp) (before ts : List Tick) (t : Tick) → met_from m before (ts ++ t ∷ []) ≡ met_from m before ts ++ met m (before ++ ts) t ∷ []
unfolding met_from
met-snoc m before [] t = ap (λ us. met m us t ∷ []) (sym (append-nil before))
met-snoc m before (u ∷ ts) t =
    ap (λ ns. met m before u ∷ ns)
    (met-snoc m (before ++ u ∷ []) ts t ∙ ap (λ us. met_from m (before ++ u ∷ []) ts ++ met m us t ∷ []) (append_assoc before (u ∷ []) ts))

count-snoc : (n : ℕ) (nss : List (List ℕ)) (ns : List ℕ) → count (member n) (nss ++ ns ∷ []) ≡ cond (member n ns) (suc (count (member n) nss)) (count (member n) nss)
count-snoc n [] ns = by (member n ns)
  where
    by : (b : Bool) → cond b 1 0 + 0 ≡ cond b 1 0
    by true = refl
    by false = refl
count-snoc n (ks ∷ nss) ns = ap (λ k. cond (member n ks) 1 0 + k) (count-snoc n nss ns) ∙ by (member n ns)
  where
    by : (b : Bool) → cond (member n ks) 1 0 + cond b (suc (count (member n) nss)) (count (member n) nss) ≡ cond b (suc (count (member n) (ks ∷ nss))) (count (member n) (ks ∷ nss))
    by true = omega arith
    by false = refl

-- F27: each letter that is met at the tick behind has one more
pub times_snoc : (m : Exp) (ts : List Tick) (t : Tick)
    → times_from m [] (ts ++ t ∷ [])
    ≡ map (λ l. cond (member l.number (met m ts t)) (suc (count (member l.number) (met_from m [] ts))) (count (member l.number) (met_from m [] ts))) (letters m)
times_snoc m ts t =
    ap (λ f. map f (letters m)) (fun_ext (λ (l : Letter). ap (count (member l.number)) (met-snoc m [] ts t) ∙ count-snoc l.number (met_from m [] ts) (met m ts t)))

met-long : (m : Exp) (before ts : List Tick) → length (met_from m before ts) ≡ length ts
unfolding met_from
met-long m before [] = refl
met-long m before (t ∷ ts) = ap suc (met-long m (before ++ t ∷ []) ts)

pub times-few : (m : Exp) (n : ℕ) (ts : List Tick) → count (member n) (met_from m [] ts) ≤ length ts
times-few m n ts = let a = met-long m [] ts in let b = few (met_from m [] ts) in omega (arith, a, b)
  where
    one : (b : Bool) → cond b 1 0 ≤ 1
    one true = omega arith
    one false = omega arith

    few : (nss : List (List ℕ)) → count (member n) nss ≤ length nss
    few [] = omega arith
    few (ns ∷ nss) = let a = one (member n ns) in let b = few nss in omega (arith, a, b)

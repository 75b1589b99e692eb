-- Lists that are stored in an array stand in it, and what that says of one index. Assumes nothing.
use mathlib.Core.Path.{◌≡◌, refl, sym, ap, ap₂, ◌∙◌, subst}
use mathlib.Core.List.{List, [], ◌∷◌, ◌++◌, map}
use Prim.Native.Nat.{ℕ, zero, suc, ◌+◌, ◌-◌, ◌<◌, ◌≤◌}
use native.Mathlib.Nat.{not-suc-le-zero, le_of_suc-le-suc}
use native.Mathlib.Omega.{arith}
use lib.ListN.{length, get_or, take, drop, set, length-set, replicate, length-replicate, drop_of_length-le}
use Rattle.std.proofs.lemmas.List.{append_assoc, drop-drop}
use lib.Seq.{sets, sets-eq, take_at, drop-cons, get_or-set_same, get_or-set_other}
use Rattle.meaning.proofs.Rows.{Stands}
use Rattle.meaning.proofs.Within.{Each}

module _ {A : Type 0} where
  -- ---- a list that stands from a place on

  pub stands_at : (f : ℕ → A) (d : A) (k : ℕ) (xs : List A) (i : ℕ) → i < length xs → Stands f k xs → f (k + i) ≡ get_or xs i d
  stands_at f d k [] i h s = absurd (not-suc-le-zero h)
  stands_at f d k (x ∷ xs) zero h s = let e : k + 0 ≡ k = omega arith in ap f e ∙ s.0
  stands_at f d k (x ∷ xs) (suc i) h s =
      let e : k + suc i ≡ suc k + i = omega arith in
      ap f e ∙ stands_at f d (suc k) xs i (le_of_suc-le-suc h) s.1

  pub front : (f : ℕ → A) (k : ℕ) (xs ys : List A) → Stands f k (xs ++ ys) → Stands f k xs
  front f k [] ys s = tt
  front f k (x ∷ xs) ys s = (s.0, front f (suc k) xs ys s.1)

  pub rear : (f : ℕ → A) (k n : ℕ) (xs ys : List A) → n ≡ k + length xs → Stands f k (xs ++ ys) → Stands f n ys
  rear f k n [] ys e s = let q : k ≡ n = omega arith in subst (λ (i : ℕ). Stands f i ys) q s
  rear f k n (x ∷ xs) ys e s = rear f (suc k) n xs ys (omega arith) s.1

  stands-behind : (f : ℕ → A) (k : ℕ) (xs : List A) → Stands (λ n. f (suc n)) k xs → Stands f (suc k) xs
  stands-behind f k [] s = tt
  stands-behind f k (x ∷ xs) s = (s.0, stands-behind f (suc k) xs s.1)

  -- in itself
  pub stands_self : (d : A) (xs : List A) → Stands (λ n. get_or xs n d) 0 xs
  stands_self d [] = tt
  stands_self d (x ∷ xs) = (refl, stands-behind (λ n. get_or (x ∷ xs) n d) 0 xs (stands_self d xs))

  -- ---- what all elements have

  module _ (P : A → Type 0) where
    pub each_append : (xs ys : List A) → Each P xs → Each P ys → Each P (xs ++ ys)
    each_append [] ys p q = q
    each_append (x ∷ xs) ys p q = (p.0, each_append xs ys p.1 q)

    pub each_at : (d : A) (xs : List A) (i : ℕ) → i < length xs → Each P xs → P (get_or xs i d)
    each_at d [] i h p = absurd (not-suc-le-zero h)
    each_at d (x ∷ xs) zero h p = p.0
    each_at d (x ∷ xs) (suc i) h p = each_at d xs i (le_of_suc-le-suc h) p.1

pub map_at : {A : Type 0} (f : A → ℕ) (d : A) (xs : List A) (i : ℕ) → i < length xs → get_or (map f xs) i 0 ≡ f (get_or xs i d)
map_at f d [] i h = absurd (not-suc-le-zero h)
map_at f d (x ∷ xs) zero h = refl
map_at f d (x ∷ xs) (suc i) h = map_at f d xs i (le_of_suc-le-suc h)

-- ---- stored in an array

-- a turn of a loop that stores a list: the element at i, and then those behind it
pub put-more : (o₀ o o' xs : List ℕ) (at place place' i : ℕ) → i < length xs → sets o₀ at xs ≡ sets o place (drop i xs)
    → o' ≡ set o place (get_or xs i 0) → place' ≡ place + 1 → sets o₀ at xs ≡ sets o' place' (drop (i + 1) xs)
put-more o₀ o o' xs at place place' i h e p q =
    let s : suc place ≡ place' = omega (arith, q) in
    let t : suc i ≡ i + 1 = omega arith in
    e ∙ ap (sets o place) (drop-cons xs i 0 h)
    ∙ ap₂ (λ (l : List ℕ) (m : ℕ). sets l m (drop (suc i) xs)) (sym p) s
    ∙ ap (λ (m : ℕ). sets o' place' (drop m xs)) t

pub put-end : (o₀ o xs : List ℕ) (at place i : ℕ) → length xs ≤ i → sets o₀ at xs ≡ sets o place (drop i xs) → o ≡ sets o₀ at xs
put-end o₀ o xs at place i h e = sym (e ∙ ap (sets o place) (drop_of_length-le xs h))

pub before : (K : List ℕ) (i j : ℕ) (xs : List ℕ) → j < i → get_or (sets K i xs) j 0 ≡ get_or K j 0
before K i j [] h = refl
before K i j (x ∷ xs) h = before (set K i x) (suc i) j xs (omega arith) ∙ get_or-set_other K i j x 0 (λ (e : j ≡ i). omega arith)

pub stored-from : (K : List ℕ) (i : ℕ) (xs : List ℕ) → i + length xs ≤ length K → Stands (λ n. get_or (sets K i xs) n 0) i xs
stored-from K i [] h = tt
stored-from K i (x ∷ xs) h = (
  before (set K i x) (suc i) i xs (omega arith) ∙ get_or-set_same K i x 0 (omega arith),
  stored-from (set K i x) (suc i) xs (omega (arith, length-set K i x)),
)

-- in one of n zeros
pub stored : (n : ℕ) (xs : List ℕ) → length xs ≤ n → Stands (λ i. get_or (sets (replicate n 0) 0 xs) i 0) 0 xs
stored n xs h = stored-from (replicate n 0) 0 xs (omega (arith, length-replicate {A = ℕ} n 0))

pub stored_at : (n : ℕ) (xs : List ℕ) (i : ℕ) → length xs ≤ n → i < length xs → get_or (sets (replicate n 0) 0 xs) i 0 ≡ get_or xs i 0
stored_at n xs i h l =
    let e : i ≡ 0 + i = omega arith in
    ap (λ (j : ℕ). get_or (sets (replicate n 0) 0 xs) j 0) e ∙ stands_at (λ j. get_or (sets (replicate n 0) 0 xs) j 0) 0 0 xs i l (stored n xs h)

-- it is the first of what is there then
pub taken : (n k : ℕ) (xs : List ℕ) → length xs ≡ k → k ≤ n → take k (sets (replicate n 0) 0 xs) ≡ xs
taken n k xs e h =
    ap (take k) (sets-eq xs (replicate n 0) 0 (omega (arith, length-replicate {A = ℕ} n 0))) ∙ take_at xs (drop (0 + length xs) (replicate n 0)) k e

-- equal elements, less the first n
pub drop-replicate : (n k a : ℕ) → drop n (replicate k a) ≡ replicate (k - n) a
drop-replicate zero k a = ap (λ (m : ℕ). replicate m a) (let e : k ≡ k - 0 = omega arith in e)
drop-replicate (suc n) zero a = ap (λ (m : ℕ). replicate m a) (let e : 0 ≡ 0 - suc n = omega arith in e)
drop-replicate (suc n) (suc k) a = drop-replicate n k a ∙ ap (λ (m : ℕ). replicate m a) (let e : k - n ≡ suc k - suc n = omega arith in e)

-- a list stored at once
pub put-whole : (o n xs : List ℕ) (at k : ℕ) → at + length xs ≤ length o → k ≡ length xs → n ≡ xs → take at o ++ (n ++ drop k (drop at o)) ≡ sets o at xs
put-whole o n xs at k h e p =
    ap₂ (λ (ys : List ℕ) (m : ℕ). take at o ++ (ys ++ drop m (drop at o))) p e
    ∙ ap (λ (r : List ℕ). take at o ++ (xs ++ r)) (drop-drop (length xs) at o)
    ∙ sym (append_assoc (take at o) xs (drop (at + length xs) o))
    ∙ sym (sets-eq xs o at h)

-- Small functions on lists that the definitions share.
use mathlib.Core.List.{List, [], ◌∷◌, ◌++◌, Memᴰ}
use Rattle.std.specs.Prelude.{Bool, true, false, cond, ◌&&◌, ◌||◌, ℕ, zero, suc, ◌+◌, eqb}

infix 50 ◌∈◌
abbrev pub ◌∈◌ : {A : Type 0} → A → List A → Type 0
x ∈ xs = Memᴰ x xs

module _ {A B : Type 0} where
  -- all that f makes of the elements, in order
  abbrev pub each : List A → (A → List B) → List B
  each [] f = []
  each (x ∷ xs) f = f x ++ each xs f

  -- a value carried from left to right
  abbrev pub carry : (B → A → B) → B → List A → B
  carry f b [] = b
  carry f b (x ∷ xs) = carry f (f b x) xs

module _ {A : Type 0} where
  abbrev pub any : (A → Bool) → List A → Bool
  any p [] = false
  any p (x ∷ xs) = p x || any p xs

  abbrev pub all : (A → Bool) → List A → Bool
  all p [] = true
  all p (x ∷ xs) = p x && all p xs

  abbrev pub total : (A → ℕ) → List A → ℕ
  total f [] = 0
  total f (x ∷ xs) = f x + total f xs

  -- how many pass the test
  abbrev pub count : (A → Bool) → List A → ℕ
  count p xs = total (λ x. cond (p x) 1 0) xs

  abbrev pub null : List A → Bool
  null [] = true
  null (x ∷ xs) = false

  -- the list if the test passes, else nothing
  abbrev pub only : Bool → List A → List A
  only true xs = xs
  only false xs = []

-- those that pass the test, in order
abbrev pub keep : {A : Type 0} → (A → Bool) → List A → List A
keep p xs = each xs (λ x. only (p x) (x ∷ []))

-- the numbers below n, from the highest on
abbrev pub below : ℕ → List ℕ
below zero = []
below (suc n) = n ∷ below n

abbrev pub member : ℕ → List ℕ → Bool
member n ns = any (eqb n) ns

-- Facts about `&&`, `||`, choices and the test of equality.
-- Assumes nothing.
use mathlib.Core.Path.{◌≡◌, refl, sym, ◌∙◌}
use Prim.Native.Nat.{ℕ}
use lib.Dec.{eqb}
use borrow.Author.Tests.{eqb-true, eqb-false, eq-eqb, ne_eqb}
use mathlib.Core.Bool.{Bool, true, false, cond, ◌&&◌, ◌||◌, false≢true, true≢false}

pub and_left : (a b : Bool) → a && b ≡ true → a ≡ true
and_left true b e = refl
and_left false b e = e

pub and_right : (a b : Bool) → a && b ≡ true → b ≡ true
and_right true b e = e
and_right false b e = absurd (false≢true e)

pub and-false : (a : Bool) → a && false ≡ false
and-false true = refl
and-false false = refl

pub or-true : (a : Bool) → a || true ≡ true
or-true true = refl
or-true false = refl

pub or-false : (a : Bool) → a || false ≡ a
or-false true = refl
or-false false = refl

pub or_left : (a b : Bool) → a || b ≡ false → a ≡ false
or_left true b e = e
or_left false b e = refl

pub or_right : (a b : Bool) → a || b ≡ false → b ≡ false
or_right true b e = absurd (true≢false e)
or_right false b e = e

pub not-true : (t : Bool) → (t ≡ true → ⊥) → t ≡ false
not-true true h = absurd (h refl)
not-true false h = refl

-- by what the first test gives
pub taken : {A : Type 0} (b : Bool) (x y : A) → b ≡ true → cond b x y ≡ x
taken b x y e = rw e refl

pub left : {A : Type 0} (b : Bool) (x y : A) → b ≡ false → cond b x y ≡ y
left b x y e = rw e refl

pub either : (a b : Bool) → a ≡ true → true ≡ (a || b)
either a b e = rw e refl

pub other : (a b : Bool) → a ≡ false → b ≡ (a || b)
other a b e = rw e refl

pub neither : (a b : Bool) → a ≡ false → false ≡ (a && b)
neither a b e = rw e refl

pub both : (a b : Bool) → a ≡ true → b ≡ (a && b)
both a b e = rw e refl

pub eqb-sym : (m n : ℕ) → eqb m n ≡ eqb n m
eqb-sym m n = go (eqb n m) refl
  where
    go : (t : Bool) → eqb n m ≡ t → eqb m n ≡ t
    go true e = eq-eqb m n (sym (eqb-true n m e))
    go false e = ne_eqb m n (λ q. eqb-false n m e (sym q))

-- what is true and false at once proves anything
pub clash : {A : Type 0} (t : Bool) → t ≡ true → t ≡ false → A
clash t e f = absurd (true≢false (sym e ∙ f))

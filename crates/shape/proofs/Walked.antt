-- The walk over rows that hold an expression makes of them what it makes of the expression. Assumes nothing.
use mathlib.Core.List.{List}
use mathlib.Core.Path.{◌≡◌, refl, sym, ap, ◌∙◌, subst}
use Prim.Native.Nat.{ℕ, ◌+◌, ◌-◌, ◌≤◌}
use native.Mathlib.Omega.{arith}
use lib.ListN.{get_or}
use Rattle.meaning.specs.Expression.{Letter, Exp, letter, seq, alt, star, pipe, size, rows, Ordered}
use Rattle.masks.specs.Masks as masks
use Rattle.shape.specs.Walk.{walk_at}
use Rattle.shape.specs.Held.{RowsHold}
use Rattle.shape.proofs.ByKind.{walk-letter, walk-star, walk-two}

module _ {A : Type 0} (of_letter : Letter → A) (of_star : A → A) (of_two : ℕ → A → A → A) where
  -- what is made of an expression
  unfoldable pub folded : Exp → A
  folded (letter x) = of_letter x
  folded (seq e f) = of_two 1 (folded e) (folded f)
  folded (alt e f) = of_two 2 (folded e) (folded f)
  folded (star e) = of_star (folded e)
  folded (pipe e f) = of_two 4 (folded e) (folded f)

-- letters counted on behind the left operand
pub behind : (kind left right look want : List ℕ) (r i j : ℕ) (e f : Exp) → RowsHold kind left right look want r (i + j + size e) f
    → RowsHold kind left right look want r (i + (j + size e)) f
behind kind left right look want r i j e f h =
    let p : i + j + size e ≡ i + (j + size e) = omega arith in subst (λ (l : ℕ). RowsHold kind left right look want r l f) p h

module _ {A : Type 0} (kind left right look want : List ℕ) (nothing : A) (by_index : ℕ → A) (of_star : A → A) (of_two : ℕ → A → A → A)
    (first : ℕ) (of_letter : Letter → A) (same : (x : Letter) → get_or look (first + x.number) 0 ≡ masks.look x.literals
    → get_or want (first + x.number) 0 ≡ masks.want x.literals → by_index (first + x.number) ≡ of_letter x) where
  abbrev walk : (n row : ℕ) → A
  walk n row = walk_at kind left right nothing by_index of_star of_two n row

  abbrev fold : Exp → A
  fold e = folded of_letter of_star of_two e

  abbrev Right : Exp → Type 0
  Right e = (n r j : ℕ) → Ordered j e → RowsHold kind left right look want r (first + j) e → rows e ≤ n → walk n r ≡ fold e

  -- two operands
  two : (k : ℕ) (e f : Exp) → (k ≡ 0 → ⊥) → (k ≡ 3 → ⊥) → Right e → Right f → (n r j : ℕ) → Ordered j e × Ordered (j + size e) f
      → (get_or kind r 0 ≡ k) × RowsHold kind left right look want (get_or left r 0) (first + j) e × RowsHold kind left right look want (get_or right r 0) (first + j + size e) f
      → 1 + rows e + rows f ≤ n → walk n r ≡ of_two k (fold e) (fold f)
  two k e f p q g i n r j (o, u) (is, a, b) h =
      walk-two kind left right nothing by_index of_star of_two n r (λ z. omega arith) (sym is) refl p q refl (sym (g (n - 1) (get_or left r 0) j o a (omega arith)))
      (sym (i (n - 1) (get_or right r 0) (j + size e) u (behind kind left right look want (get_or right r 0) first j e f b) (omega arith)))

  pub walk-held : (e : Exp) → Right e
  unfolding folded rows
  walk-held (letter x) n r j o (k, a, p, q) h =
      let i : first + x.number ≡ first + j = ap (λ (l : ℕ). first + l) o in
      walk-letter kind left right nothing by_index of_star of_two n r (λ z. omega arith) (sym k) (i ∙ sym a) refl
      ∙ same x (ap (λ (l : ℕ). get_or look l 0) i ∙ p) (ap (λ (l : ℕ). get_or want l 0) i ∙ q)
  walk-held (seq e f) n r j o a h = two 1 e f (λ z. omega arith) (λ z. omega arith) (walk-held e) (walk-held f) n r j o a h
  walk-held (alt e f) n r j o a h = two 2 e f (λ z. omega arith) (λ z. omega arith) (walk-held e) (walk-held f) n r j o a h
  walk-held (star e) n r j o (k, a) h =
      walk-star kind left right nothing by_index of_star of_two n r (λ z. omega arith) (sym k) refl refl
      (sym (walk-held e (n - 1) (get_or left r 0) j o a (omega arith)))
  walk-held (pipe e f) n r j o a h = two 4 e f (λ z. omega arith) (λ z. omega arith) (walk-held e) (walk-held f) n r j o a h

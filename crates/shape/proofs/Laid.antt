-- Rows laid out one behind the other hold their expression, and keep it whatever is written behind them. Assumes nothing.
use mathlib.Core.List.{List}
use mathlib.Core.Path.{◌≡◌, sym, ◌∙◌, subst}
use Prim.Native.Nat.{ℕ, ◌+◌, ◌≤◌, ◌<◌}
use native.Mathlib.Omega.{arith}
use lib.ListN.{get_or}
use Rattle.meaning.specs.Expression.{Exp, letter, seq, alt, star, pipe, size, rows}
use Rattle.shape.specs.Held.{RowsHold, RowsLaid}

module _ (kind left right look want : List ℕ) where
  abbrev Laid : (r l : ℕ) → Exp → Type 0
  Laid r l e = RowsLaid kind left right look want r l e

  abbrev Held : (r l : ℕ) → Exp → Type 0
  Held r l e = RowsHold kind left right look want r l e

  two-held : (k r l : ℕ) (e f : Exp) → ((r l : ℕ) → Laid r l e → Held r l e) → ((r l : ℕ) → Laid r l f → Held r l f)
      → (get_or kind r 0 ≡ k) × (get_or left r 0 ≡ r + 1) × (get_or right r 0 ≡ r + 1 + rows e) × Laid (r + 1) l e × Laid (r + 1 + rows e) (l + size e) f
      → (get_or kind r 0 ≡ k) × Held (get_or left r 0) l e × Held (get_or right r 0) (l + size e) f
  two-held k r l e f g h (is, p, q, a, b) = (
    is,
    subst (λ (s : ℕ). Held s l e) (sym p) (g (r + 1) l a),
    subst (λ (s : ℕ). Held s (l + size e) f) (sym q) (h (r + 1 + rows e) (l + size e) b),
  )

  pub laid-held : (e : Exp) (r l : ℕ) → Laid r l e → Held r l e
  laid-held (letter x) r l h = h
  laid-held (seq e f) r l h = two-held 1 r l e f (laid-held e) (laid-held f) h
  laid-held (alt e f) r l h = two-held 2 r l e f (laid-held e) (laid-held f) h
  laid-held (star e) r l (k, p, a) = (k, subst (λ (s : ℕ). Held s l e) (sym p) (laid-held e (r + 1) l a))
  laid-held (pipe e f) r l h = two-held 4 r l e f (laid-held e) (laid-held f) h

-- two lists have the same n numbers from a on
abbrev pub Same : List ℕ → List ℕ → (a n : ℕ) → Type 0
Same xs ys a n = (i : ℕ) → a ≤ i → i < a + n → get_or ys i 0 ≡ get_or xs i 0

-- the arrays before and after
module _ (kind left right look want kind' left' right' look' want' : List ℕ) where
  pub record Kept (r l n k : ℕ) : Type 0 where
    pub kinds : Same kind kind' r n
    pub lefts : Same left left' r n
    pub rights : Same right right' r n
    pub looks : Same look look' l k
    pub wants : Same want want' l k

  -- fewer rows and letters are kept too
  part : {r l n k : ℕ} (s m o j : ℕ) → r ≤ s → s + o ≤ r + n → l ≤ m → m + j ≤ l + k → Kept r l n k → Kept s m o j
  part s m o j a b c d h = record {
    kinds = λ i p q. h.kinds i (omega arith) (omega arith);
    lefts = λ i p q. h.lefts i (omega arith) (omega arith);
    rights = λ i p q. h.rights i (omega arith) (omega arith);
    looks = λ i p q. h.looks i (omega arith) (omega arith);
    wants = λ i p q. h.wants i (omega arith) (omega arith);
  }

  abbrev Before : (r l : ℕ) → Exp → Type 0
  Before r l e = RowsLaid kind left right look want r l e

  abbrev After : (r l : ℕ) → Exp → Type 0
  After r l e = RowsLaid kind' left' right' look' want' r l e

  abbrev Stays : Exp → Type 0
  Stays e = (r l : ℕ) → Kept r l (rows e) (size e) → Before r l e → After r l e

  two-kept : (k : ℕ) (e f : Exp) → Stays e → Stays f → (r l : ℕ) → Kept r l (1 + rows e + rows f) (size e + size f)
      → (get_or kind r 0 ≡ k) × (get_or left r 0 ≡ r + 1) × (get_or right r 0 ≡ r + 1 + rows e) × Before (r + 1) l e × Before (r + 1 + rows e) (l + size e) f
      → (get_or kind' r 0 ≡ k) × (get_or left' r 0 ≡ r + 1) × (get_or right' r 0 ≡ r + 1 + rows e) × After (r + 1) l e × After (r + 1 + rows e) (l + size e) f
  two-kept k e f g i r l h (is, p, q, a, b) = (
    h.kinds r (omega arith) (omega arith) ∙ is,
    h.lefts r (omega arith) (omega arith) ∙ p,
    h.rights r (omega arith) (omega arith) ∙ q,
    g (r + 1) l (part (r + 1) l (rows e) (size e) (omega arith) (omega arith) (omega arith) (omega arith) h) a,
    i (r + 1 + rows e) (l + size e) (part (r + 1 + rows e) (l + size e) (rows f) (size f) (omega arith) (omega arith) (omega arith) (omega arith) h) b,
  )

  pub laid_kept : (e : Exp) → Stays e
  unfolding rows size
  laid_kept (letter x) r l h (k, p, q, w) = (
    h.kinds r (omega arith) (omega arith) ∙ k,
    h.lefts r (omega arith) (omega arith) ∙ p,
    h.looks l (omega arith) (omega arith) ∙ q,
    h.wants l (omega arith) (omega arith) ∙ w,
  )
  laid_kept (seq e f) r l h a = two-kept 1 e f (laid_kept e) (laid_kept f) r l h a
  laid_kept (alt e f) r l h a = two-kept 2 e f (laid_kept e) (laid_kept f) r l h a
  laid_kept (star e) r l h (k, p, a) = (
    h.kinds r (omega arith) (omega arith) ∙ k,
    h.lefts r (omega arith) (omega arith) ∙ p,
    laid_kept e (r + 1) l (part (r + 1) l (rows e) (size e) (omega arith) (omega arith) (omega arith) (omega arith) h) a,
  )
  laid_kept (pipe e f) r l h a = two-kept 4 e f (laid_kept e) (laid_kept f) r l h a

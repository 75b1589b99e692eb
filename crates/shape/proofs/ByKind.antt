-- A step of the walk over the rows, by the row's kind. Assumes nothing.
use mathlib.Core.List.{List, map}
use mathlib.Core.Path.{◌≡◌, refl, sym, ap, ◌∙◌, subst}
use Prim.Native.Nat.{ℕ, zero, suc, ◌-◌}
use native.Mathlib.Omega.{arith}
use lib.ListN.{get_or, get_or-map}
use borrow.Author.Tests.{ne_eqb}
use Rattle.words.specs.declared.rows.RowKind.{RowKind}
use Rattle.words.specs.declared.rows.RowKind.TheVariants.{Letter, Sequence, Alternative, Star, Pipe}
use Rattle.shape.specs.Walk.{CountsAs, by_kind, by_operator, walk_at}

-- what a row's word has is what the list of it has at that row
pub part_at : (f : ℕ → ℕ) → f 0 ≡ 0 → (T : List ℕ) (row : ℕ) {w k : ℕ} → w ≡ get_or T row 0 → k ≡ f w → k ≡ get_or (map f T) row 0
part_at f z T row e q = q ∙ ap f e ∙ sym (get_or-map f T row 0) ∙ ap (get_or (map f T) row) z

-- what a row counts as: its kind told; no letter and no star; and none of the four others
pub counted : (K J : RowKind) (k : ℕ) → CountsAs K k → K ≡ J → CountsAs J k
counted K J k h e = subst (λ (x : RowKind). CountsAs x k) e h

pub is_two : (K : RowKind) (k : ℕ) → CountsAs K k → (K ≡ Letter → ⊥) → (K ≡ Star → ⊥) → (k ≡ 0 → ⊥) × (k ≡ 3 → ⊥)
is_two Letter k h a d = absurd (a refl)
is_two Sequence k h a d = (λ z. omega arith, λ z. omega arith)
is_two Alternative k h a d = (λ z. omega arith, λ z. omega arith)
is_two Star k h a d = absurd (d refl)
is_two Pipe k h a d = (h.0, h.3)

pub is_pipe : (K : RowKind) (k : ℕ) → CountsAs K k → (K ≡ Letter → ⊥) → (K ≡ Sequence → ⊥) → (K ≡ Alternative → ⊥) → (K ≡ Star → ⊥) → CountsAs Pipe k
is_pipe Letter k h a b c d = absurd (a refl)
is_pipe Sequence k h a b c d = absurd (b refl)
is_pipe Alternative k h a b c d = absurd (c refl)
is_pipe Star k h a b c d = absurd (d refl)
is_pipe Pipe k h a b c d = h

module _ {A : Type 0} (k : ℕ) (x y z : A) where
  pub by-letter : k ≡ 0 → by_kind k x y z ≡ x
  by-letter p = rw p

  pub by-star : k ≡ 3 → by_kind k x y z ≡ y
  by-star p = rw p

  pub by_two : (k ≡ 0 → ⊥) → (k ≡ 3 → ⊥) → by_kind k x y z ≡ z
  by_two p q = rw (ne_eqb k 0 p, ne_eqb k 3 q)

  pub by-seq : k ≡ 1 → by_operator k x y z ≡ x
  by-seq p = rw p

  pub by-alt : k ≡ 2 → by_operator k x y z ≡ y
  by-alt p = rw p

  pub by-pipe : (k ≡ 1 → ⊥) → (k ≡ 2 → ⊥) → by_operator k x y z ≡ z
  by-pipe p q = rw (ne_eqb k 1 p, ne_eqb k 2 q)

module _ {A : Type 0} (kind left right : List ℕ) (nothing : A) (letter : ℕ → A) (star : A → A) (two : ℕ → A → A → A) where
  abbrev walk : (n row : ℕ) → A
  walk n row = walk_at kind left right nothing letter star two n row

  pub walk_none : (n row : ℕ) → n ≡ 0 → walk n row ≡ nothing
  unfolding walk_at
  walk_none n row p = rw p

  walk_step : (n row : ℕ) → (n ≡ 0 → ⊥) → walk n row
      ≡ by_kind (get_or kind row 0) (letter (get_or left row 0)) (star (walk (n - 1) (get_or left row 0)))
      (two (get_or kind row 0) (walk (n - 1) (get_or left row 0)) (walk (n - 1) (get_or right row 0)))
  unfolding walk_at
  walk_step zero row p = absurd (p refl)
  walk_step (suc n) row p = let e : suc n - 1 ≡ n = omega arith in rw e

  module _ (n row : ℕ) {k a : ℕ} (some : n ≡ 0 → ⊥) (is-k : k ≡ get_or kind row 0) (is-a : a ≡ get_or left row 0) where
    pub walk-letter : k ≡ 0 → walk n row ≡ letter a
    walk-letter p = walk_step n row some ∙ by-letter _ _ _ _ (sym is-k ∙ p) ∙ ap letter (sym is-a)

    pub walk-star : {e : A} → k ≡ 3 → e ≡ walk (n - 1) a → walk n row ≡ star e
    walk-star {e} p q = walk_step n row some ∙ by-star _ _ _ _ (sym is-k ∙ p) ∙ ap star (ap (walk (n - 1)) (sym is-a) ∙ sym q)

    pub walk-two : {e f : A} {b : ℕ} → (k ≡ 0 → ⊥) → (k ≡ 3 → ⊥) → b ≡ get_or right row 0 → e ≡ walk (n - 1) a → f ≡ walk (n - 1) b → walk n row ≡ two k e f
    walk-two {e} {f} {b} p q is_b g h =
        let x : e ≡ walk (n - 1) (get_or left row 0) = g ∙ ap (walk (n - 1)) is-a in
        let y : f ≡ walk (n - 1) (get_or right row 0) = h ∙ ap (walk (n - 1)) is_b in
        walk_step n row some ∙ by_two _ _ _ _ (λ z. p (is-k ∙ z)) (λ z. q (is-k ∙ z)) ∙ rw (x, y, is-k)

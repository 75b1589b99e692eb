-- Looking for a name from cell to cell. Assumes nothing.
use mathlib.Core.Path.{◌≡◌, refl, sym, ◌∙◌, ap, ap₂, subst}
use mathlib.Core.Bool.{Bool, true, false}
use mathlib.Core.List.{List, [], ◌∷◌}
use mathlib.Core.Option.{none, some}
use Prim.Native.Nat.{ℕ, ◌+◌, ◌-◌, ◌<◌, ◌≤◌}
use native.Mathlib.Omega.{arith}
use lib.ListN.{length, take, drop}
use Rattle.lexer.specs.Bytes.{Entry, lookup, same}
use Rattle.meaning.specs.Names.{Meaning}
use Rattle.words.specs.Words.{part1, part2, part3}
use Rattle.rules.specs.Cells.{at, Spelled, Means, Cells, Declared, Found, Finds}

-- what the name s stands for among all is what it stands for from the cell on
pub Looked : (text P : List ℕ) → (h : ℕ) → List ℕ → ℕ → Type 0
Looked text P h s cell =
    (c : ℕ) → (es : List (Entry Meaning)) → Cells text P c h es → (fs : List (Entry Meaning)) × Cells text P c cell fs × (lookup s es ≡ lookup s fs)

pub looked-start : (text P : List ℕ) (h : ℕ) (s : List ℕ) → Looked text P h s h
unfolding Looked
looked-start text P h s c es k = (es, k, refl)

-- what is known of a cell
pub record Cell (text P : List ℕ) (c cell : ℕ) (e : Entry Meaning) (es : List (Entry Meaning)) : Type 0 where
  pub some : 0 < cell
  pub used : cell < c
  pub spelled : Spelled text P cell e.spelling
  pub means : Means P c cell e.meaning
  pub falls : part1 (at P cell) < cell
  pub rest : Cells text P c (part1 (at P cell)) es

pub cell-of : (text P : List ℕ) (c cell : ℕ) (es : List (Entry Meaning)) → Cells text P c cell es → (cell ≡ 0 → ⊥)
    → (e : Entry Meaning) × (fs : List (Entry Meaning)) × (es ≡ e ∷ fs) × Cell text P c cell e fs
unfolding Cells
cell-of text P c cell [] k n = absurd (n k)
cell-of text P c cell (e ∷ es) (a, b, s, m, l, k) n = (e, es, refl, record { some = a; used = b; spelled = s; means = m; falls = l; rest = k })

module _ (text P : List ℕ) (h : ℕ) (s : List ℕ) (cell : ℕ) (looked : Looked text P h s cell) (n : cell ≡ 0 → ⊥) where
  -- the cell is within the words, the name within the text, and the next cell is below
  pub inside : Declared text P h → (cell < length P) × (part2 (at P cell) + part3 (at P cell) ≤ length text) × (part1 (at P cell) < cell)
  unfolding Looked
  inside (c, es, l, k) =
      let (fs, j, e) = looked c es k in
      let (f, gs, q, z) = cell-of text P c cell fs j n in
      (omega (arith, z.used), z.spelled.inside, z.falls)

  -- the name at the cell is compared
  module _ (from size : ℕ) (f : from ≡ part2 (at P cell)) (z : size ≡ part3 (at P cell)) (b : Bool) (d : b ≡ same s (take (from + size - from) (drop from text))) where
    compared : same s (take (part3 (at P cell)) (drop (part2 (at P cell)) text)) ≡ b
    compared = sym (d ∙ ap (same s) (ap₂ (λ (k n : ℕ). take k (drop n text)) (let e : from + size - from ≡ size = omega arith in e ∙ z) f))

    -- the name at the cell, and those before it
    at-cell : (c : ℕ) (e : Entry Meaning) (es : List (Entry Meaning)) → Cell text P c cell e es → lookup s (e ∷ es) ≡ elim b [ true ↦ some e.meaning | false ↦ lookup s es ]
    unfolding lookup
    at-cell c e es y = ap (λ (t : Bool). elim t [ true ↦ some e.meaning | false ↦ lookup s es ]) (sym (ap (same s) y.spelled.bytes) ∙ compared)

    pub looked-next : b ≡ false → Looked text P h s (part1 (at P cell))
    unfolding Looked
    looked-next u c es k =
        let (fs, j, e) = looked c es k in
        let (g, gs, q, y) = cell-of text P c cell fs j n in
        (gs, y.rest, e ∙ ap (lookup s) q ∙ at-cell c g gs y ∙ ap (λ (t : Bool). elim t [ true ↦ some g.meaning | false ↦ lookup s gs ]) u)

    pub looked-found : b ≡ true → Finds text P h s cell
    unfolding Looked
    looked-found u c es k =
        let (fs, j, e) = looked c es k in
        let (g, gs, q, y) = cell-of text P c cell fs j n in
        subst (Found P c cell)
        (sym (e ∙ ap (lookup s) q ∙ at-cell c g gs y ∙ ap (λ (t : Bool). elim t [ true ↦ some g.meaning | false ↦ lookup s gs ]) u))
        (y.some, y.used, y.means)

pub looked-none : (text P : List ℕ) (h : ℕ) (s : List ℕ) (cell : ℕ) → Looked text P h s cell → cell ≡ 0 → Finds text P h s 0
unfolding Looked Cells lookup
looked-none text P h s cell looked z c es k =
    let (fs, j, e) = looked c es k in
    subst (Found P c 0) (sym (e ∙ none_left fs j)) refl
  where
    none_left : (fs : List (Entry Meaning)) → Cells text P c cell fs → lookup s fs ≡ none
    none_left [] j = refl
    none_left (f ∷ gs) j = let p = j.0 in absurd (omega arith)

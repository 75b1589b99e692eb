-- A walk over the rows of a table that makes of each row what its kind and its operands make of it. Assumes nothing.
use Rattle.std.specs.Prelude.{◌≡◌, ◌≢◌, cond, List, map, ℕ, zero, suc, eqb, get_or}
use Rattle.words.specs.Words.{part0, part1, part2}
use Rattle.words.specs.declared.rows.RowKind.{RowKind}
use Rattle.words.specs.declared.rows.RowKind.TheVariants.{Letter, Sequence, Alternative, Star, Pipe}

-- The rows of a table, each of which is a word: their kinds; their left operands' rows, or for a letter its index; their right operands' rows.
abbrev pub kinds : List ℕ → List ℕ
kinds T = map part0 T

abbrev pub lefts : List ℕ → List ℕ
lefts T = map part1 T

abbrev pub rights : List ℕ → List ℕ
rights T = map part2 T

-- what a row is by its kind, where one of no kind counts as an `@`
abbrev pub CountsAs : RowKind → ℕ → Type 0
CountsAs Letter k = k ≡ 0
CountsAs Sequence k = k ≡ 1
CountsAs Alternative k = k ≡ 2
CountsAs Star k = k ≡ 3
CountsAs Pipe k = (k ≢ 0) × (k ≢ 1) × (k ≢ 2) × (k ≢ 3)

-- by a row's kind: 0 a letter, 3 `*`, else an operator of two operands
abbrev pub by_kind : {A : Type 0} → ℕ → (letter star two : A) → A
by_kind k letter star two = cond (eqb k 0) letter (cond (eqb k 3) star two)

-- and of those 1 is `,`, 2 is `||`, and any other counts as 4, `@`
abbrev pub by_operator : {A : Type 0} → ℕ → (seq alt pipe : A) → A
by_operator k seq alt pipe = cond (eqb k 1) seq (cond (eqb k 2) alt pipe)

-- what is made of nothing, of a letter by its index, of a star, and of an operator of two operands by its kind
module _ {A : Type 0} (kind left right : List ℕ) (nothing : A) (letter : ℕ → A) (star : A → A) (two : ℕ → A → A → A) where
  -- n bounds how deep the walk goes
  unfoldable pub walk_at : (n row : ℕ) → A
  walk_at zero row = nothing
  walk_at (suc n) row =
      by_kind (get_or kind row 0) (letter (get_or left row 0)) (star (walk_at n (get_or left row 0)))
      (two (get_or kind row 0) (walk_at n (get_or left row 0)) (walk_at n (get_or right row 0)))

-- The rows that are stored are those of meaning's table. Assumes nothing.
use mathlib.Core.Path.{◌≡◌, sym, ◌∙◌, ap, ap₂}
use mathlib.Core.List.{List, [], ◌∷◌, ◌++◌, map, map-append}
use Prim.Native.Nat.{ℕ, suc, ◌+◌}
use native.Mathlib.Omega.{arith}
use Rattle.meaning.specs.Expression.{Exp, letter, seq, alt, star, pipe, size, rows, renumbered, Ordered}
use Rattle.meaning.specs.Table.{Row, laid}
use Rattle.meaning.proofs.Numbering.{renumbered-size, renumbered-rows}
use Rattle.words.specs.Words.{part1, part2}
use Rattle.rules.specs.Cells.{at, Denotes}
use Rattle.rules.specs.Laying.{RowCode, row_code, row_codes, code_of, ExpAt}

-- the rows of two operands
two : (x : RowCode) (l : ℕ) (xs ys : List RowCode) (us vs : List Row) → xs ≡ map (code_of l) us → ys ≡ map (code_of l) vs
    → x ∷ (xs ++ ys) ≡ x ∷ map (code_of l) (us ++ vs)
two x l xs ys us vs p q = ap₂ (λ (a b : List RowCode). x ∷ (a ++ b)) p q ∙ ap (λ (a : List RowCode). x ∷ a) (sym (map-append (code_of l) us vs))

-- for letters that are numbered from k, the first of which has the index n
pub codes-laid : (r up l k n : ℕ) (e : Exp) → n ≡ l + k → Ordered k e → row_codes r up n e ≡ map (code_of l) (laid r up e)
unfolding row_codes laid
codes-laid r up l k n (letter x) q o = ap (λ (m : ℕ). row_code 0 m 0 up ∷ []) (q ∙ ap (λ (m : ℕ). l + m) (sym o))
codes-laid r up l k n (seq e f) q (o, u) =
    two _ l _ _ (laid (suc r) r e) (laid (suc r + rows e) r f) (codes-laid (suc r) r l k n e q o)
    (codes-laid (suc r + rows e) r l (k + size e) (n + size e) f (omega arith) u)
codes-laid r up l k n (alt e f) q (o, u) =
    two _ l _ _ (laid (suc r) r e) (laid (suc r + rows e) r f) (codes-laid (suc r) r l k n e q o)
    (codes-laid (suc r + rows e) r l (k + size e) (n + size e) f (omega arith) u)
codes-laid r up l k n (star e) q o = ap (λ (a : List RowCode). row_code 3 (suc r) 0 up ∷ a) (codes-laid (suc r) r l k n e q o)
codes-laid r up l k n (pipe e f) q (o, u) =
    two _ l _ _ (laid (suc r) r e) (laid (suc r + rows e) r f) (codes-laid (suc r) r l k n e q o)
    (codes-laid (suc r + rows e) r l (k + size e) (n + size e) f (omega arith) u)

-- what stands at a node may be numbered as one likes
denotes-numbered : (P : List ℕ) (c n k : ℕ) (e : Exp) → Denotes P c n e → Denotes P c n (renumbered k e)
unfolding Denotes renumbered
denotes-numbered P c n k (letter x) d = d
denotes-numbered P c n k (seq e f) (h, p, q, d, g) = (h, p, q, denotes-numbered P c (part1 (at P n)) k e d, denotes-numbered P c (part2 (at P n)) (k + size e) f g)
denotes-numbered P c n k (alt e f) (h, p, q, d, g) = (h, p, q, denotes-numbered P c (part1 (at P n)) k e d, denotes-numbered P c (part2 (at P n)) (k + size e) f g)
denotes-numbered P c n k (star e) (h, p, d) = (h, p, denotes-numbered P c (part1 (at P n)) k e d)
denotes-numbered P c n k (pipe e f) (h, p, q, d, g) = (h, p, q, denotes-numbered P c (part1 (at P n)) k e d, denotes-numbered P c (part2 (at P n)) (k + size e) f g)

pub numbered-at : (P : List ℕ) (c n row index k : ℕ) (e : Exp) → ExpAt P c n row index e → ExpAt P c n row index (renumbered k e)
numbered-at P c n row index k e s = record {
  within = s.within;
  denotes = denotes-numbered P c n k e s.denotes;
  room = omega (arith, s.room, renumbered-rows k e);
  space = omega (arith, s.space, renumbered-size k e);
}

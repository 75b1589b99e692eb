-- Rows and letters that are stored stand where they were stored, so that the arrays hold their expression. Assumes nothing.
use mathlib.Core.Path.{◌≡◌, refl, ◌∙◌, ap, subst}
use mathlib.Core.List.{List, [], ◌∷◌, ◌++◌, map}
use Prim.Native.Nat.{ℕ, suc, ◌+◌, ◌<◌, ◌≤◌}
use native.Mathlib.Numerals.{add-one}
use native.Mathlib.Omega.{arith}
use lib.ListN.{length, get_or, set, length-set, get_or-map}
use lib.Seq.{sets, get_or-set_same, get_or-set_other}
use Rattle.meaning.specs.Expression.{Letter, Exp, letter, seq, alt, star, pipe, letters, size, rows}
use Rattle.masks.specs.Masks as masks
use Rattle.words.specs.Words.{part0, part1, part2}
use Rattle.words.proofs.Quads.{quad-0, quad-1, quad-2}
use Rattle.shape.specs.Walk.{kinds, lefts, rights}
use Rattle.shape.specs.Held.{RowsLaid}
use Rattle.rules.specs.Laying.{RowCode, row_code, row_codes, row_word, with_rows, LetterLists, with_letters}
use Rattle.rules.specs.Monitors.{Arrays}
use Rattle.rules.proofs.Placing.{codes-long, letters-long}

-- ---- one list

-- the numbers from index i on are those of a list
abbrev Stands : {A : Type 0} → List ℕ → ℕ → (A → ℕ) → List A → Type 0
Stands K i f [] = Unit {0}
Stands K i f (x ∷ xs) = (get_or K i 0 ≡ f x) × Stands K (suc i) f xs

module _ {A : Type 0} (f : A → ℕ) where
  -- what lies before is not touched
  before : (K : List ℕ) (i j : ℕ) (xs : List A) → j < i → get_or (sets K i (map f xs)) j 0 ≡ get_or K j 0
  before K i j [] l = refl
  before K i j (x ∷ xs) l = before (set K i (f x)) (suc i) j xs (omega arith) ∙ get_or-set_other K i j (f x) 0 (λ (e : j ≡ i). omega arith)

  stands : (K : List ℕ) (i : ℕ) (xs : List A) → i + length xs ≤ length K → Stands (sets K i (map f xs)) i f xs
  stands K i [] l = tt
  stands K i (x ∷ xs) l = (
    before (set K i (f x)) (suc i) i xs (omega arith) ∙ get_or-set_same K i (f x) 0 (omega arith),
    stands (set K i (f x)) (suc i) xs (omega (arith, length-set K i (f x))),
  )

  -- of two lists one behind the other
  front : (K : List ℕ) (i : ℕ) (xs ys : List A) → Stands K i f (xs ++ ys) → Stands K i f xs
  front K i [] ys s = tt
  front K i (x ∷ xs) ys (e, s) = (e, front K (suc i) xs ys s)

  rear : (K : List ℕ) (i n : ℕ) (xs ys : List A) → n ≡ i + length xs → Stands K i f (xs ++ ys) → Stands K n f ys
  rear K i n [] ys e s = let q : i ≡ n = omega arith in subst (λ (j : ℕ). Stands K j f ys) q s
  rear K i n (x ∷ xs) ys e (q, s) = rear K (suc i) n xs ys (omega arith) s

-- ---- an expression's rows and letters

module _ (T look want : List ℕ) where
  abbrev Rows : ℕ → List RowCode → Type 0
  Rows r xs = Stands T r row_word xs

  abbrev Letters : ℕ → List Letter → Type 0
  Letters l xs = Stands look l (λ x. masks.look x.literals) xs × Stands want l (λ x. masks.want x.literals) xs

  abbrev Laid : (r l : ℕ) → Exp → Type 0
  Laid r l e = RowsLaid (kinds T) (lefts T) (rights T) look want r l e

  -- the numbers of a row that stands
  row-parts : (r k a b up : ℕ) → k < 5 → a ≤ 1024 → b ≤ 1024 → get_or T r 0 ≡ row_word (row_code k a b up)
      → (get_or (kinds T) r 0 ≡ k) × (get_or (lefts T) r 0 ≡ a) × (get_or (rights T) r 0 ≡ b)
  row-parts r k a b up p q s e = (
    get_or-map part0 T r 0 ∙ ap part0 e ∙ quad-0 k a b up (omega arith),
    get_or-map part1 T r 0 ∙ ap part1 e ∙ quad-1 k a b up (omega arith),
    get_or-map part2 T r 0 ∙ ap part2 e ∙ quad-2 k a b up (omega arith),
  )

  first-letters : (l : ℕ) (e f : Exp) → Letters l (letters e ++ letters f) → Letters l (letters e)
  first-letters l e f (a, b) = (front (λ x. masks.look x.literals) look l (letters e) (letters f) a, front (λ x. masks.want x.literals) want l (letters e) (letters f) b)

  second-letters : (l : ℕ) (e f : Exp) → Letters l (letters e ++ letters f) → Letters (l + size e) (letters f)
  second-letters l e f (a, b) =
      let q : l + size e ≡ l + length (letters e) = omega (arith, letters-long e) in
      (rear (λ x. masks.look x.literals) look l (l + size e) (letters e) (letters f) q a, rear (λ x. masks.want x.literals) want l (l + size e) (letters e) (letters f) q b)

  -- where there is room for them
  abbrev Found : Exp → Type 0
  Found e = (r up l : ℕ) → r + rows e ≤ 1024 → l + size e ≤ 256 → Rows r (row_codes r up l e) → Letters l (letters e) → Laid r l e

  two-found : (k : ℕ) → k < 5 → (e f : Exp) → Found e → Found f → (r up l : ℕ) → r + (1 + rows e + rows f) ≤ 1024 → l + (size e + size f) ≤ 256
      → Rows r (row_code k (suc r) (suc r + rows e) up ∷ (row_codes (suc r) r l e ++ row_codes (suc r + rows e) r (l + size e) f)) → Letters l (letters e ++ letters f)
      → (get_or (kinds T) r 0 ≡ k) × (get_or (lefts T) r 0 ≡ r + 1) × (get_or (rights T) r 0 ≡ r + 1 + rows e) × Laid (r + 1) l e × Laid (r + 1 + rows e) (l + size e) f
  two-found k p e f g h r up l room space (w, s) t =
      let xs = row_codes (suc r) r l e in
      let ys = row_codes (suc r + rows e) r (l + size e) f in
      let n : suc r + rows e ≡ suc r + length xs = omega (arith, codes-long (suc r) r l e) in
      let (a, b, c) = row-parts r k (suc r) (suc r + rows e) up p (omega arith) (omega arith) w in
      rw (add-one r) (
        a,
        b,
        c,
        g (suc r) r l (omega arith) (omega arith) (front row_word T (suc r) xs ys s) (first-letters l e f t),
        h (suc r + rows e) r (l + size e) (omega arith) (omega arith) (rear row_word T (suc r) (suc r + rows e) xs ys n s) (second-letters l e f t),
      )

  found : (e : Exp) → Found e
  unfolding row_codes letters rows size
  found (letter x) r up l room space (w, u) ((p, y), (q, z)) =
      let (a, b, c) = row-parts r 0 l 0 up (omega arith) (omega arith) (omega arith) w in (a, b, p, q)
  found (seq e f) r up l room space s t = two-found 1 (omega arith) e f (found e) (found f) r up l room space s t
  found (alt e f) r up l room space s t = two-found 2 (omega arith) e f (found e) (found f) r up l room space s t
  found (star e) r up l room space (w, s) t =
      let (a, b, c) = row-parts r 3 (suc r) 0 up (omega arith) (omega arith) (omega arith) w in
      rw (add-one r) (a, b, found e (suc r) r l (omega arith) space s t)
  found (pipe e f) r up l room space s t = two-found 4 (omega arith) e f (found e) (found f) r up l room space s t

-- The arrays hold an expression whose rows and letters were stored in them.
pub rows-laid : (T : List ℕ) (L : LetterLists) → Arrays T L → (row up index : ℕ) (e : Exp) (T' : List ℕ) (L' : LetterLists)
    → T' ≡ with_rows T row (row_codes row up index e) → L' ≡ with_letters L index (letters e) → row + rows e ≤ 1024 → index + size e ≤ 256
    → RowsLaid (kinds T') (lefts T') (rights T') L'.look L'.want row index e
rows-laid T L arrays row up index e T' L' p q room space =
    let k = letters-long e in
    rw (p, q) (found _ _ _ e row up index room space
    (stands row_word T row (row_codes row up index e) (omega (arith, arrays.table, codes-long row up index e)))
    (stands (λ x. masks.look x.literals) L.look index (letters e) (omega (arith, arrays.looks)), stands (λ x. masks.want x.literals) L.want index (letters e) (omega (arith, arrays.wants))))

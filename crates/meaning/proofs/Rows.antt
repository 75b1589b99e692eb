-- The rows of a program: one for each letter and each operator, no more, and as a table they hold its monitors. Assumes nothing.
use mathlib.Core.Path.{◌≡◌, refl, ◌∙◌, ap₂, subst}
use mathlib.Core.List.{List, [], ◌∷◌, ◌++◌, append_assoc, append-nil}
use Prim.Native.Nat.{ℕ, suc, ◌+◌}
use native.Mathlib.Omega.{arith}
use lib.ListN.{length, length-append, get_or}
use lib.Seq.{get_or-append_seam}
use Rattle.meaning.specs.Lists.{◌∈◌, total}
use Rattle.meaning.specs.Expression.{Exp, letter, seq, alt, star, pipe, size, rows, Ordered}
use Rattle.meaning.specs.Table.{Kind, is_seq, is_alt, is_pipe, Row, row, Table, Under, Holds, laid, letter_rows, letter_row, HoldsAll, laid_all, no_row, as_table}
use Rattle.meaning.proofs.ListLaws.{here, there}
use Rattle.meaning.proofs.Walk.{a-row}

-- ---- a list that stands in a table from a row on

module _ {A : Type 0} (f : ℕ → A) where
  abbrev pub Stands : ℕ → List A → Type 0
  Stands k [] = Unit {0}
  Stands k (x ∷ xs) = (f k ≡ x) × Stands (suc k) xs

  -- two lists, the second behind the first
  parted : (k n : ℕ) (xs ys : List A) → length xs ≡ n → Stands k (xs ++ ys) → Stands k xs × Stands (k + n) ys
  parted k n [] ys e h = (tt, subst (λ i. Stands i ys) (omega (arith, e)) h)
  parted k n (x ∷ xs) ys e h =
      let (a, b) = parted (suc k) (length xs) xs ys refl h.1 in
      ((h.0, a), subst (λ i. Stands i ys) (omega (arith, e)) b)

-- ---- how many

two-long : (r : ℕ) (e f : Exp) → length (laid (suc r) r e) ≡ rows e → length (laid (suc r + rows e) r f) ≡ rows f
    → suc (length (laid (suc r) r e ++ laid (suc r + rows e) r f)) ≡ 1 + rows e + rows f
two-long r e f g h = omega (arith, length-append (laid (suc r) r e) (laid (suc r + rows e) r f), g, h)

pub laid-length : (r up : ℕ) (e : Exp) → length (laid r up e) ≡ rows e
unfolding laid rows
laid-length r up (letter l) = refl
laid-length r up (seq e f) = two-long r e f (laid-length (suc r) r e) (laid-length (suc r + rows e) r f)
laid-length r up (alt e f) = two-long r e f (laid-length (suc r) r e) (laid-length (suc r + rows e) r f)
laid-length r up (star e) = omega (arith, laid-length (suc r) r e)
laid-length r up (pipe e f) = two-long r e f (laid-length (suc r) r e) (laid-length (suc r + rows e) r f)

-- S3: "a row for each letter and each operator (`,` `||` `*` `@`) of all monitors after opening"
pub rows-no-more : (r : ℕ) (ms : List Exp) → length (laid_all r ms) ≡ total rows ms
unfolding laid_all
rows-no-more r [] = refl
rows-no-more r (m ∷ ms) = length-append (laid r r m) (laid_all (r + rows m) ms) ∙ ap₂ ◌+◌ (laid-length r r m) (rows-no-more (r + rows m) ms)

two-letters : (r : ℕ) (e f : Exp) → length (letter_rows (suc r) e) ≡ size e → length (letter_rows (suc r + rows e) f) ≡ size f
    → length (letter_rows (suc r) e ++ letter_rows (suc r + rows e) f) ≡ size e + size f
two-letters r e f g h = length-append (letter_rows (suc r) e) (letter_rows (suc r + rows e) f) ∙ ap₂ ◌+◌ g h

pub letters-length : (r : ℕ) (e : Exp) → length (letter_rows r e) ≡ size e
unfolding letter_rows size
letters-length r (letter l) = refl
letters-length r (seq e f) = two-letters r e f (letters-length (suc r) e) (letters-length (suc r + rows e) f)
letters-length r (alt e f) = two-letters r e f (letters-length (suc r) e) (letters-length (suc r + rows e) f)
letters-length r (star e) = letters-length (suc r) e
letters-length r (pipe e f) = two-letters r e f (letters-length (suc r) e) (letters-length (suc r + rows e) f)

-- ---- what they hold

module _ (R : Table) (place : ℕ → ℕ) where
  -- row r holds e and points at the row up
  abbrev Right : (r up : ℕ) → Exp → Type 0
  Right r up e = Holds R place r e × ((R r).up ≡ up)

  -- An operator's row r, behind which the rows of its two operands stand, and the rows of their letters; what is known of each operand where its own stand.
  operands : (κ : Kind) (r up k : ℕ) (e f : Exp)
      → Stands R r (row κ (suc r) (suc r + rows e) up ∷ (laid (suc r) r e ++ laid (suc r + rows e) r f))
      → Stands place k (letter_rows (suc r) e ++ letter_rows (suc r + rows e) f)
      → (Stands R (suc r) (laid (suc r) r e) → Stands place k (letter_rows (suc r) e) → Right (suc r) r e)
      → (Stands R (suc r + rows e) (laid (suc r + rows e) r f) → Stands place (k + size e) (letter_rows (suc r + rows e) f) → Right (suc r + rows e) r f)
      → ((R r).kind ≡ κ) × Under R r (R r).left × Under R r (R r).right × ((R r).right ≡ (R r).left → ⊥)
      × Holds R place (R r).left e × Holds R place (R r).right f
  operands κ r up k e f s p left right =
      let (a, b) = parted R (suc r) (rows e) (laid (suc r) r e) (laid (suc r + rows e) r f) (laid-length (suc r) r e) s.1 in
      let (c, d) = parted place k (size e) (letter_rows (suc r) e) (letter_rows (suc r + rows e) f) (letters-length (suc r) e) p in
      let x = left a c in
      let y = right b d in
      let n = a-row e in
      rw s.0 (refl, (x.1, λ z. absurd (omega arith)), (y.1, λ z. absurd (omega arith)), λ z. absurd (omega arith), x.0, y.0)

  -- Where the rows laid for e stand in a table, that table holds e.
  pub laid-holds : (r up k : ℕ) (e : Exp) → Stands R r (laid r up e) → Ordered k e → Stands place k (letter_rows r e)
      → Holds R place r e × ((R r).up ≡ up)
  unfolding laid letter_rows
  laid-holds r up k (letter l) s o p = ((rw s.0 refl, rw o p.0), rw s.0 refl)
  laid-holds r up k (seq e f) s o p = (
    operands is_seq r up k e f s p (λ a b. laid-holds (suc r) r k e a o.0 b)
        (λ a b. laid-holds (suc r + rows e) r (k + size e) f a o.1 b),
    rw s.0 refl,
  )
  laid-holds r up k (alt e f) s o p =
      let (q, u, v, n, x, y) = operands is_alt r up k e f s p (λ a b. laid-holds (suc r) r k e a o.0 b)
      (λ a b. laid-holds (suc r + rows e) r (k + size e) f a o.1 b) in
      ((q, u, v, x, y), rw s.0 refl)
  laid-holds r up k (star e) s o p =
      let x = laid-holds (suc r) r k e s.1 o p in
      rw s.0 ((refl, (x.1, λ z. absurd (omega arith)), x.0), refl)
  laid-holds r up k (pipe e f) s o p = (
    operands is_pipe r up k e f s p (λ a b. laid-holds (suc r) r k e a o.0 b)
        (λ a b. laid-holds (suc r + rows e) r (k + size e) f a o.1 b),
    rw s.0 refl,
  )

-- ---- the whole program

-- a list stands in every list of which it is a part
list-stands : {A : Type 0} (d : A) (pre xs post : List A) → Stands (λ n. get_or (pre ++ (xs ++ post)) n d) (length pre) xs
list-stands d pre [] post = tt
list-stands {A = A} d pre (x ∷ xs) post = (
  get_or-append_seam pre x (xs ++ post) d,
  subst (λ (l : List A). Stands (λ n. get_or l n d) (suc (length pre)) xs) (append_assoc pre (x ∷ []) (xs ++ post))
      (subst (λ (k : ℕ). Stands (λ n. get_or ((pre ++ (x ∷ [])) ++ (xs ++ post)) n d) k xs) (omega (arith, length-append pre (x ∷ [])))
      (list-stands d (pre ++ (x ∷ [])) xs post)),
)

letter-rows : (r : ℕ) (m : Exp) → Stands (letter_row r m) 0 (letter_rows r m)
letter-rows r m = subst (λ (l : List ℕ). Stands (λ n. get_or l n 0) 0 (letter_rows r m)) (append-nil (letter_rows r m)) (list-stands 0 [] (letter_rows r m) [])

behind : (pre : List Row) (r : ℕ) → length pre ≡ r → (ms : List Exp) → ((m : Exp) → m ∈ ms → Ordered 0 m) → HoldsAll (as_table (pre ++ laid_all r ms)) r ms
unfolding laid_all
behind pre r e [] o = tt
behind pre r e (m ∷ ms) o =
    let rest = laid_all (r + rows m) ms in
    let stands : Stands (as_table (pre ++ (laid r r m ++ rest))) r (laid r r m)
    = subst (λ (k : ℕ). Stands (as_table (pre ++ (laid r r m ++ rest))) k (laid r r m)) e (list-stands no_row pre (laid r r m) rest) in
    let (held, own) = laid-holds (as_table (pre ++ (laid r r m ++ rest))) (letter_row r m) r r 0 m stands (o m (here refl)) (letter-rows r m) in (
      held,
      own,
      subst (λ (l : List Row). HoldsAll (as_table l) (r + rows m) ms) (append_assoc pre (laid r r m) rest)
          (behind (pre ++ laid r r m) (r + rows m) (length-append pre (laid r r m) ∙ ap₂ ◌+◌ e (laid-length r r m)) ms (λ n i. o n (there i))),
    )

-- The rows of a program are a table that holds its monitors.
pub program-held : (ms : List Exp) → ((m : Exp) → m ∈ ms → Ordered 0 m) → HoldsAll (as_table (laid_all 0 ms)) 0 ms
program-held ms o = behind [] 0 refl ms o

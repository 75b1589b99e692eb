-- The places of a watch are the rows of its letters, so that its table holds the monitors. Assumes nothing.
use mathlib.Core.Path.{◌≡◌, refl, sym, ap, ap₂, ◌∙◌}
use mathlib.Core.Bool.{Bool, true, false, cond}
use mathlib.Core.List.{List, [], ◌∷◌, ◌++◌, map, map-append}
use Prim.Native.Nat.{ℕ, suc, ◌+◌, ◌<◌, ◌≤◌}
use native.Mathlib.Omega.{arith}
use lib.Dec.{eqb}
use lib.ListN.{length, length-append, length-map}
use Rattle.meaning.specs.Lists.{total}
use Rattle.meaning.specs.Expression.{Exp, letter, seq, alt, star, pipe, size, rows}
use Rattle.meaning.specs.Table.{Kind, is_letter, is_seq, is_alt, is_star, is_pipe, Row, Table, Holds, laid, letter_rows, laid_all}
use Rattle.meaning.proofs.Rows.{Stands, laid-length, letters-length, laid-holds}
use Rattle.meaning.proofs.Within.{Each}
use Rattle.words.specs.Words.{part0}
use Rattle.words.proofs.Quads.{quad-0}
use Rattle.rules.specs.Laying.{kind_code, left_code}
use Rattle.rules.specs.Watches.{letters_from}
use Rattle.monitor.proofs.Stored.{front, rear, each_append}
use Rattle.monitor.proofs.Numbered.{InOrder}
use Rattle.monitor.proofs.RowWords.{word_of}

-- ---- each letter's row

-- the rows of all letters
unfoldable pub rows_of_letters : ℕ → List Exp → List ℕ
rows_of_letters r [] = []
rows_of_letters r (m ∷ ms) = letter_rows r m ++ rows_of_letters (r + rows m) ms

abbrev pub kinds : List Row → List ℕ
kinds xs = map (λ x. kind_code x.kind) xs

kind-small : (k : Kind) → kind_code k < 65536
kind-small (is_letter l) = omega arith
kind-small is_seq = omega arith
kind-small is_alt = omega arith
kind-small is_star = omega arith
kind-small is_pipe = omega arith

-- they stand in the rows' words
pub kinds_kept : (xs : List Row) → map part0 (map word_of xs) ≡ kinds xs
kinds_kept [] = refl
kinds_kept (x ∷ xs) = ap₂ ◌∷◌ (quad-0 (kind_code x.kind) (left_code 0 x.left x.kind) x.right x.up (kind-small x.kind)) (kinds_kept xs)

letters-append : (r n : ℕ) (xs ys : List ℕ) → n ≡ r + length xs → letters_from r (xs ++ ys) ≡ letters_from r xs ++ letters_from n ys
unfolding letters_from
letters-append r n [] ys e = let q : r ≡ n = omega arith in ap (λ (k : ℕ). letters_from k ys) q
letters-append r n (x ∷ xs) ys e = by (eqb x 0) (letters-append (suc r) n xs ys (omega arith))
  where
    by : (b : Bool) → letters_from (suc r) (xs ++ ys) ≡ letters_from (suc r) xs ++ letters_from n ys
        → cond b (r ∷ letters_from (suc r) (xs ++ ys)) (letters_from (suc r) (xs ++ ys)) ≡ cond b (r ∷ letters_from (suc r) xs) (letters_from (suc r) xs) ++ letters_from n ys
    by true h = ap (λ (s : List ℕ). r ∷ s) h
    by false h = h

-- of rows one behind the other
kinds-append : (r n : ℕ) (xs ys : List Row) → n ≡ r + length xs → letters_from r (kinds (xs ++ ys)) ≡ letters_from r (kinds xs) ++ letters_from n (kinds ys)
kinds-append r n xs ys e =
    ap (letters_from r) (map-append (λ x. kind_code x.kind) xs ys)
    ∙ letters-append r n (kinds xs) (kinds ys) (e ∙ ap (λ (k : ℕ). r + k) (sym (length-map xs (λ x. kind_code x.kind))))

two-rows : (r : ℕ) (e f : Exp) → letters_from (suc r) (kinds (laid (suc r) r e)) ≡ letter_rows (suc r) e
    → letters_from (suc r + rows e) (kinds (laid (suc r + rows e) r f)) ≡ letter_rows (suc r + rows e) f
    → letters_from (suc r) (kinds (laid (suc r) r e ++ laid (suc r + rows e) r f)) ≡ letter_rows (suc r) e ++ letter_rows (suc r + rows e) f
two-rows r e f p q =
    kinds-append (suc r) (suc r + rows e) (laid (suc r) r e) (laid (suc r + rows e) r f) (ap (λ (k : ℕ). suc r + k) (sym (laid-length (suc r) r e))) ∙ ap₂ ◌++◌ p q

letters-laid : (r up : ℕ) (e : Exp) → letters_from r (kinds (laid r up e)) ≡ letter_rows r e
unfolding letters_from laid letter_rows
letters-laid r up (letter x) = refl
letters-laid r up (seq e f) = two-rows r e f (letters-laid (suc r) r e) (letters-laid (suc r + rows e) r f)
letters-laid r up (alt e f) = two-rows r e f (letters-laid (suc r) r e) (letters-laid (suc r + rows e) r f)
letters-laid r up (star e) = letters-laid (suc r) r e
letters-laid r up (pipe e f) = two-rows r e f (letters-laid (suc r) r e) (letters-laid (suc r + rows e) r f)

pub all-letters-laid : (r : ℕ) (ms : List Exp) → letters_from r (kinds (laid_all r ms)) ≡ rows_of_letters r ms
unfolding letters_from laid_all rows_of_letters
all-letters-laid r [] = refl
all-letters-laid r (m ∷ ms) =
    kinds-append r (r + rows m) (laid r r m) (laid_all (r + rows m) ms) (ap (λ (k : ℕ). r + k) (sym (laid-length r r m)))
    ∙ ap₂ ◌++◌ (letters-laid r r m) (all-letters-laid (r + rows m) ms)

pub rows-of-letters-long : (r : ℕ) (ms : List Exp) → length (rows_of_letters r ms) ≡ total size ms
unfolding rows_of_letters
rows-of-letters-long r [] = refl
rows-of-letters-long r (m ∷ ms) =
    length-append (letter_rows r m) (rows_of_letters (r + rows m) ms) ∙ ap₂ ◌+◌ (letters-length r m) (rows-of-letters-long (r + rows m) ms)

module _ (n : ℕ) where
  two-low : (r : ℕ) (e f : Exp) → Each (λ p. p < n) (letter_rows (suc r) e) → Each (λ p. p < n) (letter_rows (suc r + rows e) f)
      → Each (λ p. p < n) (letter_rows (suc r) e ++ letter_rows (suc r + rows e) f)
  two-low r e f = each_append (λ p. p < n) (letter_rows (suc r) e) (letter_rows (suc r + rows e) f)

  letter-rows-low : (r : ℕ) (e : Exp) → r + rows e ≤ n → Each (λ p. p < n) (letter_rows r e)
  unfolding letter_rows rows
  letter-rows-low r (letter x) h = (omega arith, tt)
  letter-rows-low r (seq e f) h = two-low r e f (letter-rows-low (suc r) e (omega arith)) (letter-rows-low (suc r + rows e) f (omega arith))
  letter-rows-low r (alt e f) h = two-low r e f (letter-rows-low (suc r) e (omega arith)) (letter-rows-low (suc r + rows e) f (omega arith))
  letter-rows-low r (star e) h = letter-rows-low (suc r) e (omega arith)
  letter-rows-low r (pipe e f) h = two-low r e f (letter-rows-low (suc r) e (omega arith)) (letter-rows-low (suc r + rows e) f (omega arith))

  pub all-rows-low : (r : ℕ) (ms : List Exp) → r + total rows ms ≤ n → Each (λ p. p < n) (rows_of_letters r ms)
  unfolding rows_of_letters
  all-rows-low r [] h = tt
  all-rows-low r (m ∷ ms) h =
      each_append (λ p. p < n) (letter_rows r m) (rows_of_letters (r + rows m) ms) (letter-rows-low r m (omega arith)) (all-rows-low (r + rows m) ms (omega arith))

-- ---- what the table holds

-- every monitor from row r on is held, and place tells each letter's row, by its number over all monitors
abbrev pub HeldAll : Table → (place : ℕ → ℕ) → ℕ → List Exp → Type 0
HeldAll R place r [] = Unit {0}
HeldAll R place r (m ∷ ms) = Holds R place r m × ((R r).up ≡ r) × HeldAll R place (r + rows m) ms

pub all_held : (R : Table) (place : ℕ → ℕ) (r k : ℕ) (ms : List Exp) → InOrder k ms → Stands R r (laid_all r ms) → Stands place k (rows_of_letters r ms)
    → HeldAll R place r ms
unfolding laid_all rows_of_letters
all_held R place r k [] o s p = tt
all_held R place r k (m ∷ ms) o s p =
    let xs = laid_all (r + rows m) ms in
    let ys = rows_of_letters (r + rows m) ms in
    let (held, own) = laid-holds R place r r k m (front R r (laid r r m) xs s) o.0 (front place k (letter_rows r m) ys p) in (
      held,
      own,
      all_held R place (r + rows m) (k + size m) ms o.1 (rear R r (r + rows m) (laid r r m) xs (omega (arith, laid-length r r m)) s)
          (rear place k (k + size m) (letter_rows r m) ys (omega (arith, letters-length r m)) p),
    )

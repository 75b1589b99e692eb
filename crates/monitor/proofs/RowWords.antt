-- The words of a watch's rows are those of the rows of meaning's table. Assumes nothing.
use mathlib.Core.Path.{◌≡◌, refl, sym, ap, ap₂, ◌∙◌}
use mathlib.Core.List.{List, [], ◌∷◌, ◌++◌, map, map-append, map-map}
use Prim.Native.Nat.{ℕ, suc, ◌+◌, ◌<◌, ◌≤◌}
use native.Mathlib.Nat.{zero-add}
use native.Mathlib.Omega.{arith}
use lib.ListN.{length, length-map, get_or}
use Rattle.meaning.specs.Lists.{◌∈◌, total}
use Rattle.meaning.specs.Expression.{Letter, Exp, letter, seq, alt, star, pipe, letters, size, rows}
use Rattle.meaning.specs.Fit.{Tick, meets}
use Rattle.meaning.specs.Table.{Kind, is_letter, is_seq, is_alt, is_star, is_pipe, Row, row, Table, laid, laid_all, no_row, as_table}
use Rattle.meaning.proofs.ListLaws.{here, there, clash, ∈-left, ∈-right}
use Rattle.meaning.proofs.Walk.{a-row}
use Rattle.meaning.proofs.Rows.{Stands, laid-length, rows-no-more}
use Rattle.meaning.proofs.Within.{Each}
use Rattle.words.specs.Words.{quad, part0, part1, part2, part3}
use Rattle.rules.specs.Laying.{kind_code, left_code, code_of, row_word}
use Rattle.rules.specs.Monitors.{codes_all, with_monitors}
use Rattle.rules.specs.Watches.{no_lists}
use Rattle.words.proofs.Quads.{quad-0, quad-1, quad-2, quad-3}
use Rattle.rules.proofs.TableRows.{codes-laid}
use Rattle.monitor.specs.Letters.{Given, letter_met}
use Rattle.monitor.proofs.Coded.{CodedAs, Threaded}
use Rattle.monitor.proofs.Stored.{front, rear, each_append, map_at, stored_at}
use Rattle.monitor.proofs.Numbered.{InOrder}

-- ---- the rows' words

-- the word of a row
abbrev pub word_of : Row → ℕ
word_of x = row_word (code_of 0 x)

codes_all_lem : (r k : ℕ) (ms : List Exp) → InOrder k ms → codes_all r k ms ≡ map (code_of 0) (laid_all r ms)
unfolding codes_all laid_all
codes_all_lem r k [] o = refl
codes_all_lem r k (m ∷ ms) o =
    ap₂ ◌++◌ (codes-laid r r 0 k k m (sym (zero-add k)) o.0) (codes_all_lem (r + rows m) (k + size m) ms o.1)
    ∙ sym (map-append (code_of 0) (laid r r m) (laid_all (r + rows m) ms))

module _ (gs : List Exp) (order : InOrder 0 gs) where
  pub words-laid : map row_word (codes_all 0 0 gs) ≡ map word_of (laid_all 0 gs)
  words-laid = ap (map row_word) (codes_all_lem 0 0 gs order) ∙ map-map row_word (code_of 0) (laid_all 0 gs)

  pub words_long : length (map row_word (codes_all 0 0 gs)) ≡ total rows gs
  words_long = ap length words-laid ∙ length-map (laid_all 0 gs) word_of ∙ rows-no-more 0 gs

  pub row_word_lem : total rows gs ≤ 1024 → (r : ℕ) → r < total rows gs → get_or (with_monitors no_lists 0 0 0 gs).table r 0 ≡ word_of (as_table (laid_all 0 gs) r)
  row_word_lem few r h =
      stored_at 1024 (map row_word (codes_all 0 0 gs)) r (omega (arith, words_long)) (omega (arith, words_long))
      ∙ ap (λ (c : List ℕ). get_or c r 0) words-laid ∙ map_at word_of no_row (laid_all 0 gs) r (omega (arith, rows-no-more 0 gs))

-- ---- what all rows have

module _ (Q : Letter → Type 0) (n : ℕ) where
  abbrev pub LetterIs : Kind → Type 0
  LetterIs (is_letter l) = Q l
  LetterIs is_seq = Unit {0}
  LetterIs is_alt = Unit {0}
  LetterIs is_star = Unit {0}
  LetterIs is_pipe = Unit {0}

  -- its operands and the row above it are among n rows, and its letter is as Q says
  pub record RowFits (x : Row) : Type 0 where
    pub left-low : x.left < n
    pub right-low : x.right < n
    pub up-low : x.up < n
    pub its-letter : LetterIs x.kind

  two-fit : (κ : Kind) → LetterIs κ → (r up : ℕ) (e f : Exp) → up < n → r + (1 + rows e + rows f) ≤ n
      → Each RowFits (laid (suc r) r e) → Each RowFits (laid (suc r + rows e) r f)
      → Each RowFits (row κ (suc r) (suc r + rows e) up ∷ (laid (suc r) r e ++ laid (suc r + rows e) r f))
  two-fit κ q r up e f u h p s = (
    record { left-low = omega (arith, a-row e); right-low = omega (arith, a-row f); up-low = u; its-letter = q },
    each_append RowFits (laid (suc r) r e) (laid (suc r + rows e) r f) p s,
  )

  laid-fits : (r up : ℕ) (e : Exp) → up < n → r + rows e ≤ n → ((l : Letter) → l ∈ letters e → Q l) → Each RowFits (laid r up e)
  unfolding laid rows letters
  laid-fits r up (letter l) u h q = (record { left-low = omega arith; right-low = omega arith; up-low = u; its-letter = q l (here refl) }, tt)
  laid-fits r up (seq e f) u h q =
      two-fit is_seq tt r up e f u h (laid-fits (suc r) r e (omega arith) (omega arith) (λ l i. q l (∈-left (letters f) i)))
      (laid-fits (suc r + rows e) r f (omega arith) (omega arith) (λ l i. q l (∈-right (letters e) i)))
  laid-fits r up (alt e f) u h q =
      two-fit is_alt tt r up e f u h (laid-fits (suc r) r e (omega arith) (omega arith) (λ l i. q l (∈-left (letters f) i)))
      (laid-fits (suc r + rows e) r f (omega arith) (omega arith) (λ l i. q l (∈-right (letters e) i)))
  laid-fits r up (star e) u h q = (
    record { left-low = omega (arith, a-row e); right-low = omega arith; up-low = u; its-letter = tt },
    laid-fits (suc r) r e (omega arith) (omega arith) q,
  )
  laid-fits r up (pipe e f) u h q =
      two-fit is_pipe tt r up e f u h (laid-fits (suc r) r e (omega arith) (omega arith) (λ l i. q l (∈-left (letters f) i)))
      (laid-fits (suc r + rows e) r f (omega arith) (omega arith) (λ l i. q l (∈-right (letters e) i)))

  pub all_fit : (r : ℕ) (ms : List Exp) → r + total rows ms ≤ n → ((m : Exp) → m ∈ ms → (l : Letter) → l ∈ letters m → Q l) → Each RowFits (laid_all r ms)
  unfolding laid_all
  all_fit r [] h q = tt
  all_fit r (m ∷ ms) h q =
      each_append RowFits (laid r r m) (laid_all (r + rows m) ms) (laid-fits r r m (omega (arith, a-row m)) (omega arith) (q m (here refl)))
      (all_fit (r + rows m) ms (omega arith) (λ x i. q x (there i)))

-- ---- the parts of a row's word

module _ {x : ℕ} (k left right up : ℕ) (e : x ≡ quad k left right up) where
  pub kind-is : k < 65536 → part0 x ≡ k
  kind-is h = ap part0 e ∙ quad-0 k left right up h

  pub left_is : left < 65536 → part1 x ≡ left
  left_is h = ap part1 e ∙ quad-1 k left right up h

  pub right_is : right < 65536 → part2 x ≡ right
  right_is h = ap part2 e ∙ quad-2 k left right up h

module _ (R : Table) where
  pub laid-up : (r up : ℕ) (e : Exp) → Stands R r (laid r up e) → (R r).up ≡ up
  unfolding laid
  laid-up r up (letter l) s = ap (λ x. x.up) s.0
  laid-up r up (seq e f) s = ap (λ x. x.up) s.0
  laid-up r up (alt e f) s = ap (λ x. x.up) s.0
  laid-up r up (star e) s = ap (λ x. x.up) s.0
  laid-up r up (pipe e f) s = ap (λ x. x.up) s.0

  -- the row above e, in a table t that has the words of n rows
  pub up_is : (t : List ℕ) (n : ℕ) → n ≤ 1024 → ((r : ℕ) → r < n → get_or t r 0 ≡ word_of (R r))
      → (r up : ℕ) (e : Exp) → r < n → up < n → Stands R r (laid r up e) → part3 (get_or t r 0) ≡ up
  up_is t n few words r up e h l s =
      let u = laid-up r up e s in
      ap part3 (words r h) ∙ quad-3 (kind_code (R r).kind) (left_code 0 (R r).left (R r).kind) (R r).right (R r).up (omega (arith, u, l, few)) ∙ u

-- ---- what stands under an `@`

module _ (R : Table) where
  two-threaded : (κ : Kind) (r up : ℕ) (e f : Exp) → Stands R (suc r) (laid (suc r) r e ++ laid (suc r + rows e) r f)
      → (Stands R (suc r) (laid (suc r) r e) → Each (Threaded R) (laid (suc r) r e))
      → (Stands R (suc r + rows e) (laid (suc r + rows e) r f) → Each (Threaded R) (laid (suc r + rows e) r f))
      → Each (Threaded R) (row κ (suc r) (suc r + rows e) up ∷ (laid (suc r) r e ++ laid (suc r + rows e) r f))
  two-threaded κ r up e f s p q =
      let a = front R (suc r) (laid (suc r) r e) (laid (suc r + rows e) r f) s in
      let b = rear R (suc r) (suc r + rows e) (laid (suc r) r e) (laid (suc r + rows e) r f) (omega (arith, laid-length (suc r) r e)) s in
      let c = laid-up R (suc r) r e a in
      (λ k. (laid-up R (suc r + rows e) r f b ∙ sym c, omega (arith, c), omega (arith, a-row e)), each_append (Threaded R) (laid (suc r) r e) (laid (suc r + rows e) r f) (p a) (q b))

  laid-threaded : (r up : ℕ) (e : Exp) → Stands R r (laid r up e) → Each (Threaded R) (laid r up e)
  unfolding laid
  laid-threaded r up (letter l) s = (λ k. clash (cc k), tt)
  laid-threaded r up (seq e f) s = two-threaded is_seq r up e f s.1 (laid-threaded (suc r) r e) (laid-threaded (suc r + rows e) r f)
  laid-threaded r up (alt e f) s = two-threaded is_alt r up e f s.1 (laid-threaded (suc r) r e) (laid-threaded (suc r + rows e) r f)
  laid-threaded r up (star e) s = (λ k. clash (cc k), laid-threaded (suc r) r e s.1)
  laid-threaded r up (pipe e f) s = two-threaded is_pipe r up e f s.1 (laid-threaded (suc r) r e) (laid-threaded (suc r + rows e) r f)

  pub all-threaded : (r : ℕ) (ms : List Exp) → Stands R r (laid_all r ms) → Each (Threaded R) (laid_all r ms)
  unfolding laid_all
  all-threaded r [] s = tt
  all-threaded r (m ∷ ms) s =
      each_append (Threaded R) (laid r r m) (laid_all (r + rows m) ms) (laid-threaded r r m (front R r (laid r r m) (laid_all (r + rows m) ms) s))
      (all-threaded (r + rows m) ms (rear R r (r + rows m) (laid r r m) (laid_all (r + rows m) ms) (omega (arith, laid-length r r m)) s))

-- ---- a tick's rows

-- a letter has a number below 256, and its test is that of the numbers
abbrev pub Tested : Given → Tick → Letter → Type 0
Tested g t l = (l.number < 256) × (letter_met g l.number ≡ meets l t)

module _ (g : Given) (t : Tick) (n w : ℕ) (few : n ≤ 1024) where
  pub row-coded : (x : Row) → w ≡ word_of x → RowFits (Tested g t) n x → CodedAs g t n x.left x.right w x.kind × (part3 w ≡ x.up)
  row-coded x e f = by x.kind e f.its-letter
    where
      left : x.left < 65536
      left = omega (arith, f.left-low)

      right : x.right < 65536
      right = omega (arith, f.right-low)

      up : x.up < 65536
      up = omega (arith, f.up-low)

      -- an operator's number, with its three rows
      operator : (c : ℕ) → c < 65536 → w ≡ quad c x.left x.right x.up
          → (part0 w ≡ c) × (part1 w ≡ x.left) × (part2 w ≡ x.right) × (part3 w ≡ x.up)
      operator c h q = (
        ap part0 q ∙ quad-0 c x.left x.right x.up h,
        ap part1 q ∙ quad-1 c x.left x.right x.up left,
        ap part2 q ∙ quad-2 c x.left x.right x.up right,
        ap part3 q ∙ quad-3 c x.left x.right x.up up,
      )

      by : (k : Kind) → w ≡ quad (kind_code k) (left_code 0 x.left k) x.right x.up → LetterIs (Tested g t) n k
          → CodedAs g t n x.left x.right w k × (part3 w ≡ x.up)
      by (is_letter l) q (b, m) =
          let z : 0 + l.number < 65536 = omega arith in
          let s : 0 + l.number ≡ l.number = omega arith in (
            (
              ap part0 q ∙ quad-0 0 (0 + l.number) x.right x.up (omega arith),
              ap part1 q ∙ quad-1 0 (0 + l.number) x.right x.up z ∙ s,
              b,
              m,
            ),
            ap part3 q ∙ quad-3 0 (0 + l.number) x.right x.up up,
          )
      by is_seq q h = let (a, b, c, d) = operator 1 (omega arith) q in ((a, b, c, f.left-low, f.right-low), d)
      by is_alt q h = let (a, b, c, d) = operator 2 (omega arith) q in ((a, b, c, f.left-low, f.right-low), d)
      by is_star q h = let (a, b, c, d) = operator 3 (omega arith) q in ((a, b, f.left-low), d)
      by is_pipe q h = let (a, b, c, d) = operator 4 (omega arith) q in ((a, b, c, f.left-low, f.right-low), d)

-- Rows and letters stored behind one another. Assumes nothing.
use mathlib.Core.Path.{◌≡◌, refl, sym, ◌∙◌, ap}
use mathlib.Core.List.{List, [], ◌∷◌, ◌++◌, map, map-append, append-nil}
use mathlib.Core.Option.{Option}
use Prim.Native.Nat.{ℕ, suc, ◌+◌, ◌*◌, ◌<◌}
use native.Mathlib.Numerals.{add-one}
use native.Mathlib.Omega.{arith}
use lib.ListN.{length, set, length-append, length-map}
use lib.Seq.{sets, set_comm}
use Rattle.meaning.specs.Lists.{each}
use Rattle.meaning.specs.Expression.{Letter}
use Rattle.masks.specs.Masks.{look, want, held}
use Rattle.meaning.proofs.ListLaws.{each_append}
use Rattle.rules.specs.Cells.{Link, tests_on, writes_on}
use Rattle.rules.specs.Laying.{RowCode, row_word, with_rows, slot_word, slot_number, two_slots, slots_of, LetterLists, letter_lists, with_letters}

-- ---- one list

sets-append : (L : List ℕ) (i : ℕ) (xs ys : List ℕ) → sets L i (xs ++ ys) ≡ sets (sets L i xs) (i + length xs) ys
sets-append L i [] ys = let e : i ≡ i + 0 = omega arith in ap (λ (n : ℕ). sets L n ys) e
sets-append L i (x ∷ xs) ys =
    let e : suc i + length xs ≡ i + suc (length xs) = omega arith in
    sets-append (set L i x) (suc i) xs ys ∙ ap (λ (n : ℕ). sets (sets (set L i x) (suc i) xs) n ys) e

-- one list behind another
pub sets_behind : (L : List ℕ) (i n : ℕ) (xs ys zs : List ℕ) → n ≡ i + length xs → zs ≡ xs ++ ys → sets (sets L i xs) n ys ≡ sets L i zs
sets_behind L i n xs ys zs e f = rw (e, f) (sym (sets-append L i xs ys))

-- an element stored before a list that is stored
set_before : (L : List ℕ) (j i x : ℕ) (xs : List ℕ) → j < i → set (sets L i xs) j x ≡ sets (set L j x) i xs
set_before L j i x [] l = refl
set_before L j i x (y ∷ ys) l =
    set_before (set L i y) j (suc i) x ys (omega arith) ∙ ap (λ (M : List ℕ). sets M (suc i) ys) (set_comm L i j y x (λ (e : i ≡ j). omega arith))

-- what a list's elements give, behind what those of another give
mapped-behind : {A : Type 0} (f : A → ℕ) (L : List ℕ) (i : ℕ) (xs : List A) (n : ℕ) (ys : List A) → n ≡ i + length xs
    → sets (sets L i (map f xs)) n (map f ys) ≡ sets L i (map f (xs ++ ys))
mapped-behind f L i xs n ys e = sets_behind L i n (map f xs) (map f ys) _ (e ∙ ap (λ (m : ℕ). i + m) (sym (length-map xs f))) (map-append f xs ys)

-- ---- rows

module _ (T : List ℕ) (r : ℕ) (xs : List RowCode) where
  pub row_before : (x : RowCode) → with_rows (with_rows T (suc r) xs) r (x ∷ []) ≡ with_rows T r (x ∷ xs)
  row_before x = set_before T r (suc r) (row_word x) (map row_word xs) (omega arith)

  pub rows_behind : (n : ℕ) (ys : List RowCode) → n ≡ r + length xs → with_rows (with_rows T r xs) n ys ≡ with_rows T r (xs ++ ys)
  rows_behind n ys e = mapped-behind row_word T r xs n ys e

-- the rows of two operands, and then their operator's own
pub rows-two : (A A₁ A₂ A' : List ℕ) (r n : ℕ) (x : RowCode) (xs ys : List RowCode) → n ≡ r + 1 + length xs → A₁ ≡ with_rows A (r + 1) xs
    → A₂ ≡ with_rows A₁ n ys → A' ≡ with_rows A₂ r (x ∷ []) → A' ≡ with_rows A r (x ∷ (xs ++ ys))
rows-two A A₁ A₂ A' r n x xs ys e p q s =
    s ∙ ap (λ (B : List ℕ). with_rows B r (x ∷ [])) (q ∙ ap (λ (B : List ℕ). with_rows B n ys) p ∙ rows_behind A (r + 1) xs n ys e)
    ∙ rw (add-one r) (row_before A r (xs ++ ys) x)

-- ---- letters

same-letters : {a b c d e a' b' c' d' e' : List ℕ} → a ≡ a' → b ≡ b' → c ≡ c' → d ≡ d' → e ≡ e' → letter_lists a b c d e ≡ letter_lists a' b' c' d' e'
same-letters p q r s t = λ i. letter_lists (p i) (q i) (r i) (s i) (t i)

pub two-long : (xs : List Link) → length (two_slots xs) ≡ 2
two-long [] = refl
two-long (x ∷ []) = refl
two-long (y ∷ x ∷ xs) = refl

slots-long : (f : Option Link → ℕ) (xs : List Letter) → length (each xs (λ x. map f (slots_of x))) ≡ 4 * length xs
slots-long f [] = refl
slots-long f (x ∷ xs) =
    length-append (map f (slots_of x)) (each xs (λ x. map f (slots_of x)))
    ∙ omega (arith, length-map (slots_of x) f, length-append (two_slots (tests_on [] x.literals)) (two_slots (writes_on [] x.writes)), two-long (tests_on [] x.literals), two-long (writes_on [] x.writes), slots-long f xs)

pub letters-behind : (A : LetterLists) (l : ℕ) (xs : List Letter) (n : ℕ) (ys : List Letter) → n ≡ l + length xs
    → with_letters (with_letters A l xs) n ys ≡ with_letters A l (xs ++ ys)
letters-behind A l xs n ys e =
    same-letters (mapped-behind (λ x. look x.literals) A.look l xs n ys e) (mapped-behind (λ x. want x.literals) A.want l xs n ys e)
    (mapped-behind (λ x. held x.literals) A.held l xs n ys e) (four A.links slot_word) (four A.numbers slot_number)
  where
    four : (L : List ℕ) (f : Option Link → ℕ)
        → sets (sets L (4 * l) (each xs (λ x. map f (slots_of x)))) (4 * n) (each ys (λ x. map f (slots_of x))) ≡ sets L (4 * l) (each (xs ++ ys) (λ x. map f (slots_of x)))
    four L f =
        sets_behind L (4 * l) (4 * n) (each xs (λ x. map f (slots_of x))) (each ys (λ x. map f (slots_of x))) _
        (omega (arith, slots-long f xs)) (each_append xs ys (λ x. map f (slots_of x)))

-- one letter
pub one-letter : (A : LetterLists) (l a b h : ℕ) (x : Letter) (C C' D D' : List ℕ) → a ≡ look x.literals → b ≡ want x.literals → h ≡ held x.literals
    → C ≡ sets A.links (4 * l) (map slot_word (two_slots (tests_on [] x.literals))) → C' ≡ sets C (4 * l + 2) (map slot_word (two_slots (writes_on [] x.writes)))
    → D ≡ sets A.numbers (4 * l) (map slot_number (two_slots (tests_on [] x.literals))) → D' ≡ sets D (4 * l + 2) (map slot_number (two_slots (writes_on [] x.writes)))
    → letter_lists (set A.look l a) (set A.want l b) (set A.held l h) C' D' ≡ with_letters A l (x ∷ [])
one-letter A l a b h x C C' D D' e f g p q r s =
    same-letters (ap (set A.look l) e) (ap (set A.want l) f) (ap (set A.held l) g)
    (q ∙ ap (λ (L : List ℕ). sets L (4 * l + 2) (map slot_word (two_slots (writes_on [] x.writes)))) p ∙ two A.links slot_word)
    (s ∙ ap (λ (L : List ℕ). sets L (4 * l + 2) (map slot_number (two_slots (writes_on [] x.writes)))) r ∙ two A.numbers slot_number)
  where
    two : (L : List ℕ) (g : Option Link → ℕ)
        → sets (sets L (4 * l) (map g (two_slots (tests_on [] x.literals)))) (4 * l + 2) (map g (two_slots (writes_on [] x.writes))) ≡ sets L (4 * l) (map g (slots_of x) ++ [])
    two L g =
        sets_behind L (4 * l) (4 * l + 2) (map g (two_slots (tests_on [] x.literals))) (map g (two_slots (writes_on [] x.writes))) _
        (omega (arith, length-map (two_slots (tests_on [] x.literals)) g, two-long (tests_on [] x.literals)))
        (append-nil (map g (slots_of x)) ∙ map-append g (two_slots (tests_on [] x.literals)) (two_slots (writes_on [] x.writes)))

-- A text's watch: its marks, and its tables by the opened program. Assumes nothing.
use mathlib.Core.Path.{◌≡◌, refl, sym, ◌∙◌, ap, ap₂}
use mathlib.Core.Bool.{Bool, true, false, cond}
use mathlib.Core.List.{List, [], ◌∷◌, ◌++◌, map, map-append, append-nil, append_assoc}
use Prim.Native.Nat.{ℕ, suc, ◌+◌, ◌<◌, ◌≤◌}
use native.Mathlib.Omega.{arith}
use lib.Dec.{eqb}
use lib.ListN.{length, length-append, length-map, get_or, take, drop, replicate, set, length-set}
use lib.Seq.{sets, sets-eq, length-take-le, take-suc}
use borrow.Rule.Slice.PartMut.{put_mid}
use Rattle.std.proofs.lemmas.List.{drop-drop}
use Rattle.masks.specs.Masks.{look, want, held}
use Rattle.meaning.specs.Lists.{each}
use Rattle.meaning.specs.Expression.{Letter, Exp, letter, seq, alt, star, pipe, letters, size, rows, renumbered}
use Rattle.meaning.proofs.Numbering.{renumbered-size, renumbered-rows}
use Rattle.words.specs.Words.{part0}
use Rattle.shape.specs.Walk.{kinds}
use Rattle.rules.specs.Laying.{row_code, row_codes, slots_of, slot_word, slot_number}
use Rattle.rules.specs.Monitors.{codes_all, starts_by, Lists, with_monitors}
use Rattle.rules.specs.Watches.{letters_from}
use Rattle.rules.proofs.Overlay.{sets_behind}

-- ---- the rows of letters

-- with one kind more
letters-next : (r : ℕ) (ks : List ℕ) (k : ℕ) → letters_from r (ks ++ (k ∷ [])) ≡ letters_from r ks ++ cond (eqb k 0) ((r + length ks) ∷ []) []
unfolding letters_from
letters-next r [] k = by (eqb k 0)
  where
    by : (b : Bool) → cond b (r ∷ []) [] ≡ cond b ((r + 0) ∷ []) []
    by true = let e : r + 0 ≡ r = omega arith in rw e refl
    by false = refl
letters-next r (x ∷ ks) k =
    let e : suc r + length ks ≡ r + suc (length ks) = omega arith in
    let h = letters-next (suc r) ks k ∙ ap (λ (n : ℕ). letters_from (suc r) ks ++ cond (eqb k 0) (n ∷ []) []) e in
    by (eqb x 0) h
  where
    by : (b : Bool) → letters_from (suc r) (ks ++ (k ∷ [])) ≡ letters_from (suc r) ks ++ cond (eqb k 0) ((r + suc (length ks)) ∷ []) []
        → cond b (r ∷ letters_from (suc r) (ks ++ (k ∷ []))) (letters_from (suc r) (ks ++ (k ∷ []))) ≡ cond b (r ∷ letters_from (suc r) ks) (letters_from (suc r) ks) ++ cond (eqb k 0) ((r + suc (length ks)) ∷ []) []
    by true h = ap (λ (s : List ℕ). r ∷ s) h
    by false h = h

-- with one row more
kinds-next : (T : List ℕ) (i : ℕ) → i < length T → kinds (take (i + 1) T) ≡ kinds (take i T) ++ (part0 (get_or T i 0) ∷ [])
kinds-next T i h =
    let e : i + 1 ≡ suc i = omega arith in
    ap (λ (j : ℕ). kinds (take j T)) e ∙ ap kinds (take-suc T i 0 h) ∙ map-append part0 (take i T) (get_or T i 0 ∷ [])

-- what the loop over rows has stored and counted, of the first i
pub record Placed (T P : List ℕ) (i n : ℕ) : Type 0 where
  pub count : n ≡ length (letters_from 0 (kinds (take i T)))
  pub places : P ≡ sets (replicate 256 0) 0 (letters_from 0 (kinds (take i T)))

pub none-placed : (T : List ℕ) → Placed T (replicate 256 0) 0 0
unfolding letters_from
none-placed T = record { count = refl; places = refl }

-- a row of kind k is next
module _ (T P Q : List ℕ) (i n m k : ℕ) (h : i < length T) (is : k ≡ part0 (get_or T i 0)) (a : Placed T P i n) (p : m ≡ cond (eqb k 0) (n + 1) n) (q : Q ≡ cond (eqb k 0) (set P n i) P) where
  one_placed : Placed T Q (i + 1) m
  one_placed =
      by (eqb k 0) p q
      (ap (letters_from 0) (kinds-next T i h) ∙ letters-next 0 (kinds (take i T)) (part0 (get_or T i 0))
      ∙ ap₂ (λ (j x : ℕ). letters_from 0 (kinds (take i T)) ++ cond (eqb x 0) (j ∷ []) []) (let l = length-map (take i T) part0 in let t = length-take-le i T (omega arith) in omega (arith, l, t)) (sym is))
    where
      by : (b : Bool) → m ≡ cond b (n + 1) n → Q ≡ cond b (set P n i) P
          → letters_from 0 (kinds (take (i + 1) T)) ≡ letters_from 0 (kinds (take i T)) ++ cond b (i ∷ []) [] → Placed T Q (i + 1) m
      by true u v w =
          let l = length-append (letters_from 0 (kinds (take i T))) (i ∷ []) in
          record {
            count = u ∙ ap (λ (j : ℕ). j + 1) a.count ∙ sym (ap length w ∙ l);
            places = v ∙ ap₂ (λ (s : List ℕ) (j : ℕ). set s j i) a.places a.count
                ∙ sets_behind (replicate 256 0) 0 (length (letters_from 0 (kinds (take i T)))) (letters_from 0 (kinds (take i T))) (i ∷ []) (letters_from 0 (kinds (take (i + 1) T))) (omega arith) w;
          }
      by false u v w =
          let e = w ∙ append-nil (letters_from 0 (kinds (take i T))) in
          record { count = u ∙ a.count ∙ ap length (sym e); places = v ∙ a.places ∙ ap (sets (replicate 256 0) 0) (sym e) }

  -- the loop goes on
  pub placed-next : n ≤ i → length P ≡ 256 → (m ≤ i + 1) × (length Q ≡ 256) × Placed T Q (i + 1) m
  placed-next l s = (few (eqb k 0) p, long (eqb k 0) q, one_placed)
    where
      few : (b : Bool) → m ≡ cond b (n + 1) n → m ≤ i + 1
      few true u = omega (arith, u)
      few false u = omega (arith, u)

      long : (b : Bool) → Q ≡ cond b (set P n i) P → length Q ≡ 256
      long true v = ap length v ∙ length-set P n i ∙ s
      long false v = ap length v ∙ s

pub same-places : (T P : List ℕ) (i j n : ℕ) → Placed T P i n → i ≡ j → P ≡ sets (replicate 256 0) 0 (letters_from 0 (kinds (take j T)))
same-places T P i j n a e = a.places ∙ ap (λ (m : ℕ). sets (replicate 256 0) 0 (letters_from 0 (kinds (take m T)))) e

-- ---- numbers of letters play no part in the tables

-- two operands
both : (kind r u l k : ℕ) (e f : Exp) → row_codes (suc r) r l (renumbered k e) ≡ row_codes (suc r) r l e
    → row_codes (suc r + rows e) r (l + size e) (renumbered (k + size e) f) ≡ row_codes (suc r + rows e) r (l + size e) f
    → row_code kind (suc r) (suc r + rows (renumbered k e)) u ∷ (row_codes (suc r) r l (renumbered k e) ++ row_codes (suc r + rows (renumbered k e)) r (l + size (renumbered k e)) (renumbered (k + size e) f))
    ≡ row_code kind (suc r) (suc r + rows e) u ∷ (row_codes (suc r) r l e ++ row_codes (suc r + rows e) r (l + size e) f)
both kind r u l k e f p q = rw (renumbered-rows k e, renumbered-size k e, p, q)

pub codes-renumbered : (r u l k : ℕ) (e : Exp) → row_codes r u l (renumbered k e) ≡ row_codes r u l e
unfolding row_codes renumbered
codes-renumbered r u l k (letter x) = refl
codes-renumbered r u l k (seq e f) = both 1 r u l k e f (codes-renumbered (suc r) r l k e) (codes-renumbered (suc r + rows e) r (l + size e) (k + size e) f)
codes-renumbered r u l k (alt e f) = both 2 r u l k e f (codes-renumbered (suc r) r l k e) (codes-renumbered (suc r + rows e) r (l + size e) (k + size e) f)
codes-renumbered r u l k (star e) = ap (λ s. row_code 3 (suc r) 0 u ∷ s) (codes-renumbered (suc r) r l k e)
codes-renumbered r u l k (pipe e f) = both 4 r u l k e f (codes-renumbered (suc r) r l k e) (codes-renumbered (suc r + rows e) r (l + size e) (k + size e) f)

-- what is told of letters without their numbers
module _ {B : Type 0} (f : Letter → B) (same : (x : Letter) (k : ℕ) → f (record { number = k; literals = x.literals; writes = x.writes; through = x.through }) ≡ f x) where
  two : (e g : Exp) (k : ℕ) → map f (letters (renumbered k e)) ≡ map f (letters e) → map f (letters (renumbered (k + size e) g)) ≡ map f (letters g)
      → map f (letters (renumbered k e) ++ letters (renumbered (k + size e) g)) ≡ map f (letters e ++ letters g)
  two e g k p q = map-append f (letters (renumbered k e)) (letters (renumbered (k + size e) g)) ∙ ap₂ ◌++◌ p q ∙ sym (map-append f (letters e) (letters g))

  letters-renumbered : (k : ℕ) (e : Exp) → map f (letters (renumbered k e)) ≡ map f (letters e)
  unfolding letters renumbered
  letters-renumbered k (letter x) = ap (λ y. y ∷ []) (same x k)
  letters-renumbered k (seq e g) = two e g k (letters-renumbered k e) (letters-renumbered (k + size e) g)
  letters-renumbered k (alt e g) = two e g k (letters-renumbered k e) (letters-renumbered (k + size e) g)
  letters-renumbered k (star e) = letters-renumbered k e
  letters-renumbered k (pipe e g) = two e g k (letters-renumbered k e) (letters-renumbered (k + size e) g)

  pub each-renumbered : (ms : List Exp) → map f (each (map (renumbered 0) ms) letters) ≡ map f (each ms letters)
  each-renumbered [] = refl
  each-renumbered (m ∷ ms) = map-append f (letters (renumbered 0 m)) _ ∙ ap₂ ◌++◌ (letters-renumbered 0 m) (each-renumbered ms) ∙ sym (map-append f (letters m) _)

-- the same of lists that each letter gives
flat : {B : Type 0} (f : Letter → List B) (xs : List Letter) → each xs f ≡ each (map f xs) (λ y. y)
flat f [] = refl
flat f (x ∷ xs) = ap (λ ys. f x ++ ys) (flat f xs)

flat-renumbered : {B : Type 0} (f : Letter → List B) → ((x : Letter) (k : ℕ) → f (record { number = k; literals = x.literals; writes = x.writes; through = x.through }) ≡ f x) → (ms : List Exp)
    → each (each (map (renumbered 0) ms) letters) f ≡ each (each ms letters) f
flat-renumbered f same ms = flat f (each (map (renumbered 0) ms) letters) ∙ ap (λ ys. each ys (λ y. y)) (each-renumbered f same ms) ∙ sym (flat f (each ms letters))

all_codes : (r l : ℕ) (ms : List Exp) → codes_all r l (map (renumbered 0) ms) ≡ codes_all r l ms
unfolding codes_all
all_codes r l [] = refl
all_codes r l (m ∷ ms) =
    ap₂ ◌++◌ (codes-renumbered r r l 0 m)
    (ap₂ (λ (a b : ℕ). codes_all (r + a) (l + b) (map (renumbered 0) ms)) (renumbered-rows 0 m) (renumbered-size 0 m) ∙ all_codes (r + rows m) (l + size m) ms)

all-starts : (f : Exp → ℕ) → ((m : Exp) → f (renumbered 0 m) ≡ f m) → (n : ℕ) (ms : List Exp) → starts_by f n (map (renumbered 0) ms) ≡ starts_by f n ms
unfolding starts_by
all-starts f same n [] = refl
all-starts f same n (m ∷ ms) = ap (λ s. n ∷ s) (ap (λ (a : ℕ). starts_by f (n + a) (map (renumbered 0) ms)) (same m) ∙ all-starts f same (n + f m) ms)

-- The tables are those of the opened program, whose letters are numbered.
pub tables-renumbered : (A : Lists) (i r l : ℕ) (ms : List Exp) → with_monitors A i r l (map (renumbered 0) ms) ≡ with_monitors A i r l ms
tables-renumbered A i r l ms =
    rw (
      all_codes r l ms,
      each-renumbered (λ x. look x.literals) (λ x k. refl) ms,
      each-renumbered (λ x. want x.literals) (λ x k. refl) ms,
      each-renumbered (λ x. held x.literals) (λ x k. refl) ms,
      flat-renumbered (λ x. map slot_word (slots_of x)) (λ x k. refl) ms,
      flat-renumbered (λ x. map slot_number (slots_of x)) (λ x k. refl) ms,
      all-starts rows (renumbered-rows 0) r ms,
      all-starts size (renumbered-size 0) l ms,
    )

-- ---- values

-- k places from place a on hold zs
pub copied : (L ys zs : List ℕ) (a k : ℕ) → ys ≡ zs → length zs ≡ k → a + k ≤ length L → put_mid a k L ys ≡ sets L a zs
copied L ys zs a k e f h =
    rw (e, sets-eq zs L a (omega arith), sym f)
    (ap (λ (t : List ℕ). take a L ++ (zs ++ t)) (drop-drop (length zs) a L) ∙ sym (append_assoc (take a L) zs (drop (a + length zs) L)))

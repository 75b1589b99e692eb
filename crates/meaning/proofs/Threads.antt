-- The threads of an expression and their letters: what passes from a part to its operands passes to its threads; which letters a part has of its own (F17); and what it says of the parts that a letter
-- is a last one of the whole and that nothing comes next after it, or that it is none.
use mathlib.Core.List.{List, [], ◌∷◌, ◌++◌}
use mathlib.Core.Bool.{false, not, ◌&&◌, ◌||◌}
use mathlib.Core.Path.{◌≡◌, refl, sym, subst}
use mathlib.Core.Logic.{◌⊎◌, inl, inr, ⊎_elim}
use Prim.Native.Nat.{ℕ}
use lib.Dec.{T, T_not, not_T, eqb, eqb→eq, eqb_refl}
use Rattle.meaning.specs.Lists.{◌∈◌, only}
use Rattle.meaning.specs.Expression.{Letter, Exp, letter, seq, alt, star, pipe, letters, own}
use Rattle.meaning.specs.Shape.{nullable, first, last, follow, threads}
use Rattle.meaning.specs.Fit.{among}
use Rattle.meaning.specs.Positions.{has}
use Rattle.meaning.proofs.ListLaws.{here, cons-∈, no-∈, append-∈, ∈-left, ∈-right, ∈-only, T_and, and_T, or-T, T-or-left, T-or-right, any-from, any-to, any_append}
use Rattle.meaning.proofs.Step.{Solid}
use Rattle.meaning.proofs.OneWay.{Apart, Numbered, Closed, Has, last_has, apart-has}

-- ---- what passes to threads ----

-- P passes from a part to its operands, and gives Q of the right operand of an `@`.
module _ (P Q : Exp → Type 0) (in-seq : (e f : Exp) → P (seq e f) → P e × P f) (in-alt : (e f : Exp) → P (alt e f) → P e × P f) (in-star : (e : Exp) → P (star e) → P e)
    (in-pipe : (e f : Exp) → P (pipe e f) → Q f × P e × P f) where
  to-thread : (e f : Exp) → P e → f ∈ threads e → Q f
  unfolding threads
  to-thread (letter l) g p i = absurd (no-∈ i)
  to-thread (seq e f) g p i = let (a, b) = in-seq e f p in ⊎_elim (to-thread e g a) (to-thread f g b) (append-∈ (threads e) i)
  to-thread (alt e f) g p i = let (a, b) = in-alt e f p in ⊎_elim (to-thread e g a) (to-thread f g b) (append-∈ (threads e) i)
  to-thread (star e) g p i = to-thread e g (in-star e p) i
  to-thread (pipe e f) g p i =
      let (q, a, b) = in-pipe e f p in
      ⊎_elim (λ z. subst Q (sym z) q) (λ j. ⊎_elim (to-thread e g a) (to-thread f g b) (append-∈ (threads e) j)) (cons-∈ i)

-- the letters of a thread are letters of what it stands in
module _ (m : Exp) where
  abbrev Inside : Exp → Type 0
  Inside e = (x : Letter) → x ∈ letters e → x ∈ letters m

  both-inside : (e f : Exp) → ((x : Letter) → x ∈ letters e ++ letters f → x ∈ letters m) → Inside e × Inside f
  both-inside e f p = (λ x j. p x (∈-left (letters f) j), λ x j. p x (∈-right (letters e) j))

  pub threads-letters : (f : Exp) → f ∈ threads m → Inside f
  unfolding letters
  threads-letters f i = to-thread Inside Inside both-inside both-inside (λ e p. p) (λ e g p. let (a, b) = both-inside e g p in (b, a, b)) m f (λ x j. j) i

-- rule 10
pub thread-solid : (e f : Exp) → Solid e → f ∈ threads e → Solid f × T (not (nullable f))
thread-solid = to-thread Solid (λ f. Solid f × T (not (nullable f))) (λ e f s. s) (λ e f s. s) (λ e s. s.1) (λ e f s. ((s.3, s.1), s.2, s.3))

pub thread-numbered : (e f : Exp) → Numbered e → f ∈ threads e → Numbered f
thread-numbered = to-thread Numbered Numbered (λ e f a. (a.1, a.2)) (λ e f a. (a.1, a.2)) (λ e a. a) (λ e f a. (a.2, a.1, a.2))

-- rule 11
pub thread-closed : (e f : Exp) → Closed e → f ∈ threads e → (n : ℕ) (x : Letter) → T (last n f) → x ∈ follow n f → ⊥
thread-closed = to-thread Closed (λ f. (n : ℕ) (x : Letter) → T (last n f) → x ∈ follow n f → ⊥) (λ e f c. c) (λ e f c. c) (λ e c. c) (λ e f c. c)

-- ---- letters by their numbers ----

pub among-to : (ls : List Letter) (n : ℕ) → T (among ls n) → (l : Letter) × (l ∈ ls) × (l.number ≡ n)
among-to ls n t = let (l, i, e) = any-to (λ l. eqb n l.number) ls t in (l, i, sym (eqb→eq n l.number e))

pub among-from : (ls : List Letter) (l : Letter) → l ∈ ls → T (among ls l.number)
among-from ls l i = any-from (λ x. eqb l.number x.number) i (eqb_refl l.number)

pub among-at : (ls : List Letter) (n : ℕ) (l : Letter) → l ∈ ls → l.number ≡ n → T (among ls n)
among-at ls n l i p = subst (λ k. T (among ls k)) p (among-from ls l i)

pub among-append : (ls ms : List Letter) (n : ℕ) → among (ls ++ ms) n ≡ (among ls n || among ms n)
among-append ls ms n = any_append (λ (l : Letter). eqb n l.number) ls ms

pub among-left : (ls ms : List Letter) (n : ℕ) → T (among ls n) → T (among (ls ++ ms) n)
among-left ls ms n t = subst T (sym (among-append ls ms n)) (T-or-left (among ls n) (among ms n) t)

pub among-right : (ls ms : List Letter) (n : ℕ) → T (among ms n) → T (among (ls ++ ms) n)
among-right ls ms n t = subst T (sym (among-append ls ms n)) (T-or-right (among ls n) (among ms n) t)

-- n stands in one of the two, and not in the first
pub rest_has : (ls ms : List Letter) (n : ℕ) → T (among (ls ++ ms) n) → T (not (among ls n)) → T (among ms n)
rest_has ls ms n t h = ⊎_elim (λ a. absurd (T_not (among ls n) h a)) (λ b. b) (or-T (among ls n) (among ms n) (subst T (among-append ls ms n) t))

-- own letters are letters
pub own-letters : (e : Exp) (x : Letter) → x ∈ own e → x ∈ letters e
unfolding own letters
own-letters (letter l) x i = i
own-letters (seq e f) x i = ⊎_elim (λ j. ∈-left (letters f) (own-letters e x j)) (λ j. ∈-right (letters e) (own-letters f x j)) (append-∈ (own e) i)
own-letters (alt e f) x i = ⊎_elim (λ j. ∈-left (letters f) (own-letters e x j)) (λ j. ∈-right (letters e) (own-letters f x j)) (append-∈ (own e) i)
own-letters (star e) x i = own-letters e x i
own-letters (pipe e f) x i = ∈-left (letters f) (own-letters e x i)

pub own-has : (e : Exp) (n : ℕ) → T (among (own e) n) → T (has n e)
own-has e n t = let (l, i, p) = among-to (own e) n t in among-at (letters e) n l (own-letters e l i) p

-- an own letter of two parts, in the one that it stands in
pub own-here : (e f : Exp) (n : ℕ) → Apart e f → T (has n e) → T (among (own e ++ own f) n) → T (among (own e) n)
own-here e f n a h t = ⊎_elim (λ p. p)
    (λ p. absurd (apart-has e f n a (among-to (letters e) n h) (among-to (letters f) n (own-has f n p))))
    (or-T (among (own e) n) (among (own f) n) (subst T (among-append (own e) (own f) n) t))

pub own-there : (e f : Exp) (n : ℕ) → T (not (has n e)) → T (among (own e ++ own f) n) → T (among (own f) n)
own-there e f n h t = rest_has (own e) (own f) n t (not_T (among (own e) n) (λ o. T_not (has n e) h (own-has e n o)))

pub thread-has : (e f : Exp) → f ∈ threads e → (n : ℕ) → T (among (own f) n) → Has n e
thread-has e f i n p = let (l, j, q) = among-to (own f) n p in (l, threads-letters e f i l (own-letters f l j), q)

-- f stands in one of two parts
two-apart : (e g f : Exp) → Apart e g → (n : ℕ) → (f ∈ threads e → T (among (own e) n) → ⊥) → (f ∈ threads g → T (among (own g) n) → ⊥)
    → T (among (own f) n) → T (among (own e ++ own g) n) → (f ∈ threads e) ⊎ (f ∈ threads g) → ⊥
two-apart e g f a n h k p q (inl i) = ⊎_elim (h i) (λ y. apart-has e g n a (thread-has e f i n p) (among-to (letters g) n (own-has g n y)))
    (or-T (among (own e) n) (among (own g) n) (subst T (among-append (own e) (own g) n) q))
two-apart e g f a n h k p q (inr i) = ⊎_elim (λ y. apart-has e g n a (among-to (letters e) n (own-has e n y)) (thread-has g f i n p)) (k i)
    (or-T (among (own e) n) (among (own g) n) (subst T (among-append (own e) (own g) n) q))

-- What a thread requires the part around it does not: their own letters are apart. F17: "A letter is required by the innermost thread that it stands in".
pub own-apart : (e f : Exp) → Numbered e → f ∈ threads e → (n : ℕ) → T (among (own f) n) → T (among (own e) n) → ⊥
unfolding threads own
own-apart (letter l) f a i n p q = no-∈ i
own-apart (seq e g) f a i n p q = two-apart e g f a.0 n (λ k. own-apart e f a.1 k n p) (λ k. own-apart g f a.2 k n p) p q (append-∈ (threads e) i)
own-apart (alt e g) f a i n p q = two-apart e g f a.0 n (λ k. own-apart e f a.1 k n p) (λ k. own-apart g f a.2 k n p) p q (append-∈ (threads e) i)
own-apart (star e) f a i n p q = own-apart e f a i n p q
own-apart (pipe e g) f a i n p q = ⊎_elim
    (λ z. apart-has e g n a.0 (among-to (letters e) n (own-has e n q)) (among-to (letters g) n (own-has g n (subst (λ y. T (among (own y) n)) z p))))
    (λ m. ⊎_elim
    (λ k. own-apart e f a.1 k n p q)
    (λ k. apart-has e g n a.0 (among-to (letters e) n (own-has e n q)) (thread-has g f k n p))
    (append-∈ (threads e) m))
    (cons-∈ i)

-- every part has a first letter
pub a_first : (e : Exp) → (x : Letter) × (x ∈ first e)
unfolding first
a_first (letter l) = (l, here refl)
a_first (seq e f) = let (x, i) = a_first e in (x, ∈-left (only (nullable e) (first f)) i)
a_first (alt e f) = let (x, i) = a_first e in (x, ∈-left (first f) i)
a_first (star e) = a_first e
a_first (pipe e f) = a_first e

pub not_there : (e : Exp) (n : ℕ) → T (not (has n e)) → T (last n e) → ⊥
not_there e n b z = let (l, i, p) = last_has n e z in T_not (has n e) b (among-at (letters e) n l i p)

pub not-both : (e f : Exp) (x : Letter) → Apart e f → x ∈ letters f → T (not (has x.number e))
not-both e f x a i = not_T (has x.number e) (λ h. apart-has e f x.number a (among-to (letters e) x.number h) (x, i, refl))

-- ---- last letters ----

pub one-own : (l : Letter) (n : ℕ) → T (among (l ∷ []) n) → T (eqb n l.number)
one-own l n o = ⊎_elim (λ y. y) (λ y. absurd y) (or-T (eqb n l.number) false o)

-- Letter n is a last one of e, and nothing comes next after it inside e: what rule 11 asks of the last letters of a thread.
abbrev pub Ends : ℕ → Exp → Type 0
Ends n e = T (last n e) × ((x : Letter) → x ∈ follow n e → ⊥)

module _ (n : ℕ) (e f : Exp) where
  pub seq-ends : Apart e f → Ends n (seq e f) → T (not (has n e)) × Ends n f
  unfolding last follow
  seq-ends a (z, g) = ⊎_elim
      (λ y. (not_T (has n e) (λ h. apart-has e f n a (among-to (letters e) n h) (last_has n f y)), (y, λ x i. g x (∈-left (only (last n e) (first f)) (∈-right (follow n e) i)))))
      (λ y. let (x, i) = a_first f in absurd (g x (∈-right (follow n e ++ follow n f) (∈-only (last n e) (and_T (nullable f) (last n e) y).1 i))))
      (or-T (last n f) (nullable f && last n e) z)

  pub alt-ends : Apart e f → Ends n (alt e f) → (T (has n e) → Ends n e) × (T (not (has n e)) → Ends n f)
  unfolding last follow
  alt-ends a (z, g) = (
    λ h. (⊎_elim (λ y. y) (λ y. absurd (apart-has e f n a (among-to (letters e) n h) (last_has n f y))) (or-T (last n e) (last n f) z), λ x i. g x (∈-left (follow n f) i)),
    λ h. (⊎_elim (λ y. absurd (not_there e n h y)) (λ y. y) (or-T (last n e) (last n f) z), λ x i. g x (∈-right (follow n e) i)),
  )

  pub pipe-ends : Ends n (pipe e f) → Ends n e
  unfolding last follow
  pipe-ends (z, g) = (z, λ x i. g x (∈-left (follow n f) i))

  -- one that is not a last letter
  pub seq-not-last : T (not (last n (seq e f))) → T (not (last n f)) × (T (nullable f) → T (not (last n e)))
  unfolding last
  seq-not-last z = (
    not_T (last n f) (λ y. T_not (last n f || (nullable f && last n e)) z (T-or-left (last n f) _ y)),
    λ h. not_T (last n e) (λ y. T_not (last n f || (nullable f && last n e)) z (T-or-right (last n f) _ (T_and (nullable f) (last n e) h y))),
  )

  pub alt-not-last : T (not (last n (alt e f))) → T (not (last n e)) × T (not (last n f))
  unfolding last
  alt-not-last z = (
    not_T (last n e) (λ y. T_not (last n e || last n f) z (T-or-left (last n e) _ y)),
    not_T (last n f) (λ y. T_not (last n e || last n f) z (T-or-right (last n e) _ y)),
  )

-- a star goes round
pub star-ends : (n : ℕ) (e : Exp) → Ends n (star e) → ⊥
unfolding last follow
star-ends n e (z, g) = let (x, i) = a_first e in g x (∈-right (follow n e) (∈-only (last n e) z i))

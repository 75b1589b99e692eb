-- The tally of proofs/Counting is the number of touches, each counted once: what asking and leaving touch is swept row by row, and the rows swept are counted.
use mathlib.Core.List.{List, [], ◌∷◌, ◌++◌}
use mathlib.Core.Bool.{Bool, true, false, not, cond, ◌&&◌, ◌||◌, beq}
use mathlib.Core.Path.{◌≡◌, refl, sym, ap, ap₂, ◌∙◌, subst}
use mathlib.Core.Logic.{◌⊎◌, inl, inr, ⊎_elim}
use Prim.Native.Nat.{ℕ, zero, suc, ◌+◌, ◌≤◌, ◌<◌}
use native.Mathlib.Omega.{arith}
use native.Mathlib.Decide.{dec_lt}
use lib.Dec.{T, T_not, not_T, eqb, eqb→eq, eqb_refl}
use Rattle.meaning.specs.Lists.{◌∈◌, each, any, count, only, below, member}
use Rattle.meaning.specs.Expression.{Letter, Exp, letter, seq, alt, star, pipe, letters, rows}
use Rattle.meaning.specs.Positions.{has}
use Rattle.meaning.specs.Touched.{Touch, asked, left, is_asked, is_left, rows_in}
use Rattle.meaning.proofs.ListLaws.{here, there, no-∈, append-∈, ∈-left, ∈-right, only-∈, one-∈, any-to, any_append, and_T, by_cond, is_true, is_false, clash}
use Rattle.meaning.proofs.OneWay.{Apart, Numbered, apart-has}
use Rattle.meaning.proofs.Threads.{among-to, among-at, rest_has, one-own}
use Rattle.meaning.proofs.Counting.{asking, leaving, touches_at_start, touches_after, one, ends, tally, tally_after}

-- ---- Boolean equations, by their tables ----

-- functions of n Booleans, their equations, and the test of one at all Booleans
abbrev Fn : ℕ → Type 0
Fn zero = Bool
Fn (suc n) = Bool → Fn n

abbrev Equal : (n : ℕ) → Fn n → Fn n → Type 0
Equal zero f g = f ≡ g
Equal (suc n) f g = (b : Bool) → Equal n (f b) (g b)

abbrev equal : (n : ℕ) → Fn n → Fn n → Bool
equal zero f g = beq f g
equal (suc n) f g = equal n (f true) (g true) && equal n (f false) (g false)

-- an equation holds where its test passes
by-table : (n : ℕ) (f g : Fn n) → T (equal n f g) → Equal n f g
by-table zero true true t = refl
by-table zero true false t = absurd t
by-table zero false true t = absurd t
by-table zero false false t = refl
by-table (suc n) f g t = let (h, k) = and_T (equal n (f true) (g true)) (equal n (f false) (g false)) t in on_both (by-table n (f true) (g true) h) (by-table n (f false) (g false) k)
  where
    on_both : Equal n (f true) (g true) → Equal n (f false) (g false) → (b : Bool) → Equal n (f b) (g b)
    on_both h k true = h
    on_both h k false = k

-- the middle two change places
cross : (a b c d : Bool) → (a || b) || (c || d) ≡ (a || c) || (b || d)
cross = by-table 4 (λ a b c d. (a || b) || (c || d)) (λ a b c d. (a || c) || (b || d)) tt

-- ---- the touches in e row by row, as `tally` counts them ----

-- row r is asked (a), left (b), and X is touched
abbrev headed : (r : ℕ) (a b : Bool) → List Touch → List Touch
headed r a b X = only a (asked r ∷ []) ++ (only b (left r ∷ []) ++ X)

-- as `tally`, with the touches in place of their number
unfoldable sweep : (act : ℕ → Bool) (r : ℕ) → Exp → (a : Bool) → List Touch
sweep act r (letter l) a = headed r a (act l.number) []
sweep act r (seq e f) a = headed r a (ends act (seq e f) a) (sweep act (suc r) e a ++ sweep act (suc r + rows e) f (ends act e a))
sweep act r (alt e f) a = headed r a (ends act (alt e f) a) (sweep act (suc r) e a ++ sweep act (suc r + rows e) f a)
sweep act r (star e) a = headed r a (ends act (star e) a) (sweep act (suc r) e (a || ends act e a))
sweep act r (pipe e f) a = headed r a (ends act (pipe e f) a) (sweep act (suc r) e a ++ sweep act (suc r + rows e) f (ends act e a))

-- no letter was met, or letter n alone
abbrev none : ℕ → Bool
none k = false

abbrev this : ℕ → ℕ → Bool
this n k = eqb k n

-- ---- e is left ----

-- what is met or asked in two ways
module _ (act bct : ℕ → Bool) where
  abbrev either : ℕ → Bool
  either k = act k || bct k

  ends-or : (e : Exp) (a b : Bool) → ends either e (a || b) ≡ ends act e a || ends bct e b
  unfolding ends
  ends-or (letter l) a b = refl
  ends-or (seq e f) a b = ap (ends either f) (ends-or e a b) ∙ ends-or f (ends act e a) (ends bct e b)
  ends-or (alt e f) a b = ap₂ ◌||◌ (ends-or e a b) (ends-or f a b) ∙ cross (ends act e a) (ends bct e b) (ends act f a) (ends bct f b)
  ends-or (star e) a b = ap (λ c. (a || b) || c) (ends-or e a b) ∙ cross a b (ends act e a) (ends bct e b)
  ends-or (pipe e f) a b = ends-or e a b

-- nothing is met and e not asked
ends-not : (e : Exp) → ends none e false ≡ false
unfolding ends
ends-not (letter l) = refl
ends-not (seq e f) = ap (ends none f) (ends-not e) ∙ ends-not f
ends-not (alt e f) = ap₂ ◌||◌ (ends-not e) (ends-not f)
ends-not (star e) = ends-not e
ends-not (pipe e f) = ends-not e

-- nothing is met
ends-none : (e : Exp) (a : Bool) → ends none e a ≡ a && ends none e true
ends-none e true = refl
ends-none e false = ends-not e

-- two that tell the same of the letters of e
module _ (act bct : ℕ → Bool) where
  abbrev Alike : Exp → Type 0
  Alike e = (l : Letter) → l ∈ letters e → act l.number ≡ bct l.number

  -- so of the letters of both operands
  alike_both : (e f : Exp) → ((l : Letter) → l ∈ letters e ++ letters f → act l.number ≡ bct l.number) → Alike e × Alike f
  alike_both e f h = (λ l i. h l (∈-left (letters f) i), λ l i. h l (∈-right (letters e) i))

  -- then e is left alike
  ends-alike : (e : Exp) (a : Bool) → Alike e → ends act e a ≡ ends bct e a
  unfolding ends letters
  ends-alike (letter l) a h = h l (here refl)
  ends-alike (seq e f) a h = let (g, k) = alike_both e f h in ap (ends act f) (ends-alike e a g) ∙ ends-alike f (ends bct e a) k
  ends-alike (alt e f) a h = let (g, k) = alike_both e f h in ap₂ ◌||◌ (ends-alike e a g) (ends-alike f a k)
  ends-alike (star e) a h = ap (λ c. a || c) (ends-alike e a h)
  ends-alike (pipe e f) a h = ends-alike e a (alike_both e f h).0

  -- and swept alike
  sweep-alike : (r : ℕ) (e : Exp) (a : Bool) → Alike e → sweep act r e a ≡ sweep bct r e a
  unfolding sweep ends letters
  sweep-alike r (letter l) a h = ap (λ b. headed r a b []) (h l (here refl))
  sweep-alike r (seq e f) a h = let (g, k) = alike_both e f h in
      rw (ends-alike e a g, ends-alike f (ends bct e a) k, sweep-alike (suc r) e a g, sweep-alike (suc r + rows e) f (ends bct e a) k) refl
  sweep-alike r (alt e f) a h = let (g, k) = alike_both e f h in
      rw (ends-alike e a g, ends-alike f a k, sweep-alike (suc r) e a g, sweep-alike (suc r + rows e) f a k) refl
  sweep-alike r (star e) a h = rw (ends-alike e a h, sweep-alike (suc r) e (a || ends bct e a) h) refl
  sweep-alike r (pipe e f) a h = let (g, k) = alike_both e f h in
      rw (ends-alike e a g, sweep-alike (suc r) e a g, sweep-alike (suc r + rows e) f (ends bct e a) k) refl

-- letter n does not stand in e
absent : (n : ℕ) (e : Exp) → T (not (has n e)) → Alike (this n) none e
absent n e h l i = is_false (eqb l.number n) (λ t. T_not (has n e) h (among-at (letters e) n l i (eqb→eq l.number n t)))

-- letter n of e does not stand in the other operand
other : (n : ℕ) (e f : Exp) → Apart e f → T (has n e) → T (not (has n f))
other n e f a h = not_T (has n f) (λ k. apart-has e f n a (among-to (letters e) n h) (among-to (letters f) n k))

-- then meeting it does not leave e
ends-absent : (n : ℕ) (e : Exp) (a : Bool) → T (not (has n e)) → ends (this n) e a ≡ a && ends none e true
ends-absent n e a h = ends-alike (this n) none e a (absent n e h) ∙ ends-none e a

-- ---- what is touched, as a test p tells ----

-- nothing is met and e not asked
sweep-not : (r : ℕ) (e : Exp) → sweep none r e false ≡ []
unfolding sweep ends
sweep-not r (letter l) = refl
sweep-not r (seq e f) = rw (ends-not e, ends-not f, sweep-not (suc r) e, sweep-not (suc r + rows e) f) refl
sweep-not r (alt e f) = rw (ends-not e, ends-not f, sweep-not (suc r) e, sweep-not (suc r + rows e) f) refl
sweep-not r (star e) = rw (ends-not e, sweep-not (suc r) e) refl
sweep-not r (pipe e f) = rw (ends-not e, sweep-not (suc r) e, sweep-not (suc r + rows e) f) refl

module _ (p : Touch → Bool) where
  -- a row and what is behind
  any-headed : (r : ℕ) (a b : Bool) (X : List Touch) → any p (headed r a b X) ≡ (a && p (asked r)) || ((b && p (left r)) || any p X)
  any-headed r true true X = refl
  any-headed r true false X = refl
  any-headed r false true X = refl
  any-headed r false false X = refl

  -- with two operands behind
  any-two : (r : ℕ) (a b : Bool) (X Y : List Touch) → any p (headed r a b (X ++ Y)) ≡ (a && p (asked r)) || ((b && p (left r)) || (any p X || any p Y))
  any-two r a b X Y = any-headed r a b (X ++ Y) ∙ ap (λ c. (a && p (asked r)) || ((b && p (left r)) || c)) (any_append p X Y)

  -- nothing is met
  sweep-none : (r : ℕ) (e : Exp) (a : Bool) → any p (sweep none r e a) ≡ a && any p (sweep none r e true)
  sweep-none r e true = refl
  sweep-none r e false = ap (any p) (sweep-not r e)

  -- letter n, which does not stand in e, is
  sweep-absent : (n r : ℕ) (e : Exp) (a : Bool) → T (not (has n e)) → any p (sweep (this n) r e a) ≡ a && any p (sweep none r e true)
  sweep-absent n r e a h = ap (any p) (sweep-alike (this n) none r e a (absent n e h)) ∙ sweep-none r e a

  -- X is what Y and Z are together
  abbrev Joins : List Touch → List Touch → List Touch → Type 0
  Joins X Y Z = any p X ≡ any p Y || any p Z

  -- so of two such lists
  joins-append : (X Y Z X' Y' Z' : List Touch) → Joins X Y Z → Joins X' Y' Z' → Joins (X ++ X') (Y ++ Y') (Z ++ Z')
  joins-append X Y Z X' Y' Z' h k =
      rw (any_append p X X', any_append p Y Y', any_append p Z Z', h, k) (cross (any p Y) (any p Z) (any p Y') (any p Z'))

  -- and of a row before one
  joins-headed : (r : ℕ) (a b c d : Bool) (X Y Z : List Touch) → Joins X Y Z → Joins (headed r (a || b) (c || d) X) (headed r a c Y) (headed r b d Z)
  joins-headed r a b c d X Y Z h =
      rw (any-headed r (a || b) (c || d) X, any-headed r a c Y, any-headed r b d Z, h)
      (by-table 8 (λ a b c d x y u v. ((a || b) && x) || (((c || d) && y) || (u || v))) (λ a b c d x y u v. ((a && x) || ((c && y) || u)) || ((b && x) || ((d && y) || v))) tt
      a b c d (p (asked r)) (p (left r)) (any p Y) (any p Z))

  module _ (act bct : ℕ → Bool) where
    -- what is met or asked in two ways touches what the one and the other do
    abbrev Additive : (r : ℕ) → Exp → (a b : Bool) → Type 0
    Additive r e a b = Joins (sweep (either act bct) r e (a || b)) (sweep act r e a) (sweep bct r e b)

    -- an operator of two operands, which is left as g or as h tells
    additive-two : (r : ℕ) (e f : Exp) (a b c d g h : Bool) → Additive (suc r) e a b → Additive (suc r + rows e) f c d
        → Joins (headed r (a || b) (g || h) (sweep (either act bct) (suc r) e (a || b) ++ sweep (either act bct) (suc r + rows e) f (c || d)))
        (headed r a g (sweep act (suc r) e a ++ sweep act (suc r + rows e) f c)) (headed r b h (sweep bct (suc r) e b ++ sweep bct (suc r + rows e) f d))
    additive-two r e f a b c d g h x y = joins-headed r a b g h
        (sweep (either act bct) (suc r) e (a || b) ++ sweep (either act bct) (suc r + rows e) f (c || d))
        (sweep act (suc r) e a ++ sweep act (suc r + rows e) f c) (sweep bct (suc r) e b ++ sweep bct (suc r + rows e) f d)
        (joins-append (sweep (either act bct) (suc r) e (a || b)) (sweep act (suc r) e a) (sweep bct (suc r) e b)
        (sweep (either act bct) (suc r + rows e) f (c || d)) (sweep act (suc r + rows e) f c) (sweep bct (suc r + rows e) f d) x y)

    -- every part is so
    sweep-or : (r : ℕ) (e : Exp) (a b : Bool) → Additive r e a b
    unfolding sweep ends
    sweep-or r (letter l) a b = joins-headed r a b (act l.number) (bct l.number) [] [] [] refl
    sweep-or r (seq e f) a b = rw (ends-or act bct e a b, ends-or act bct f (ends act e a) (ends bct e b))
        (additive-two r e f a b (ends act e a) (ends bct e b) (ends act f (ends act e a)) (ends bct f (ends bct e b))
        (sweep-or (suc r) e a b) (sweep-or (suc r + rows e) f (ends act e a) (ends bct e b)))
    sweep-or r (alt e f) a b = rw (ends-or act bct e a b, ends-or act bct f a b, cross (ends act e a) (ends bct e b) (ends act f a) (ends bct f b))
        (additive-two r e f a b a b (ends act e a || ends act f a) (ends bct e b || ends bct f b) (sweep-or (suc r) e a b) (sweep-or (suc r + rows e) f a b))
    sweep-or r (star e) a b = rw (ends-or act bct e a b, cross a b (ends act e a) (ends bct e b))
        (joins-headed r a b (a || ends act e a) (b || ends bct e b)
        (sweep (either act bct) (suc r) e ((a || ends act e a) || (b || ends bct e b))) (sweep act (suc r) e (a || ends act e a)) (sweep bct (suc r) e (b || ends bct e b))
        (sweep-or (suc r) e (a || ends act e a) (b || ends bct e b)))
    sweep-or r (pipe e f) a b = rw (ends-or act bct e a b)
        (additive-two r e f a b (ends act e a) (ends bct e b) (ends act e a) (ends bct e b)
        (sweep-or (suc r) e a b) (sweep-or (suc r + rows e) f (ends act e a) (ends bct e b)))

  -- what asking e adds
  sweep-from : (act : ℕ → Bool) (r : ℕ) (e : Exp) (a : Bool) → any p (sweep act r e a) ≡ (a && any p (sweep none r e true)) || any p (sweep act r e false)
  sweep-from act r e true = sweep-or none act r e true false
  sweep-from act r e false = refl

  -- e is asked: it is swept, and Y where it is left at once
  asking-is : (r : ℕ) (e : Exp) (Y : List Touch) → any p (asking r e Y) ≡ any p (sweep none r e true) || (ends none e true && any p Y)
  unfolding asking sweep ends
  asking-is r (letter l) Y = by-table 1 (λ x. x || false) (λ x. (x || false) || false) tt (p (asked r))
  asking-is r (seq e f) Y =
      rw (
        asking-is (suc r) e (asking (suc r + rows e) f (left r ∷ Y)),
        asking-is (suc r + rows e) f (left r ∷ Y),
        any-two r true (ends none f (ends none e true)) (sweep none (suc r) e true) (sweep none (suc r + rows e) f (ends none e true)),
        sweep-none (suc r + rows e) f (ends none e true),
        ends-none f (ends none e true),
      )
      (by-table 7 (λ u v y s t m n. u || (s || (m && (t || (n && (v || y)))))) (λ u v y s t m n. (u || (((m && n) && v) || (s || (m && t)))) || ((m && n) && y)) tt
      (p (asked r)) (p (left r)) (any p Y) (any p (sweep none (suc r) e true)) (any p (sweep none (suc r + rows e) f true)) (ends none e true) (ends none f true))
  asking-is r (alt e f) Y =
      rw (
        any_append p (asking (suc r) e (left r ∷ Y)) (asking (suc r + rows e) f (left r ∷ Y)),
        asking-is (suc r) e (left r ∷ Y),
        asking-is (suc r + rows e) f (left r ∷ Y),
        any-two r true (ends none e true || ends none f true) (sweep none (suc r) e true) (sweep none (suc r + rows e) f true),
      )
      (by-table 7 (λ u v y s t m n. u || ((s || (m && (v || y))) || (t || (n && (v || y))))) (λ u v y s t m n. (u || (((m || n) && v) || (s || t))) || ((m || n) && y)) tt
      (p (asked r)) (p (left r)) (any p Y) (any p (sweep none (suc r) e true)) (any p (sweep none (suc r + rows e) f true)) (ends none e true) (ends none f true))
  asking-is r (star e) Y =
      rw (any_append p Y (asking (suc r) e (left r ∷ Y)), asking-is (suc r) e (left r ∷ Y))
      (by-table 5 (λ u v y s m. u || (v || (y || (s || (m && (v || y)))))) (λ u v y s m. (u || (v || s)) || y) tt
      (p (asked r)) (p (left r)) (any p Y) (any p (sweep none (suc r) e true)) (ends none e true))
  asking-is r (pipe e f) Y =
      rw (
        asking-is (suc r) e ((left r ∷ Y) ++ asking (suc r + rows e) f []),
        any_append p Y (asking (suc r + rows e) f []),
        asking-is (suc r + rows e) f [],
        any-two r true (ends none e true) (sweep none (suc r) e true) (sweep none (suc r + rows e) f (ends none e true)),
        sweep-none (suc r + rows e) f (ends none e true),
      )
      (by-table 7 (λ u v y s t m n. u || (s || (m && (v || (y || (t || (n && false))))))) (λ u v y s t m n. (u || ((m && v) || (s || (m && t)))) || (m && y)) tt
      (p (asked r)) (p (left r)) (any p Y) (any p (sweep none (suc r) e true)) (any p (sweep none (suc r + rows e) f true)) (ends none e true) (ends none f true))

  -- letter n of e is left: e is swept with n met, and Y where e is left
  leaving-is : (n r : ℕ) (e : Exp) (Y : List Touch) → Numbered e → T (has n e) → any p (leaving n r e Y) ≡ any p (sweep (this n) r e false) || (ends (this n) e false && any p Y)
  unfolding leaving sweep ends letters
  leaving-is n r (letter l) Y a h =
      rw (is_true (eqb l.number n) (subst (λ k. T (eqb k n)) (eqb→eq n l.number (one-own l n h)) (eqb_refl n)))
      (by-table 2 (λ v y. v || y) (λ v y. (v || false) || y) tt (p (left r)) (any p Y))
  leaving-is n r (seq e f) Y a h = by_cond
      (λ X. any p X ≡ any p (headed r false (ends (this n) f (ends (this n) e false)) (sweep (this n) (suc r) e false ++ sweep (this n) (suc r + rows e) f (ends (this n) e false)))
      || (ends (this n) f (ends (this n) e false) && any p Y))
      (has n e) (leaving n (suc r) e (asking (suc r + rows e) f (left r ∷ Y))) (leaving n (suc r + rows e) f (left r ∷ Y))
      (λ g. let k = other n e f a.0 g in
      rw (
        leaving-is n (suc r) e (asking (suc r + rows e) f (left r ∷ Y)) a.1 g,
        asking-is (suc r + rows e) f (left r ∷ Y),
        any-two r false (ends (this n) f (ends (this n) e false)) (sweep (this n) (suc r) e false) (sweep (this n) (suc r + rows e) f (ends (this n) e false)),
        sweep-absent n (suc r + rows e) f (ends (this n) e false) k,
        ends-absent n f (ends (this n) e false) k,
      )
      (by-table 6 (λ v y s t m n. s || (m && (t || (n && (v || y))))) (λ v y s t m n. (((m && n) && v) || (s || (m && t))) || ((m && n) && y)) tt
      (p (left r)) (any p Y) (any p (sweep (this n) (suc r) e false)) (any p (sweep none (suc r + rows e) f true)) (ends (this n) e false) (ends none f true)))
      (λ g. let k = rest_has (letters e) (letters f) n h g in
      rw (
        leaving-is n (suc r + rows e) f (left r ∷ Y) a.2 k,
        any-two r false (ends (this n) f (ends (this n) e false)) (sweep (this n) (suc r) e false) (sweep (this n) (suc r + rows e) f (ends (this n) e false)),
        sweep-absent n (suc r) e false g,
        ends-absent n e false g,
      )
      (by-table 4 (λ v y t n. t || (n && (v || y))) (λ v y t n. ((n && v) || t) || (n && y)) tt
      (p (left r)) (any p Y) (any p (sweep (this n) (suc r + rows e) f false)) (ends (this n) f false)))
  leaving-is n r (alt e f) Y a h = by_cond
      (λ X. any p X ≡ any p (headed r false (ends (this n) e false || ends (this n) f false) (sweep (this n) (suc r) e false ++ sweep (this n) (suc r + rows e) f false))
      || ((ends (this n) e false || ends (this n) f false) && any p Y))
      (has n e) (leaving n (suc r) e (left r ∷ Y)) (leaving n (suc r + rows e) f (left r ∷ Y))
      (λ g. let k = other n e f a.0 g in
      rw (
        leaving-is n (suc r) e (left r ∷ Y) a.1 g,
        any-two r false (ends (this n) e false || ends (this n) f false) (sweep (this n) (suc r) e false) (sweep (this n) (suc r + rows e) f false),
        sweep-absent n (suc r + rows e) f false k,
        ends-absent n f false k,
      )
      (by-table 4 (λ v y s m. s || (m && (v || y))) (λ v y s m. (((m || false) && v) || (s || false)) || ((m || false) && y)) tt
      (p (left r)) (any p Y) (any p (sweep (this n) (suc r) e false)) (ends (this n) e false)))
      (λ g. let k = rest_has (letters e) (letters f) n h g in
      rw (
        leaving-is n (suc r + rows e) f (left r ∷ Y) a.2 k,
        any-two r false (ends (this n) e false || ends (this n) f false) (sweep (this n) (suc r) e false) (sweep (this n) (suc r + rows e) f false),
        sweep-absent n (suc r) e false g,
        ends-absent n e false g,
      )
      (by-table 4 (λ v y t n. t || (n && (v || y))) (λ v y t n. ((n && v) || t) || (n && y)) tt
      (p (left r)) (any p Y) (any p (sweep (this n) (suc r + rows e) f false)) (ends (this n) f false)))
  leaving-is n r (star e) Y a h =
      rw (
        leaving-is n (suc r) e ((left r ∷ Y) ++ asking (suc r) e (left r ∷ Y)) a h,
        any_append p Y (asking (suc r) e (left r ∷ Y)),
        asking-is (suc r) e (left r ∷ Y),
        any-headed r false (ends (this n) e false) (sweep (this n) (suc r) e (ends (this n) e false)),
        sweep-from (this n) (suc r) e (ends (this n) e false),
      )
      (by-table 6 (λ v y s t m n. s || (m && (v || (y || (t || (n && (v || y))))))) (λ v y s t m n. ((m && v) || ((m && t) || s)) || (m && y)) tt
      (p (left r)) (any p Y) (any p (sweep (this n) (suc r) e false)) (any p (sweep none (suc r) e true)) (ends (this n) e false) (ends none e true))
  leaving-is n r (pipe e f) Y a h = by_cond
      (λ X. any p X ≡ any p (headed r false (ends (this n) e false) (sweep (this n) (suc r) e false ++ sweep (this n) (suc r + rows e) f (ends (this n) e false)))
      || (ends (this n) e false && any p Y))
      (has n e) (leaving n (suc r) e ((left r ∷ Y) ++ asking (suc r + rows e) f [])) (leaving n (suc r + rows e) f [])
      (λ g. let k = other n e f a.0 g in
      rw (
        leaving-is n (suc r) e ((left r ∷ Y) ++ asking (suc r + rows e) f []) a.1 g,
        any_append p Y (asking (suc r + rows e) f []),
        asking-is (suc r + rows e) f [],
        any-two r false (ends (this n) e false) (sweep (this n) (suc r) e false) (sweep (this n) (suc r + rows e) f (ends (this n) e false)),
        sweep-absent n (suc r + rows e) f (ends (this n) e false) k,
      )
      (by-table 6 (λ v y s t m n. s || (m && (v || (y || (t || (n && false)))))) (λ v y s t m n. ((m && v) || (s || (m && t))) || (m && y)) tt
      (p (left r)) (any p Y) (any p (sweep (this n) (suc r) e false)) (any p (sweep none (suc r + rows e) f true)) (ends (this n) e false) (ends none f true)))
      (λ g. let k = rest_has (letters e) (letters f) n h g in
      rw (
        leaving-is n (suc r + rows e) f [] a.2 k,
        any-two r false (ends (this n) e false) (sweep (this n) (suc r) e false) (sweep (this n) (suc r + rows e) f (ends (this n) e false)),
        sweep-absent n (suc r) e false g,
        ends-absent n e false g,
      )
      (by-table 2 (λ t n. t || (n && false)) (λ t n. t || false) tt (any p (sweep (this n) (suc r + rows e) f false)) (ends (this n) f false)))

  -- letter n of a monitor was met, which is asked again where it ends
  after_is : (m : Exp) (n : ℕ) → Numbered m → T (has n m) → any p (touches_after m n) ≡ any p (sweep (this n) 0 m (ends (this n) m false))
  after_is m n a h =
      rw (leaving-is n 0 m (asking 0 m []) a h, asking-is 0 m [], sweep-from (this n) 0 m (ends (this n) m false))
      (by-table 4 (λ s t m n. s || (m && (t || (n && false)))) (λ s t m n. (m && t) || s) tt
      (any p (sweep (this n) 0 m false)) (any p (sweep none 0 m true)) (ends (this n) m false) (ends none m true))

  -- the letters ns were
  all-is : (m : Exp) → Numbered m → (ns : List ℕ) → ((n : ℕ) → n ∈ ns → T (has n m))
      → any p (each ns (touches_after m)) ≡ any p (sweep (λ k. member k ns) 0 m (ends (λ k. member k ns) m false))
  all-is m a [] h = rw (ends-not m, sweep-not 0 m) refl
  all-is m a (n ∷ ns) h =
      any_append p (touches_after m n) (each ns (touches_after m))
      ∙ ap₂ ◌||◌ (after_is m n a (h n (here refl))) (all-is m a ns (λ k i. h k (there i)))
      ∙ sym (sweep-or (this n) (λ k. member k ns) 0 m (ends (this n) m false) (ends (λ k. member k ns) m false))
      ∙ ap (λ b. any p (sweep (λ k. member k (n ∷ ns)) 0 m b)) (sym (ends-or (this n) (λ k. member k ns) m false false))

-- ---- the rows swept are counted ----

-- the row that is touched
abbrev row_of : Touch → ℕ
row_of (asked r) = r
row_of (left r) = r

-- what a test finds
found-asked : (i : ℕ) (X : List Touch) → T (any (is_asked i) X) → asked i ∈ X
found-asked i X t = let (x, m, u) = any-to (is_asked i) X t in go x m u
  where
    go : (x : Touch) → x ∈ X → T (is_asked i x) → asked i ∈ X
    go (asked q) m u = subst (λ k. asked k ∈ X) (eqb→eq q i u) m
    go (left q) m u = absurd u

found_left : (i : ℕ) (X : List Touch) → T (any (is_left i) X) → left i ∈ X
found_left i X t = let (x, m, u) = any-to (is_left i) X t in go x m u
  where
    go : (x : Touch) → x ∈ X → T (is_left i x) → left i ∈ X
    go (asked q) m u = absurd u
    go (left q) m u = subst (λ k. left k ∈ X) (eqb→eq q i u) m

-- tests that never pass both
one-or : (a b : Bool) → (T a → T b → ⊥) → cond (a || b) 1 0 ≡ cond a 1 0 + cond b 1 0
one-or true true h = absurd (h tt tt)
one-or true false h = refl
one-or false true h = refl
one-or false false h = refl

-- their counts add up
count-or : (p q : ℕ → Bool) → ((i : ℕ) → T (p i) → T (q i) → ⊥) → (is : List ℕ) → count (λ i. p i || q i) is ≡ count p is + count q is
count-or p q h [] = refl
count-or p q h (i ∷ is) = omega (arith, one-or (p i) (q i) (h i), count-or p q h is)

-- tests that tell the same
count_same : (p q : ℕ → Bool) → ((i : ℕ) → p i ≡ q i) → (is : List ℕ) → count p is ≡ count q is
count_same p q h [] = refl
count_same p q h (i ∷ is) = rw (h i, count_same p q h is) refl

-- a test that never passes
count-nothing : (is : List ℕ) → count (λ i. false) is ≡ 0
count-nothing [] = refl
count-nothing (i ∷ is) = omega (arith, count-nothing is)

-- a row at or above n, and one below n
count-above : (n r : ℕ) → n ≤ r → count (λ i. eqb r i || false) (below n) ≡ 0
count-above zero r h = refl
count-above (suc n) r h = rw (is_false (eqb r n) (λ t. absurd (omega (arith, eqb→eq r n t)))) (omega (arith, count-above n r (omega arith)))

count-row : (n r : ℕ) → r < n → count (λ i. eqb r i || false) (below n) ≡ 1
count-row zero r h = absurd (omega arith)
count-row (suc n) r h = elim (dec_lt r n) [
  | yes l ↦ rw (is_false (eqb r n) (λ t. absurd (omega (arith, eqb→eq r n t)))) (omega (arith, count-row n r l))
  | no g ↦ rw (is_true (eqb r n) (subst (λ k. T (eqb r k)) (omega arith) (eqb_refl r))) (omega (arith, count-above n r (omega arith)))
]

-- only what the tests find counts
rows_in-same : (n : ℕ) (X Y : List Touch) → ((p : Touch → Bool) → any p X ≡ any p Y) → rows_in n X ≡ rows_in n Y
rows_in-same n X Y h = ap₂ ◌+◌
    (count_same (λ i. any (is_asked i) X) (λ i. any (is_asked i) Y) (λ i. h (is_asked i)) (below n))
    (count_same (λ i. any (is_left i) X) (λ i. any (is_left i) Y) (λ i. h (is_left i)) (below n))

-- lists that share no touch
rows_in-append : (n : ℕ) (X Y : List Touch) → ((x : Touch) → x ∈ X → x ∈ Y → ⊥) → rows_in n (X ++ Y) ≡ rows_in n X + rows_in n Y
rows_in-append n X Y h = omega (
  arith,
  count_same (λ i. any (is_asked i) (X ++ Y)) (λ i. any (is_asked i) X || any (is_asked i) Y) (λ i. any_append (is_asked i) X Y) (below n),
  count-or (λ i. any (is_asked i) X) (λ i. any (is_asked i) Y) (λ i t u. h (asked i) (found-asked i X t) (found-asked i Y u)) (below n),
  count_same (λ i. any (is_left i) (X ++ Y)) (λ i. any (is_left i) X || any (is_left i) Y) (λ i. any_append (is_left i) X Y) (below n),
  count-or (λ i. any (is_left i) X) (λ i. any (is_left i) Y) (λ i t u. h (left i) (found_left i X t) (found_left i Y u)) (below n),
)

-- one touch, if at all
rows_in-asked : (n r : ℕ) (a : Bool) → r < n → rows_in n (only a (asked r ∷ [])) ≡ one a
rows_in-asked n r true h = omega (arith, count-row n r h, count-nothing (below n))
rows_in-asked n r false h = omega (arith, count-nothing (below n))

rows_in-left : (n r : ℕ) (b : Bool) → r < n → rows_in n (only b (left r ∷ [])) ≡ one b
rows_in-left n r true h = omega (arith, count-row n r h, count-nothing (below n))
rows_in-left n r false h = omega (arith, count-nothing (below n))

-- row r and rows above it
rows_in-headed : (n r : ℕ) (a b : Bool) (X : List Touch) → r < n → ((x : Touch) → x ∈ X → r < row_of x) → rows_in n (headed r a b X) ≡ one a + one b + rows_in n X
rows_in-headed n r a b X h above = omega (
  arith,
  rows_in-append n (only a (asked r ∷ [])) (only b (left r ∷ []) ++ X) (λ x i j. ⊎_elim
      (λ k. clash (ap is_one (sym (one-∈ (only-∈ a i).1) ∙ one-∈ (only-∈ b k).1)))
      (λ k. absurd (omega (arith, above x k, ap row_of (one-∈ (only-∈ a i).1))))
      (append-∈ (only b (left r ∷ [])) j)),
  rows_in-append n (only b (left r ∷ [])) X (λ x i j. absurd (omega (arith, above x j, ap row_of (one-∈ (only-∈ b i).1)))),
  rows_in-asked n r a h,
  rows_in-left n r b h,
)
  where
    is_one : Touch → ℕ
    is_one (asked q) = 0
    is_one (left q) = 1

-- a touch of a row and what is behind
headed-∈ : (r : ℕ) (a b : Bool) (X : List Touch) (x : Touch) → x ∈ headed r a b X → (row_of x ≡ r) ⊎ (x ∈ X)
headed-∈ r a b X x i = ⊎_elim
    (λ j. inl (ap row_of (one-∈ (only-∈ a j).1)))
    (λ j. ⊎_elim (λ k. inl (ap row_of (one-∈ (only-∈ b k).1))) inr (append-∈ (only b (left r ∷ [])) j))
    (append-∈ (only a (asked r ∷ [])) i)

-- the rows from k up to n
abbrev Between : (k n : ℕ) → List Touch → Type 0
Between k n X = (x : Touch) → x ∈ X → (k ≤ row_of x) × (row_of x < n)

-- an operator's row with one operand, and with two
between-one : (r k n : ℕ) (a b : Bool) (X : List Touch) → suc r + k ≡ n → Between (suc r) (suc r + k) X → Between r n (headed r a b X)
between-one r k n a b X h g x i = ⊎_elim
    (λ e. (omega (arith, e), omega (arith, e, h)))
    (λ j. let (l, u) = g x j in (omega (arith, l), omega (arith, u, h)))
    (headed-∈ r a b X x i)

between-two : (r k m n : ℕ) (a b : Bool) (X Y : List Touch) → suc r + k + m ≡ n → Between (suc r) (suc r + k) X → Between (suc r + k) (suc r + k + m) Y → Between r n (headed r a b (X ++ Y))
between-two r k m n a b X Y h p q = between-one r (k + m) n a b (X ++ Y) (omega (arith, h)) (λ x i. ⊎_elim
    (λ j. let (l, u) = p x j in (l, omega (arith, u)))
    (λ j. let (l, u) = q x j in (omega (arith, l), omega (arith, u)))
    (append-∈ X i))

-- sweeping e touches rows of e alone
sweep-between : (act : ℕ → Bool) (r : ℕ) (e : Exp) (a : Bool) → Between r (r + rows e) (sweep act r e a)
unfolding sweep rows
sweep-between act r (letter l) a = between-one r 0 (r + 1) a (act l.number) [] (omega arith) (λ x i. absurd (no-∈ i))
sweep-between act r (seq e f) a =
    between-two r (rows e) (rows f) (r + (1 + rows e + rows f)) a (ends act (seq e f) a) (sweep act (suc r) e a) (sweep act (suc r + rows e) f (ends act e a)) (omega arith)
    (sweep-between act (suc r) e a) (sweep-between act (suc r + rows e) f (ends act e a))
sweep-between act r (alt e f) a =
    between-two r (rows e) (rows f) (r + (1 + rows e + rows f)) a (ends act (alt e f) a) (sweep act (suc r) e a) (sweep act (suc r + rows e) f a) (omega arith)
    (sweep-between act (suc r) e a) (sweep-between act (suc r + rows e) f a)
sweep-between act r (star e) a =
    between-one r (rows e) (r + (1 + rows e)) a (ends act (star e) a) (sweep act (suc r) e (a || ends act e a)) (omega arith) (sweep-between act (suc r) e (a || ends act e a))
sweep-between act r (pipe e f) a =
    between-two r (rows e) (rows f) (r + (1 + rows e + rows f)) a (ends act (pipe e f) a) (sweep act (suc r) e a) (sweep act (suc r + rows e) f (ends act e a)) (omega arith)
    (sweep-between act (suc r) e a) (sweep-between act (suc r + rows e) f (ends act e a))

module _ (n : ℕ) (act : ℕ → Bool) where
  -- two operands, the right one asked as c tells
  rows_in-two : (r : ℕ) (e f : Exp) (a b c : Bool) → r < n
      → rows_in n (headed r a b (sweep act (suc r) e a ++ sweep act (suc r + rows e) f c)) ≡ one a + one b + (rows_in n (sweep act (suc r) e a) + rows_in n (sweep act (suc r + rows e) f c))
  rows_in-two r e f a b c h =
      rows_in-headed n r a b (sweep act (suc r) e a ++ sweep act (suc r + rows e) f c) h
      (λ x i. ⊎_elim (λ j. omega (arith, (sweep-between act (suc r) e a x j).0)) (λ j. omega (arith, (sweep-between act (suc r + rows e) f c x j).0)) (append-∈ (sweep act (suc r) e a) i))
      ∙ ap (λ k. one a + one b + k) (rows_in-append n (sweep act (suc r) e a) (sweep act (suc r + rows e) f c)
      (λ x i j. absurd (omega (arith, (sweep-between act (suc r) e a x i).1, (sweep-between act (suc r + rows e) f c x j).0))))

  -- the touches swept are as many as the tally, where all rows of e are below n
  sweep-tally : (r : ℕ) (e : Exp) (a : Bool) → r + rows e ≤ n → rows_in n (sweep act r e a) ≡ tally act e a
  unfolding sweep tally rows
  sweep-tally r (letter l) a h = omega (arith, rows_in-headed n r a (act l.number) [] (omega arith) (λ x i. absurd (no-∈ i)), count-nothing (below n))
  sweep-tally r (seq e f) a h = omega (
    arith,
    rows_in-two r e f a (ends act (seq e f) a) (ends act e a) (omega arith),
    sweep-tally (suc r) e a (omega arith),
    sweep-tally (suc r + rows e) f (ends act e a) (omega arith),
  )
  sweep-tally r (alt e f) a h = omega (
    arith,
    rows_in-two r e f a (ends act (alt e f) a) a (omega arith),
    sweep-tally (suc r) e a (omega arith),
    sweep-tally (suc r + rows e) f a (omega arith),
  )
  sweep-tally r (star e) a h = omega (
    arith,
    rows_in-headed n r a (ends act (star e) a) (sweep act (suc r) e (a || ends act e a)) (omega arith) (λ x i. omega (arith, (sweep-between act (suc r) e (a || ends act e a) x i).0)),
    sweep-tally (suc r) e (a || ends act e a) (omega arith),
  )
  sweep-tally r (pipe e f) a h = omega (
    arith,
    rows_in-two r e f a (ends act (pipe e f) a) (ends act e a) (omega arith),
    sweep-tally (suc r) e a (omega arith),
    sweep-tally (suc r + rows e) f (ends act e a) (omega arith),
  )

-- ---- the number of touches ----

-- at a monitor's start
pub tally-start : (m : Exp) → rows_in (rows m) (touches_at_start m) ≡ tally (λ n. false) m true
tally-start m =
    rows_in-same (rows m) (touches_at_start m) (sweep none 0 m true)
    (λ p. asking-is p 0 m [] ∙ by-table 2 (λ s n. s || (n && false)) (λ s n. s) tt (any p (sweep none 0 m true)) (ends none m true))
    ∙ sweep-tally (rows m) none 0 m true (omega arith)

-- where the letters ns were met at the tick before
pub tally-met : (m : Exp) → Numbered m → (ns : List ℕ) → ((n : ℕ) → n ∈ ns → T (has n m))
    → rows_in (rows m) (each ns (touches_after m)) ≡ tally_after (λ n. member n ns) m
tally-met m a ns h =
    rows_in-same (rows m) (each ns (touches_after m)) (sweep (λ n. member n ns) 0 m (ends (λ n. member n ns) m false)) (λ p. all-is p m a ns h)
    ∙ sweep-tally (rows m) (λ n. member n ns) 0 m (ends (λ n. member n ns) m false) (omega arith)

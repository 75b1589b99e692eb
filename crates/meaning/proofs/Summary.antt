-- Rules 8, 9 and 10 from an expression's parts: what a summary tells is what the rule tells, and the letter that it names the one that the rule names, in every copy. Assumes nothing.
use mathlib.Core.Path.{◌≡◌, refl, sym, ◌∙◌, ap, ap₂}
use mathlib.Core.Bool.{Bool, true, false, not, cond, ◌&&◌, ◌||◌}
use mathlib.Core.List.{List, [], ◌∷◌, ◌++◌, append-nil, append_assoc}
use mathlib.Core.Option.{Option, none, some}
use Prim.Native.Nat.{ℕ, ◌+◌, ◌<◌, min}
use native.Mathlib.Nat.{min_comm}
use native.Mathlib.Omega.{arith}
use Rattle.meaning.specs.Lists.{each, only}
use Rattle.meaning.specs.Expression.{Letter, Exp, letter, seq, alt, star, pipe, letters, size, renumbered}
use Rattle.refusals.specs.Numbers.{impossible, hollow, open_end, fork}
use Rattle.meaning.specs.Shape.{nullable, parts, head}
use Rattle.meaning.specs.ShapeTests.{Shape, accepted, agree, unsatisfiable, nullables, open_ends, ambiguous, least, first_of, shape}
use Rattle.meaning.specs.Summary.{counted, or_later, impossible_at, unless_nullable, hollow_at, turned_at}
use Rattle.meaning.proofs.ListLaws.{each_append, clash}

-- ---- 8

-- what is kept of two parts is enough for both together
pub counted-two : (a b : ℕ) → counted (a + b) ≡ counted (counted a + counted b)
counted-two a b = omega arith

-- ---- the lowest of a list

min_assoc : (a b c : ℕ) → min (min a b) c ≡ min a (min b c)
min_assoc a b c = omega arith

abbrev lower : Option ℕ → Option ℕ → Option ℕ
lower none o = o
lower (some a) none = some a
lower (some a) (some b) = some (min a b)

abbrev lowest : List ℕ → Option ℕ
lowest [] = none
lowest (n ∷ ns) = lower (some n) (lowest ns)

lower-assoc : (a b c : Option ℕ) → lower (lower a b) c ≡ lower a (lower b c)
lower-assoc none b c = refl
lower-assoc (some a) none c = refl
lower-assoc (some a) (some b) none = refl
lower-assoc (some a) (some b) (some c) = ap some (min_assoc a b c)

lower-comm : (a b : Option ℕ) → lower a b ≡ lower b a
lower-comm none none = refl
lower-comm none (some b) = refl
lower-comm (some a) none = refl
lower-comm (some a) (some b) = ap some (min_comm a b)

lower-swap : (a b c : Option ℕ) → lower a (lower b c) ≡ lower b (lower a c)
lower-swap a b c = sym (lower-assoc a b c) ∙ ap (λ (o : Option ℕ). lower o c) (lower-comm a b) ∙ lower-assoc b a c

lowest-append : (xs ys : List ℕ) → lowest (xs ++ ys) ≡ lower (lowest xs) (lowest ys)
lowest-append [] ys = refl
lowest-append (x ∷ xs) ys = ap (lower (some x)) (lowest-append xs ys) ∙ sym (lower-assoc (some x) (lowest xs) (lowest ys))

-- in another order
crossed : (a b c d : List ℕ) → lowest (a ++ (b ++ (c ++ d))) ≡ lowest ((a ++ c) ++ (b ++ d))
crossed a b c d =
    lowest-append a (b ++ (c ++ d))
    ∙ ap (lower (lowest a)) (lowest-append b (c ++ d) ∙ ap (lower (lowest b)) (lowest-append c d) ∙ lower-swap (lowest b) (lowest c) (lowest d))
    ∙ sym (lower-assoc (lowest a) (lowest c) (lower (lowest b) (lowest d)))
    ∙ sym (lowest-append (a ++ c) (b ++ d) ∙ ap₂ lower (lowest-append a c) (lowest-append b d))

least-lowest : (n : ℕ) (ns : List ℕ) → some (least n ns) ≡ lowest (n ∷ ns)
least-lowest n [] = refl
least-lowest n (m ∷ ns) = least-lowest (min n m) ns ∙ lower-assoc (some n) (some m) (lowest ns)

first-lowest : (rule : ℕ) (ns : List ℕ) (rest : Shape) → first_of rule ns rest ≡ turned_at rule (lowest ns) rest
first-lowest rule [] rest = refl
first-lowest rule (n ∷ ns) rest = ap (λ (o : Option ℕ). turned_at rule o rest) (least-lowest n ns)

-- ---- letters counted from 0, and from k in a copy

abbrev shifted : ℕ → Option ℕ → Option ℕ
shifted k none = none
shifted k (some n) = some (k + n)

shifted-zero : (o : Option ℕ) → shifted 0 o ≡ o
shifted-zero none = refl
shifted-zero (some n) = ap some (omega arith)

abbrev pub Below : ℕ → Option ℕ → Type 0
Below k none = Unit {0}
Below k (some n) = n < k

later-below : (m n : ℕ) (a b : Option ℕ) → Below m a → Below n b → Below (m + n) (or_later a m b)
later-below m n none none h k = tt
later-below m n none (some b) h k = omega (arith, k)
later-below m n (some a) b h k = omega (arith, h)

-- the lower of what two parts one behind the other have, in a copy from k on
lower-later : (k m : ℕ) (a b : Option ℕ) → Below m a → lower (shifted k a) (shifted (k + m) b) ≡ shifted k (or_later a m b)
lower-later k m none none h = refl
lower-later k m none (some b) h = ap some (omega arith)
lower-later k m (some a) none h = refl
lower-later k m (some a) (some b) h = ap some (omega (arith, h))

-- two lists one behind the other, and what is the lowest of each
appended : (k m : ℕ) (xs ys : List ℕ) (a b : Option ℕ) → lowest xs ≡ shifted k a → lowest ys ≡ shifted (k + m) b → Below m a
    → lowest (xs ++ ys) ≡ shifted k (or_later a m b)
appended k m xs ys a b e f h = lowest-append xs ys ∙ ap₂ lower e f ∙ lower-later k m a b h

some-letter : (e : Exp) → 0 < size e
unfolding size
some-letter (letter l) = omega arith
some-letter (seq e f) = omega (arith, some-letter e)
some-letter (alt e f) = omega (arith, some-letter e)
some-letter (star e) = some-letter e
some-letter (pipe e f) = omega (arith, some-letter e)

-- ---- 9

pub impossible-below : (e : Exp) → Below (size e) (impossible_at e)
unfolding size impossible_at
impossible-below (letter l) = by (agree l.literals)
  where
    by : (b : Bool) → Below 1 (cond b none (some 0))
    by true = tt
    by false = omega arith
impossible-below (seq e f) = later-below (size e) (size f) (impossible_at e) (impossible_at f) (impossible-below e) (impossible-below f)
impossible-below (alt e f) = later-below (size e) (size f) (impossible_at e) (impossible_at f) (impossible-below e) (impossible-below f)
impossible-below (star e) = impossible-below e
impossible-below (pipe e f) = later-below (size e) (size f) (impossible_at e) (impossible_at f) (impossible-below e) (impossible-below f)

-- the letters that rule 9 names in a copy from k on
abbrev named_by9 : ℕ → Exp → List ℕ
named_by9 k e = unsatisfiable (renumbered k e)

abbrev Right9 : ℕ → Exp → Type 0
Right9 k e = lowest (named_by9 k e) ≡ shifted k (impossible_at e)

two-9 : (k : ℕ) (e f : Exp) → Right9 k e → Right9 (k + size e) f → lowest (unsatisfiable (seq (renumbered k e) (renumbered (k + size e) f)))
    ≡ shifted k (or_later (impossible_at e) (size e) (impossible_at f))
unfolding unsatisfiable letters
two-9 k e f g h =
    ap lowest (each_append (letters (renumbered k e)) (letters (renumbered (k + size e) f)) (λ l. only (not (agree l.literals)) (l.number ∷ [])))
    ∙ appended k (size e) (named_by9 k e) (named_by9 (k + size e) f) (impossible_at e) (impossible_at f) g h (impossible-below e)

-- The first impossible letter of e is the lowest that rule 9 names in a copy of e.
right-9 : (k : ℕ) (e : Exp) → Right9 k e
unfolding unsatisfiable letters renumbered impossible_at
right-9 k (letter l) = by (agree l.literals)
  where
    by : (b : Bool) → lowest (only (not b) (k ∷ []) ++ []) ≡ shifted k (cond b none (some 0))
    by true = refl
    by false = ap some (omega arith)
right-9 k (seq e f) = two-9 k e f (right-9 k e) (right-9 (k + size e) f)
right-9 k (alt e f) = two-9 k e f (right-9 k e) (right-9 (k + size e) f)
right-9 k (star e) = right-9 k e
right-9 k (pipe e f) = two-9 k e f (right-9 k e) (right-9 (k + size e) f)

-- Where the summary names no impossible letter, rule 9 names none.
pub possible : (m : Exp) → impossible_at m ≡ none → unsatisfiable (renumbered 0 m) ≡ []
possible m e = by (unsatisfiable (renumbered 0 m)) (right-9 0 m ∙ ap (shifted 0) e)
  where
    none-lower : (n : ℕ) (o : Option ℕ) → lower (some n) o ≡ none → ⊥
    none-lower n none h = clash (cc)
    none-lower n (some a) h = clash (cc)

    by : (ns : List ℕ) → lowest ns ≡ none → ns ≡ []
    by [] h = refl
    by (n ∷ ns) h = absurd (none-lower n (lowest ns) h)

-- ---- 10

pub nullable-renumbered : (k : ℕ) (e : Exp) → nullable (renumbered k e) ≡ nullable e
unfolding nullable renumbered
nullable-renumbered k (letter l) = refl
nullable-renumbered k (seq e f) = ap₂ ◌&&◌ (nullable-renumbered k e) (nullable-renumbered (k + size e) f)
nullable-renumbered k (alt e f) = ap₂ ◌||◌ (nullable-renumbered k e) (nullable-renumbered (k + size e) f)
nullable-renumbered k (star e) = refl
nullable-renumbered k (pipe e f) = refl

-- the first letter of a copy from k on has the number k
first-letter : (k : ℕ) (e : Exp) (ls : List Letter) → head (letters (renumbered k e) ++ ls) ≡ k ∷ []
unfolding letters renumbered
first-letter k (letter l) ls = refl
first-letter k (seq e f) ls = ap head (append_assoc (letters (renumbered k e)) (letters (renumbered (k + size e) f)) ls) ∙ first-letter k e _
first-letter k (alt e f) ls = ap head (append_assoc (letters (renumbered k e)) (letters (renumbered (k + size e) f)) ls) ∙ first-letter k e _
first-letter k (star e) ls = first-letter k e ls
first-letter k (pipe e f) ls = ap head (append_assoc (letters (renumbered k e)) (letters (renumbered (k + size e) f)) ls) ∙ first-letter k e _

-- a part that may not be nullable names its first letter
abbrev named : Exp → List ℕ
named p = only (nullable p) (head (letters p))

-- the letters that rule 10 names in a copy from k on, itself not asked, and itself asked
abbrev inside : ℕ → Exp → List ℕ
inside k e = each (parts (renumbered k e)) named

abbrev whole : ℕ → Exp → List ℕ
whole k e = named (renumbered k e) ++ inside k e

abbrev Right10 : ℕ → Exp → Type 0
Right10 k e = lowest (inside k e) ≡ shifted k (hollow_at e)

whole-10 : (k : ℕ) (e : Exp) → Right10 k e → lowest (whole k e) ≡ shifted k (unless_nullable e (hollow_at e))
whole-10 k e h =
    lowest-append (named (renumbered k e)) (inside k e) ∙ ap₂ (λ (x : List ℕ) (o : Option ℕ). lower (lowest x) o) itself h ∙ by (nullable e) (hollow_at e)
  where
    itself : named (renumbered k e) ≡ only (nullable e) (k ∷ [])
    itself = ap₂ (λ (b : Bool) (x : List ℕ). only b x) (nullable-renumbered k e)
        (ap head (sym (append-nil (letters (renumbered k e)))) ∙ first-letter k e [])

    by : (b : Bool) (o : Option ℕ) → lower (lowest (only b (k ∷ []))) (shifted k o) ≡ shifted k (cond b (some 0) o)
    by true none = ap some (omega arith)
    by true (some n) = ap some (omega arith)
    by false o = refl

unless-below : (e : Exp) (o : Option ℕ) → Below (size e) o → Below (size e) (unless_nullable e o)
unless-below e o h = by (nullable e)
  where
    by : (b : Bool) → Below (size e) (cond b (some 0) o)
    by true = some-letter e
    by false = h

pub hollow-below : (e : Exp) → Below (size e) (hollow_at e)
unfolding size hollow_at
hollow-below (letter l) = tt
hollow-below (seq e f) = later-below (size e) (size f) (hollow_at e) (hollow_at f) (hollow-below e) (hollow-below f)
hollow-below (alt e f) = later-below (size e) (size f) (hollow_at e) (hollow_at f) (hollow-below e) (hollow-below f)
hollow-below (star e) = unless-below e (hollow_at e) (hollow-below e)
hollow-below (pipe e f) =
    later-below (size e) (size f) (unless_nullable e (hollow_at e)) (unless_nullable f (hollow_at f))
    (unless-below e (hollow_at e) (hollow-below e)) (unless-below f (hollow_at f) (hollow-below f))

two-10 : (k : ℕ) (e f : Exp) → Right10 k e → Right10 (k + size e) f → lowest (each (parts (renumbered k e) ++ parts (renumbered (k + size e) f)) named)
    ≡ shifted k (or_later (hollow_at e) (size e) (hollow_at f))
two-10 k e f g h =
    ap lowest (each_append (parts (renumbered k e)) (parts (renumbered (k + size e) f)) named)
    ∙ appended k (size e) (inside k e) (inside (k + size e) f) (hollow_at e) (hollow_at f) g h (hollow-below e)

-- The first letter of the first part at fault in e is the lowest that rule 10 names in a copy of e.
right-10 : (k : ℕ) (e : Exp) → Right10 k e
unfolding parts renumbered hollow_at
right-10 k (letter l) = refl
right-10 k (seq e f) = two-10 k e f (right-10 k e) (right-10 (k + size e) f)
right-10 k (alt e f) = two-10 k e f (right-10 k e) (right-10 (k + size e) f)
right-10 k (star e) = whole-10 k e (right-10 k e)
right-10 k (pipe e f) =
    ap (λ (x : List ℕ). lowest (named (renumbered k e) ++ (named (renumbered (k + size e) f) ++ x)))
    (each_append (parts (renumbered k e)) (parts (renumbered (k + size e) f)) named)
    ∙ crossed (named (renumbered k e)) (named (renumbered (k + size e) f)) (inside k e) (inside (k + size e) f)
    ∙ appended k (size e) (whole k e) (whole (k + size e) f) (unless_nullable e (hollow_at e)) (unless_nullable f (hollow_at f))
    (whole-10 k e (right-10 k e)) (whole-10 (k + size e) f (right-10 (k + size e) f)) (unless-below e (hollow_at e) (hollow-below e))

-- ---- both

-- what is asked of a monitor after them
abbrev pub rules11and12 : Exp → Shape
rules11and12 m = first_of open_end (open_ends m) (first_of fork (ambiguous m) accepted)

-- Rules 9 and 10 turn a monitor away as its summary does.
pub shape-summary : (m : Exp)
    → shape (renumbered 0 m) ≡ turned_at impossible (impossible_at m) (turned_at hollow (unless_nullable m (hollow_at m)) (rules11and12 (renumbered 0 m)))
unfolding shape nullables
shape-summary m =
    let rest = rules11and12 (renumbered 0 m) in
    first-lowest impossible (unsatisfiable (renumbered 0 m)) (first_of hollow (whole 0 m) rest)
    ∙ ap₂ (turned_at impossible) (right-9 0 m ∙ shifted-zero (impossible_at m))
    (first-lowest hollow (whole 0 m) rest
    ∙ ap (λ (o : Option ℕ). turned_at hollow o rest) (whole-10 0 m (right-10 0 m) ∙ shifted-zero (unless_nullable m (hollow_at m))))

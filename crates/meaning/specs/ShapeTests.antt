-- The shape rules (docs/REFERENCE.md, S8 to S13 and X10) as tests that compute: for each rule the letters at fault, and the first rule with its lowest letter.
-- proofs/Rules and proofs/Shaped tie them to the statements of specs/Shape. Assumes nothing.
use Rattle.std.specs.Prelude.{List, [], ◌∷◌, ◌++◌, map, Bool, false, not, ◌&&◌, ◌≡◌, ℕ, ◌+◌, ◌-◌, ◌^◌, ◌<◌, ◌≤◌, min, eqb, leb, ltb}
use Rattle.refusals.specs.Numbers.{impossible, hollow, open_end, fork}
use Rattle.meaning.specs.Lists.{◌∈◌, each, any, all, null, only, below}
use Rattle.meaning.specs.Expression.{Literal, wire, wire_store, wire_past, store, Letter, bit, Exp, star, letters, Ordered}
use Rattle.meaning.specs.Shape.{nullable, first, last, follow, threads, parts, head}

-- S8: the groups of letters side by side. S6: "In a monitor as a whole its first letters come next after its last ones",
-- as in a star.
abbrev pub groups : Exp → List (List Letter)
groups m = map first (m ∷ threads m) ++ map (λ l. follow l.number (star m)) (letters m)

-- the same as tests, for literals whose wires are in the word and whose number fits (N5)
abbrev pub Sized : Literal → Type 0
Sized (wire lo width v) = (v < 2 ^ width) × (lo + width ≤ 64)
Sized (wire_store lo width s) = Unit {0}
Sized (wire_past lo width) = lo + width ≤ 64
Sized (store s v) = Unit {0}

abbrev pub AllSized : List Literal → Type 0
AllSized ls = (l : Literal) → l ∈ ls → Sized l

abbrev pub SizedLetters : Exp → Type 0
SizedLetters m = (l : Letter) → l ∈ letters m → AllSized l.literals

-- the literal asks that bit i of the word is b
abbrev pub asks : (i b : ℕ) → Literal → Bool
asks i b (wire lo width v) = leb lo i && ltb i (lo + width) && eqb (bit (i - lo) v) b
asks i b (wire_store lo width s) = false
asks i b (wire_past lo width) = false
asks i b (store s v) = false

-- the bits of a word
abbrev pub bits : List ℕ
bits = below 64

-- S10: whether no "bit would have to be both 0 and 1"
unfoldable pub agree : List Literal → Bool
agree ls = all (λ i. not (any (asks i 0) ls && any (asks i 1) ls)) bits

-- S13: "some word meets the wire literals of both"
unfoldable pub together : Letter → Letter → Bool
together x y = agree (x.literals ++ y.literals)

-- ---- the rules: for each the numbers of the letters at fault ----

abbrev pub numbers : (Letter → Bool) → List Letter → List ℕ
numbers test ls = each ls (λ l. only (test l) (l.number ∷ []))

-- 9, 01: impossible. S10: "no word meets the wire literals of some letter"
unfoldable pub unsatisfiable : Exp → List ℕ
unsatisfiable m = numbers (λ l. not (agree l.literals)) (letters m)

-- 10, 01: hollow. S11: "a monitor, the body of a star, or an operand of an `@`, left or right, is nullable"
unfoldable pub nullables : Exp → List ℕ
nullables m = each (m ∷ parts m) (λ p. only (nullable p) (head (letters p)))

-- 11, 01: open end. S12: "after a last letter of a thread some letter comes next inside the thread"
unfoldable pub open_ends : Exp → List ℕ
open_ends m = each (threads m) (λ f. numbers (λ l. last l.number f && not (null (follow l.number f))) (letters f))

-- 12, 01: fork. S13: "two letters are side by side, and some word meets the wire literals of both. Both are at fault."
unfoldable pub ambiguous : Exp → List ℕ
ambiguous m = each (groups m) (λ g. numbers (λ x. any (λ y. not (eqb x.number y.number) && together x y) g) g)

abbrev pub least : ℕ → List ℕ → ℕ
least a [] = a
least a (b ∷ bs) = least (min a b) bs

pub data Shape : Type 0 where
  accepted : Shape
  turned_away : (rule letter : ℕ) → Shape

-- the rule at the lowest of the numbers, or the rest if there is none
abbrev pub first_of : ℕ → List ℕ → Shape → Shape
first_of rule [] rest = rest
first_of rule (n ∷ ns) rest = turned_away rule (least n ns)

-- X10: "each by 9, 10, 11 and 12 in this order. The first rule broken is told, with .. the lowest letter at fault by that rule"
unfoldable pub shape : Exp → Shape
shape m = first_of impossible (unsatisfiable m) (first_of hollow (nullables m) (first_of open_end (open_ends m) (first_of fork (ambiguous m) accepted)))

-- A text's monitors: numbered (S2), none turned away.
abbrev pub AllRead : List Exp → Type 0
AllRead ms = (m : Exp) → m ∈ ms → Ordered 0 m × (shape m ≡ accepted)

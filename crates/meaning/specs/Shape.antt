-- The shape of a monitor (docs/REFERENCE.md, S4 to S13): what can come first, last and next, and the rules 9 to 12 that it must keep.
use Rattle.std.specs.Prelude.{List, [], ◌∷◌, ◌++◌, Bool, true, false, ◌&&◌, ◌||◌, ◌≡◌, ◌⊎◌, ℕ, ◌^◌, ◌<◌, ◌≤◌, T, eqb}
use Rattle.meaning.specs.Lists.{◌∈◌, all, only}
use Rattle.meaning.specs.Expression.{Literal, wire, wire_store, wire_past, store, Letter, field, Exp, letter, seq, alt, star, pipe, letters}

-- ---- what can come first, last and next ----

-- 01: hollow. S4: "A part is nullable if it can take no tick at all".
unfoldable pub nullable : Exp → Bool
nullable (letter l) = false
nullable (seq e f) = nullable e && nullable f
nullable (alt e f) = nullable e || nullable f
nullable (star e) = true
nullable (pipe e f) = false

-- S4: the "first letters" of e
unfoldable pub first : Exp → List Letter
first (letter l) = l ∷ []
first (seq e f) = first e ++ only (nullable e) (first f)
first (alt e f) = first e ++ first f
first (star e) = first e
first (pipe e f) = first e

-- S4: letter n is one of the "last letters" of e
unfoldable pub last : ℕ → Exp → Bool
last n (letter l) = eqb n l.number
last n (seq e f) = last n f || (nullable f && last n e)
last n (alt e f) = last n e || last n f
last n (star e) = last n e
last n (pipe e f) = last n e

-- S6: the letters that come next after letter n inside e, for "an `e , f` with x a last letter of e and y a first one of
-- f, or an `e*` with x a last letter of e and y a first one of e". S7: "An `@` lets nothing come next".
unfoldable pub follow : ℕ → Exp → List Letter
follow n (letter l) = []
follow n (seq e f) = follow n e ++ follow n f ++ only (last n e) (first f)
follow n (alt e f) = follow n e ++ follow n f
follow n (star e) = follow n e ++ only (last n e) (first e)
follow n (pipe e f) = follow n e ++ follow n f

-- S5: "The right operand of an `@` is called a thread. A thread inside another is a thread of the monitor as well."
unfoldable pub threads : Exp → List Exp
threads (letter l) = []
threads (seq e f) = threads e ++ threads f
threads (alt e f) = threads e ++ threads f
threads (star e) = threads e
threads (pipe e f) = f ∷ threads e ++ threads f

-- ---- rule 9 and rule 12: words that meet a letter's wire literals ----

-- S9: "tests of stores and of the word before are passed over"
abbrev pub wire_holds : ℕ → Literal → Bool
wire_holds w (wire lo width v) = eqb (field lo width w) v
wire_holds w (wire_store lo width s) = true
wire_holds w (wire_past lo width) = true
wire_holds w (store s v) = true

unfoldable pub meets_wires : Letter → ℕ → Bool
meets_wires l w = all (wire_holds w) l.literals

-- S10: "no word meets the wire literals"
abbrev pub Unsatisfiable : Letter → Type 0
Unsatisfiable l = (w : ℕ) → w < 2 ^ 64 → T (meets_wires l w) → ⊥

-- S13: "some word meets the wire literals of both"
abbrev pub Together : Letter → Letter → Type 0
Together x y = (w : ℕ) × (w < 2 ^ 64) × T (meets_wires x w) × T (meets_wires y w)

-- ---- the rules: letter n of m is at fault ----

-- S11: "the body of a star, or an operand of an `@`, left or right": the parts of e that may not be nullable
unfoldable pub parts : Exp → List Exp
parts (letter l) = []
parts (seq e f) = parts e ++ parts f
parts (alt e f) = parts e ++ parts f
parts (star e) = e ∷ parts e
parts (pipe e f) = e ∷ f ∷ parts e ++ parts f

-- S11: "the letter with the lowest number in that part"
abbrev pub head : List Letter → List ℕ
head [] = []
head (l ∷ ls) = l.number ∷ []

-- 9, 01: impossible. S10
abbrev pub UnsatisfiableAt : Exp → ℕ → Type 0
UnsatisfiableAt m n = (l : Letter) × (l ∈ letters m) × (l.number ≡ n) × Unsatisfiable l

-- 10, 01: hollow. S11: "a monitor, the body of a star, or an operand of an `@`, left or right, is nullable"
abbrev pub NullableAt : Exp → ℕ → Type 0
NullableAt m n = (p : Exp) × (p ∈ m ∷ parts m) × T (nullable p) × (n ∈ head (letters p))

-- 11, 01: open end. S12: "after a last letter of a thread some letter comes next inside the thread"
abbrev pub OpenEndAt : Exp → ℕ → Type 0
OpenEndAt m n = (f : Exp) × (x : Letter) × (f ∈ threads m) × T (last n f) × (x ∈ follow n f)

-- S8: "if both are first letters of the monitor, or both first letters of one thread, or both come next after one and the
-- same letter in the monitor as a whole". S6: "In a monitor as a whole its first letters come next after its last ones",
-- as in a star.
abbrev pub SideBySide : Exp → Letter → Letter → Type 0
SideBySide m x y =
    ((x ∈ first m) × (y ∈ first m))
    ⊎ ((f : Exp) × (f ∈ threads m) × (x ∈ first f) × (y ∈ first f))
    ⊎ ((n : ℕ) × (x ∈ follow n (star m)) × (y ∈ follow n (star m)))

-- 12, 01: fork. S13: "two letters are side by side, and some word meets the wire literals of both"; S8: "Two different letters"
abbrev pub AmbiguousAt : Exp → ℕ → Type 0
AmbiguousAt m n = (x : Letter) × (y : Letter) × (x.number ≡ n) × (x.number ≡ y.number → ⊥) × SideBySide m x y × Together x y

-- no letter is at fault
abbrev pub Never : (ℕ → Type 0) → Type 0
Never P = (k : ℕ) → P k → ⊥

-- X10: n is "the lowest letter at fault"
abbrev pub Lowest : (ℕ → Type 0) → ℕ → Type 0
Lowest P n = P n × ((k : ℕ) → P k → n ≤ k)

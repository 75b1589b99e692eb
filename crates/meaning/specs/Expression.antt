-- Letters and expressions, productions already opened (docs/REFERENCE.md, S1 to S3, with the forms of G1).
use Rattle.std.specs.Prelude.{List, [], ◌∷◌, ◌++◌, ◌≡◌, ℕ, suc, ◌+◌, ◌/◌, ◌%◌, ◌^◌}
use Rattle.std.proofs.Math.Option.{Option, none, some}

-- ---- letters ----

-- G8: "It is `N` for a single wire, `N[i]` for a bit of any wire, either of them behind `!`, `wire == number`,
-- `wire == store`, `wire == past(wire)`, `store == number`". N4: a wire has "the bits lo to lo+width-1 in the word"; a
-- single wire or a bit is a field of width 1 that is 1, or 0 with `!`.
pub data Literal : Type 0 where
  wire : (lo width number : ℕ) → Literal  -- wire == number
  wire_store : (lo width store : ℕ) → Literal  -- wire == store
  wire_past : (lo width : ℕ) → Literal  -- wire == past(wire)
  store : (store number : ℕ) → Literal  -- store == number

-- G15: "A write is `store <- number;` .. or `store <- wire;`"
pub data Write : Type 0 where
  from_wire : (store lo width : ℕ) → Write  -- store <- wire;
  from_number : (store number : ℕ) → Write  -- store <- number;

-- G14: "A letter is one or more literals joined by `&`, and then perhaps braces with one or two writes."; number is its
-- own in its monitor (S2). S14: "A letter knows the productions of a single letter that it came through": their numbers
-- (N8), the one that it came through last in front.
pub record Letter : Type 0 where
  pub number : ℕ
  pub literals : List Literal
  pub writes : List Write
  pub through : List ℕ

-- N7: "literals `wire == store` and `store == number`", and no others
unfoldable pub store_tests : List Literal → ℕ
store_tests [] = 0
store_tests (wire lo width v ∷ ls) = store_tests ls
store_tests (wire_store lo width s ∷ ls) = suc (store_tests ls)
store_tests (wire_past lo width ∷ ls) = store_tests ls
store_tests (store s v ∷ ls) = suc (store_tests ls)

-- N4: "(w / 2^lo) mod 2^width"
abbrev pub field : (lo width word : ℕ) → ℕ
field lo width word = (word / 2 ^ lo) % 2 ^ width

-- N4: one "bit" of a word
abbrev pub bit : (i word : ℕ) → ℕ
bit i word = (word / 2 ^ i) % 2

-- ---- expressions ----

-- G17: the operators
pub data Exp : Type 0 where
  letter : Letter → Exp
  seq : Exp → Exp → Exp  -- e , f
  alt : Exp → Exp → Exp  -- e || f
  star : Exp → Exp  -- e*
  pipe : Exp → Exp → Exp  -- e @ f

-- S2: the letters "from left to right after opening"
unfoldable pub letters : Exp → List Letter
letters (letter l) = l ∷ []
letters (seq e f) = letters e ++ letters f
letters (alt e f) = letters e ++ letters f
letters (star e) = letters e
letters (pipe e f) = letters e ++ letters f

-- F17: "A letter is required by the innermost thread that it stands in": the letters of e that stand in no thread inside e
unfoldable pub own : Exp → List Letter
own (letter l) = l ∷ []
own (seq e f) = own e ++ own f
own (alt e f) = own e ++ own f
own (star e) = own e
own (pipe e f) = own e

-- S3: how many letters
unfoldable pub size : Exp → ℕ
size (letter l) = 1
size (seq e f) = size e + size f
size (alt e f) = size e + size f
size (star e) = size e
size (pipe e f) = size e + size f

-- S3: "a row for each letter and each operator"
unfoldable pub rows : Exp → ℕ
rows (letter l) = 1
rows (seq e f) = 1 + rows e + rows f
rows (alt e f) = 1 + rows e + rows f
rows (star e) = 1 + rows e
rows (pipe e f) = 1 + rows e + rows f

-- a letter that is read; its number is given when the program is opened (S2)
abbrev pub a_letter : List Literal → List Write → Exp
a_letter ls ws = letter (record { number = 0; literals = ls; writes = ws; through = [] })

-- ---- S2: "The letters of a monitor are numbered from 0, from left to right after opening." ----

-- S2: the same expression with its letters numbered from k; a monitor's are from 0
unfoldable pub renumbered : ℕ → Exp → Exp
renumbered k (letter l) = letter (record { number = k; literals = l.literals; writes = l.writes; through = l.through })
renumbered k (seq e f) = seq (renumbered k e) (renumbered (k + size e) f)
renumbered k (alt e f) = alt (renumbered k e) (renumbered (k + size e) f)
renumbered k (star e) = star (renumbered k e)
renumbered k (pipe e f) = pipe (renumbered k e) (renumbered (k + size e) f)

-- its letters are numbered from k
abbrev pub Ordered : ℕ → Exp → Type 0
Ordered k (letter l) = l.number ≡ k
Ordered k (seq e f) = Ordered k e × Ordered (k + size e) f
Ordered k (alt e f) = Ordered k e × Ordered (k + size e) f
Ordered k (star e) = Ordered k e
Ordered k (pipe e f) = Ordered k e × Ordered (k + size e) f

-- ---- S14: the productions that a letter came through ----

-- The expression e as that of the production with the number k: a single letter comes through it. The letters of any other
-- production have come through none with it that could be limited (G22).
unfoldable pub as_production : ℕ → Exp → Exp
as_production k (letter l) = letter (record { number = l.number; literals = l.literals; writes = l.writes; through = k ∷ l.through })
as_production k (seq e f) = seq e f
as_production k (alt e f) = alt e f
as_production k (star e) = star e
as_production k (pipe e f) = pipe e f

abbrev pub newest : List ℕ → Option ℕ
newest [] = none
newest (k ∷ ks) = some k

-- G22: the number of the production that has the expression e, if that is "a single letter, without an operator"
unfoldable pub single : Exp → Option ℕ
single (letter l) = newest l.through
single (seq e f) = none
single (alt e f) = none
single (star e) = none
single (pipe e f) = none

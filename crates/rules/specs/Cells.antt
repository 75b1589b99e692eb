-- What the words that a text is read into stand for: store tests and writes, wires that must be as before, expressions, and the names that are declared (docs/REFERENCE.md, N1). A cell is
-- known by the index of its first word; index 0 is none. The words below c are in use. Assumes nothing.
use Rattle.std.specs.Prelude.{Bool, true, false, cond, ◌||◌, List, [], ◌∷◌, ◌≡◌, ℕ, ◌+◌, ◌<◌, ◌≤◌, min, eqb, length, get_or, take, drop}
use Rattle.std.proofs.Math.Option.{Option, none, some}
use Rattle.lexer.specs.Bytes.{Entry, lookup}
use Rattle.meaning.specs.Expression.{Literal, wire, wire_store, wire_past, store, Write, from_wire, from_number, Exp, letter, seq, alt, star, pipe, size, store_tests}
use Rattle.meaning.specs.Shape.{nullable}
use Rattle.meaning.specs.ShapeTests.{agree, AllSized, SizedLetters}
use Rattle.masks.specs.Masks.{look, want, held}
use Rattle.meaning.specs.Summary.{counted, impossible_at, hollow_at}
use Rattle.meaning.specs.Names.{Meaning, an_input, a_store, a_define, a_production}
use Rattle.words.specs.Words.{part0, part1, part2, part3}

-- the word at an index
abbrev pub at : List ℕ → ℕ → ℕ
at P i = get_or P i 0

-- ---- store tests and writes

-- A store, and what it is compared with or what is written: a field of the word, plus a number. One of the two is 0: a number alone is a field of no wires.
pub record Link : Type 0 where
  pub store : ℕ
  pub lo : ℕ
  pub width : ℕ
  pub number : ℕ

abbrev pub link : (store lo width number : ℕ) → Link
link s lo width v = record { store = s; lo = lo; width = width; number = v }

-- the store tests among literals, the last first, before those that there are
unfoldable pub tests_on : List Link → List Literal → List Link
tests_on xs [] = xs
tests_on xs (wire lo width v ∷ ls) = tests_on xs ls
tests_on xs (wire_store lo width s ∷ ls) = tests_on (link s lo width 0 ∷ xs) ls
tests_on xs (wire_past lo width ∷ ls) = tests_on xs ls
tests_on xs (store s v ∷ ls) = tests_on (link s 0 0 v ∷ xs) ls

abbrev pub write_link : Write → Link
write_link (from_wire s lo width) = link s lo width 0
write_link (from_number s v) = link s 0 0 v

-- the writes, the last first
unfoldable pub writes_on : List Link → List Write → List Link
writes_on xs [] = xs
writes_on xs (w ∷ ws) = writes_on (write_link w ∷ xs) ws

-- a link's words: its store, field and the link behind it; its number
unfoldable pub LinkAt : List ℕ → (c i : ℕ) → Link → Type 0
LinkAt P c i x =
    (i + 1 < c) × (part0 (at P i) ≡ x.store) × (part1 (at P i) ≡ x.lo) × (part2 (at P i) ≡ x.width) × (at P (i + 1) ≡ x.number)
    × (part3 (at P i) < i)

-- the links from index i on
unfoldable pub Links : List ℕ → (c i : ℕ) → List Link → Type 0
Links P c i [] = i ≡ 0
Links P c i (x ∷ xs) = LinkAt P c i x × Links P c (part3 (at P i)) xs

-- ---- wires that must be as before

-- the mask that the word at an index has, or 0 for none
abbrev pub held_at : List ℕ → (i : ℕ) → ℕ
held_at P i = cond (eqb i 0) 0 (at P i)

-- it is that of the literals; S1: "which must be as in the word before"
pub record HeldIs (P : List ℕ) (c i : ℕ) (ls : List Literal) : Type 0 where
  pub low : i < c
  pub mask : held_at P i ≡ held ls

-- ---- expressions

-- the node at index k: its kind, and its operands' nodes, which stand before it
unfoldable pub Node : List ℕ → (c k kind : ℕ) → Type 0
Node P c k kind = (0 < k) × (k < c) × (part0 (at P k) ≡ kind)

-- a letter of these literals and writes
unfoldable pub LetterNode : List ℕ → (c k : ℕ) → List Literal → List Write → Type 0
LetterNode P c k ls ws =
    Node P c k 0 × (k + 2 < c) × (at P (k + 1) ≡ look ls) × (at P (k + 2) ≡ want ls)
    × Links P c (part1 (at P k)) (tests_on [] ls) × Links P c (part2 (at P k)) (writes_on [] ws)
    × HeldIs P c (part3 (at P k)) ls

-- the same come through productions: a node for each, with its number, above that of the letter (S14)
unfoldable pub CameNode : List ℕ → (c k : ℕ) → (through : List ℕ) → List Literal → List Write → Type 0
CameNode P c k [] ls ws = LetterNode P c k ls ws
CameNode P c k (p ∷ ps) ls ws = Node P c k 5 × (part1 (at P k) < k) × (part2 (at P k) ≡ p) × CameNode P c (part1 (at P k)) ps ls ws

-- whether a node of this kind is one of these
abbrev pub letter_kind : ℕ → Bool
letter_kind k = eqb k 0 || eqb k 5

unfoldable pub Denotes : List ℕ → (c k : ℕ) → Exp → Type 0
Denotes P c k (letter l) = CameNode P c k l.through l.literals l.writes
Denotes P c k (seq e f) =
    Node P c k 1 × (part1 (at P k) < k) × (part2 (at P k) < k) × Denotes P c (part1 (at P k)) e × Denotes P c (part2 (at P k)) f
Denotes P c k (alt e f) =
    Node P c k 2 × (part1 (at P k) < k) × (part2 (at P k) < k) × Denotes P c (part1 (at P k)) e × Denotes P c (part2 (at P k)) f
Denotes P c k (star e) = Node P c k 3 × (part1 (at P k) < k) × Denotes P c (part1 (at P k)) e
Denotes P c k (pipe e f) =
    Node P c k 4 × (part1 (at P k) < k) × (part2 (at P k) < k) × Denotes P c (part1 (at P k)) e × Denotes P c (part2 (at P k)) f

-- ---- what is known of an expression before it is opened

-- a letter's number, one more than it and counted up to 257, or 0 for none
abbrev pub coded : Option ℕ → ℕ
coded none = 0
coded (some n) = 1 + counted n

abbrev pub flag : Bool → ℕ
flag true = 1
flag false = 0

-- ---- names

pub record InputAt (P : List ℕ) (c h lo width : ℕ) : Type 0 where
  pub kind : part0 (at P h) ≡ 0
  pub used : h + 1 < c
  pub low : part0 (at P (h + 1)) ≡ lo
  pub wide : part1 (at P (h + 1)) ≡ width
  pub some : 1 ≤ width
  pub inside : lo + width ≤ 64

pub record StoreAt (P : List ℕ) (c h number width : ℕ) : Type 0 where
  pub kind : part0 (at P h) ≡ 1
  pub used : h + 1 < c
  pub own : part0 (at P (h + 1)) ≡ number
  pub wide : part1 (at P (h + 1)) ≡ width
  pub few : number < 16
  pub some : 1 ≤ width
  pub inside : width ≤ 64

-- Three store tests are as good as any more, since a letter may have two. N7: "three are no fault before a letter uses it".
pub record DefineAt (P : List ℕ) (c h : ℕ) (ls : List Literal) : Type 0 where
  pub kind : part0 (at P h) ≡ 2
  pub used : h + 3 < c
  pub agrees : part0 (at P (h + 1)) ≡ flag (agree ls)
  pub tests : part1 (at P (h + 1)) ≡ min 3 (store_tests ls)
  pub links : store_tests ls ≤ 2 → Links P c (part2 (at P (h + 1))) (tests_on [] ls)
  pub low : part2 (at P (h + 1)) < c
  pub looks : at P (h + 2) ≡ look ls
  pub wants : at P (h + 3) ≡ want ls
  pub helds : HeldIs P c (part3 (at P (h + 1))) ls
  pub sized : AllSized ls

pub record ProductionAt (P : List ℕ) (c h : ℕ) (e : Exp) : Type 0 where
  pub kind : part0 (at P h) ≡ 3
  pub used : h + 2 < c
  pub node : Denotes P c (part0 (at P (h + 1))) e
  pub letters : part0 (at P (h + 2)) ≡ counted (size e)
  pub null : part1 (at P (h + 2)) ≡ flag (nullable e)
  pub impossible : part2 (at P (h + 2)) ≡ coded (impossible_at e)
  pub hollow : part3 (at P (h + 2)) ≡ coded (hollow_at e)
  pub sized : SizedLetters e

unfoldable pub Means : List ℕ → (c h : ℕ) → Meaning → Type 0
Means P c h (an_input lo width) = InputAt P c h lo width
Means P c h (a_store n width) = StoreAt P c h n width
Means P c h (a_define ls) = DefineAt P c h ls
Means P c h (a_production e) = ProductionAt P c h e

-- a name's bytes in the text
pub record Spelled (text P : List ℕ) (h : ℕ) (s : List ℕ) : Type 0 where
  pub inside : part2 (at P h) + part3 (at P h) ≤ length text
  pub bytes : take (part3 (at P h)) (drop (part2 (at P h)) text) ≡ s

-- the names from the one at index h on, the last declared first
unfoldable pub Cells : (text P : List ℕ) → (c h : ℕ) → List (Entry Meaning) → Type 0
Cells text P c h [] = h ≡ 0
Cells text P c h (e ∷ es) =
    (0 < h) × (h < c) × Spelled text P h e.spelling × Means P c h e.meaning × (part1 (at P h) < h) × Cells text P c (part1 (at P h)) es

-- some names are declared there
abbrev pub Declared : (text P : List ℕ) → (h : ℕ) → Type 0
Declared text P h = (c : ℕ) × (es : List (Entry Meaning)) × (c ≤ length P) × Cells text P c h es

-- the cell of what a spelling stands for, or 0 for none
abbrev pub Found : (P : List ℕ) → (c r : ℕ) → Option Meaning → Type 0
Found P c r none = r ≡ 0
Found P c r (some m) = (0 < r) × (r < c) × Means P c r m

abbrev pub Finds : (text P : List ℕ) → (h : ℕ) → List ℕ → ℕ → Type 0
Finds text P h s r = (c : ℕ) → (es : List (Entry Meaning)) → Cells text P c h es → Found P c r (lookup s es)

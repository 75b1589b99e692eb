-- What has been declared while a text is read, as the code has it, and what the functions that read declarations promise (docs/REFERENCE.md,
-- G3 to G5, N1 to N3 and N6). Assumes nothing.
use Rattle.std.specs.Prelude.{Bool, true, false, List, map, ◌≡◌, ℕ, suc, ◌+◌, ◌-◌, ◌<◌, ◌≤◌, length, take, drop, Result}
use Rattle.std.proofs.Math.Option.{none}
use Rattle.lexer.specs.Bytes.{lookup}
use Rattle.lexer.specs.Signs.{left_bracket}
use Rattle.lexer.specs.Tokens as token
use Rattle.lexer.specs.Tokens.{Placed, token_at, rule_words}
use Rattle.meaning.specs.Answers.{refused, byte}
use Rattle.refusals.specs.Numbers.{oversize}
use Rattle.meaning.specs.Reading.{Expect, statement, to_zero, Step, go, fault, is, choose, unless, not_here, new_name, on_number, step}
use Rattle.meaning.specs.Names.{Limit, Names}
use Rattle.rules.specs.declared.declarations.Scope.{Scope}
use Rattle.rules.specs.declared.declarations.Declared.{Declared}
use Rattle.rules.specs.declared.tokens.Misread.{Misread}
use Rattle.rules.specs.Misreads.{fault_in, at_in, or_in}
use Rattle.words.specs.Words.{quad, part0, part1, part2, part3}
use Rattle.rules.specs.Cells.{at, Cells}
use Rattle.rules.specs.Reads.{read_from, Unless, Past, placed}
use Rattle.rules.specs.Conditions.{Extends, Room, Spent}

-- ---- what has been declared

-- a limit in one word
abbrev pub limit_word : Limit → ℕ
limit_word l = quad l.production l.most l.window 0

-- The names, by their cells among the words below c; the wires; the stores, whose first values are the first of S; and the limits, whose words are those of S from 16 on.
pub record Known (text P S : List ℕ) (c : ℕ) (scope : Scope) (ns : Names) : Type 0 where
  pub cells : Cells text P c scope.last ns.declared
  pub count : scope.count ≡ length ns.declared
  pub few : scope.count ≤ 128
  pub wires : scope.wires ≡ ns.wires
  pub word : scope.wires ≤ 64
  pub stores : scope.stores ≡ length ns.initial
  pub room : scope.stores ≤ 16
  pub values : take scope.stores S ≡ ns.initial
  pub limits : scope.limits ≡ length ns.limits
  pub few_limits : scope.limits ≤ 8
  pub bounds : take scope.limits (drop 16 S) ≡ map limit_word ns.limits
  pub low : scope.last < c

-- What a function is given: words with room, a text that is not overlong, a value for each of 16 stores and a word for each of 8 limits, and some names.
pub record Ready (text P S : List ℕ) (pos c : ℕ) (scope : Scope) : Type 0 where
  pub room : Room text P pos c
  pub short : length text ≤ 16384
  pub values : length S ≡ 24
  pub names : (ns : Names) × Known text P S c scope ns

-- what reading a declaration answers: of a refusal, what there was before stands as it was
pub record DeclaredTold : Type 0 where
  pub fault : ℕ
  pub at : ℕ
  pub free : ℕ
  pub scope : Scope

abbrev pub told_declared : (c : ℕ) → Scope → Result Declared Misread → DeclaredTold
told_declared c s r = record { fault = fault_in r; at = at_in (λ d. d.at) r; free = or_in (λ d. d.free) c r; scope = or_in (λ d. d.scope) s r }

-- A declaration is read from a state on, and a statement is expected.
pub record Added (text : List ℕ) (state : Expect) (P S : List ℕ) (pos c : ℕ) (scope : Scope) (r : DeclaredTold) (Q T : List ℕ) : Type 0 where
  pub extends : Extends P c Q r.free
  pub spent : Spent text pos c r.at r.free
  pub further : pos < r.at
  pub reads : (ns : Names) → Known text P S c scope ns
      → (ms : Names) × Known text Q T r.free r.scope ms × (read_from text pos ns state ≡ read_from text r.at ms statement)

abbrev pub Refuses : (text : List ℕ) → Expect → (P S : List ℕ) → (pos c : ℕ) → Scope → (f place : ℕ) → Type 0
Refuses text state P S pos c scope f place = (ns : Names) → Known text P S c scope ns → read_from text pos ns state ≡ refused f (byte place)

pub record Declares (text : List ℕ) (state : Expect) (P S : List ℕ) (pos c : ℕ) (scope : Scope) (r : DeclaredTold) (Q T : List ℕ) : Type 0 where
  pub words : length Q ≡ length P
  pub values : length T ≡ length S
  pub outcome : Unless r.fault (Added text state P S pos c scope r Q T) (Refuses text state P S pos c scope r.fault r.at)

-- ---- a new name

-- The token at a position is a name that is not declared (X5), and there is room for it (X6, X7).
pub record NewAt (text P : List ℕ) (scope : Scope) (pos : ℕ) (no_wire full : Bool) (place after : ℕ) : Type 0 where
  pub low : pos ≤ place
  pub some : place < after
  pub inside : after ≤ length text
  pub token : token_at rule_words text pos ≡ placed (token.name (take (after - place) (drop place text))) place after
  pub wire : no_wire ≡ false
  pub room : full ≡ false
  pub few : scope.count < 128
  pub leads : (c : ℕ) → (ns : Names) → Cells text P c scope.last ns.declared → scope.count ≡ length ns.declared
      → (lookup (take (after - place) (drop place text)) ns.declared ≡ none)
      × ((next : List ℕ → Step) → new_name ns (token_at rule_words text pos) no_wire full next ≡ next (take (after - place) (drop place text)))

unfoldable pub NameRead : (text P : List ℕ) → Scope → (pos : ℕ) → (no_wire full : Bool) → (f place after : ℕ) → Type 0
NameRead text P scope pos no_wire full f place after =
    Unless f
    (NewAt text P scope pos no_wire full place after)
    ((c : ℕ) → (ns : Names) → Cells text P c scope.last ns.declared → scope.count ≡ length ns.declared
    → (next : List ℕ → Step) → new_name ns (token_at rule_words text pos) no_wire full next ≡ fault f place)

-- the words of a name: its kind, the cell before it, its place and length, and two numbers
pub record NameWritten (P : List ℕ) (c kind last place size a b : ℕ) (Q : List ℕ) : Type 0 where
  pub extends : Extends P c Q (c + 2)
  pub of : part0 (at Q c) ≡ kind
  pub back : part1 (at Q c) ≡ last
  pub from : part2 (at Q c) ≡ place
  pub long : part3 (at Q c) ≡ size
  pub first : part0 (at Q (c + 1)) ≡ a
  pub second : part1 (at Q (c + 1)) ≡ b

-- ---- a width

-- In the state x either the sign k stands, for a width of 1, or `[h:0]` and then k, for a width of h + 1, which is at most `most`.
pub record Wide (ns : Names) (x : Expect) (k most : ℕ) (names : ℕ → Names) (then : ℕ → Expect) : Type 0 where
  pub high : Expect
  pub ending : ℕ → Expect
  pub wrong : ℕ → Bool
  pub begins : (t : Placed) → step ns x t ≡ choose (is k t) (go (names 1) (then 1)) (choose (is left_bracket t) (go ns high) (not_here t))
  pub numeric : (t : Placed) → step ns high t ≡ on_number t (λ h. unless (wrong h) oversize t (go ns (to_zero (ending (suc h)))))
  pub ends : (width : ℕ) → (t : Placed) → step ns (ending width) t ≡ choose (is k t) (go (names width) (then width)) (not_here t)
  pub large : (h : ℕ) → most ≤ h → wrong h ≡ true
  pub small : (h : ℕ) → h < most → wrong h ≡ false

-- the width, and reading on behind the sign
pub record WidthAt (text : List ℕ) (pos k most next width : ℕ) : Type 0 where
  pub past : Past text pos next
  pub some : 1 ≤ width
  pub few : width ≤ most
  pub leads : (ns : Names) → (x : Expect) → (names : ℕ → Names) → (then : ℕ → Expect) → Wide ns x k most names then
      → read_from text pos ns x ≡ read_from text next (names width) (then width)

unfoldable pub WidthRead : (text : List ℕ) → (pos k most f next width : ℕ) → Type 0
WidthRead text pos k most f next width =
    Unless f
    (WidthAt text pos k most next width)
    ((ns : Names) → (x : Expect) → (names : ℕ → Names) → (then : ℕ → Expect) → Wide ns x k most names then
    → read_from text pos ns x ≡ refused f (byte next))

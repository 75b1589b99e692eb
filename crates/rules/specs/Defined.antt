-- What the functions that read defines and productions promise (docs/REFERENCE.md, G6 and G7): a name and the sign behind it, what the name stands for, and
-- its cell. Assumes nothing.
use Rattle.std.specs.Prelude.{true, false, List, [], Result, ◌≡◌, ℕ, ◌+◌, ◌<◌, ◌≤◌, length, take, drop}
use Rattle.lexer.specs.Tokens.{token_at, rule_words}
use Rattle.meaning.specs.Answers.{refused, byte}
use Rattle.meaning.specs.Reading.{Expect, sign, closing, go, new_name, step, in_define, literal}
use Rattle.meaning.specs.Names.{Meaning, Names, Declaration, new_define}
use Rattle.meaning.specs.Expression.{Literal}
use Rattle.rules.specs.declared.literals.Condition.{Condition}
use Rattle.rules.specs.declared.literals.Literals.{Literals}
use Rattle.rules.specs.declared.tokens.Misread.{Misread}
use Rattle.rules.specs.Misreads.{fault_in, at_in, or_in}
use Rattle.rules.specs.declared.declarations.Scope.{Scope}
use Rattle.words.specs.Words.{part1, part2, part3}
use Rattle.rules.specs.Cells.{at, Means}
use Rattle.rules.specs.Reads.{read_from, Unless}
use Rattle.rules.specs.Conditions.{Extends, ConditionIs}
use Rattle.rules.specs.Scopes.{Known}
use Rattle.rules.specs.Tasks.{Task}

-- ---- a name, and the sign behind it

-- In the state x a new name is expected, and then the sign k.
abbrev pub Begins : List ℕ → (pos k : ℕ) → Names → Expect → (List ℕ → Expect) → Type 0
Begins text pos k ns x then = step ns x (token_at rule_words text pos) ≡ new_name ns (token_at rule_words text pos) false false (λ s. go ns (sign k (then s)))

pub record BegunAt (text P : List ℕ) (scope : Scope) (pos k next place size : ℕ) : Type 0 where
  pub low : pos ≤ place
  pub some : 1 ≤ size
  pub past : place + size < next
  pub inside : next ≤ length text
  pub few : scope.count < 128
  pub leads : (S : List ℕ) → (c : ℕ) → (ns : Names) → Known text P S c scope ns → (x : Expect) → (then : List ℕ → Expect) → Begins text pos k ns x then
      → read_from text pos ns x ≡ read_from text next ns (then (take size (drop place text)))

unfoldable pub BeginRead : (text P : List ℕ) → Scope → (pos k f next place size : ℕ) → Type 0
BeginRead text P scope pos k f next place size =
    Unless f
    (BegunAt text P scope pos k next place size)
    ((S : List ℕ) → (c : ℕ) → (ns : Names) → Known text P S c scope ns → (x : Expect) → (then : List ℕ → Expect) → Begins text pos k ns x then
    → read_from text pos ns x ≡ refused f (byte next))

-- ---- what the name stands for

-- Something of type T is read, in the state that the name leads to; then `;` is expected, with which the name is declared.
abbrev pub Defines : (text P : List ℕ) → (pos c h : ℕ) → (T : Type 0) → (After : T → Type 0) → (then : List ℕ → Expect) → (new : List ℕ → T → Declaration)
    → (f next free : ℕ) → List ℕ → Type 0
Defines text P pos c h T After then new f next free Q =
    Task text P pos c h (Unit {0}) T (List ℕ) (λ u. Unit {0}) After (λ s. Unit {0}) (λ ns s u. read_from text pos ns (then s)) (λ s t. closing (new s t)) f next free Q

abbrev pub no_condition : Condition
no_condition = record { look = 0; want = 0; agrees = true; tests = 0; link = 0; held = 0 }

-- the literals of a define
abbrev pub DefineRead : (text P : List ℕ) → (pos c h : ℕ) → Result Literals Misread → List ℕ → Type 0
DefineRead text P pos c h r Q =
    Defines text P pos c h (List Literal) (ConditionIs Q (or_in (λ l. l.free) c r) (or_in (λ l. l.condition) no_condition r)) (λ s. literal (in_define s) []) new_define
    (fault_in r) (at_in (λ l. l.at) r) (or_in (λ l. l.free) c r) Q

-- ---- the cell

-- the first word: the cell before it, and the name's place and length
pub record HeadAt (Q : List ℕ) (h last place size : ℕ) : Type 0 where
  pub back : part1 (at Q h) ≡ last
  pub from : part2 (at Q h) ≡ place
  pub long : part3 (at Q h) ≡ size

-- the m words from index h on of a name that stands for something of type T
pub record CellWritten (P : List ℕ) (c h m last place size : ℕ) (T : Type 0) (Before : T → Type 0) (mean : T → Meaning) (Q : List ℕ) : Type 0 where
  pub since : c ≤ h
  pub few : h + m ≤ c + 4
  pub extends : Extends P c Q (h + m)
  pub head : HeadAt Q h last place size
  pub means : (t : T) → Before t → Means Q (h + m) h (mean t)

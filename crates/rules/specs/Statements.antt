-- What the functions promise that read a text's statements (docs/REFERENCE.md, G2): its declarations, and then its monitors up to the end.
-- Assumes nothing.
use Rattle.std.specs.Prelude.{Result, MatchResult, List, [], map, ◌≡◌, ℕ, ◌≤◌, length, take, drop}
use Rattle.lexer.specs.Tokens.{tokens, rule_words}
use Rattle.meaning.specs.Expression.{Exp}
use Rattle.meaning.specs.Answers.{Answer, value, refused, byte}
use Rattle.meaning.specs.Reading.{Expect, statement, monitor_name, monitor_more, text_end, read_on}
use Rattle.meaning.specs.Names.{Names, no_names, Program, program_of}
use Rattle.refusals.specs.Refusals.{number_of}
use Rattle.rules.specs.declared.declarations.Declared.{Declared}
use Rattle.rules.specs.declared.statements.Reading.{Reading}
use Rattle.rules.specs.declared.tokens.Misread.{Misread}
use Rattle.rules.specs.Cells.{Cells}
use Rattle.rules.specs.Reads.{read_from, Unless, Past}
use Rattle.rules.specs.Conditions.{Room}
use Rattle.rules.specs.Monitors.{MonitorsAre}
use Rattle.rules.specs.Scopes.{limit_word, Known}

-- ---- monitors

-- a monitor more is listed, behind those that there are
pub record Lists (text P : List ℕ) (h pos : ℕ) (M : List ℕ) (n next : ℕ) (N : List ℕ) (m : ℕ) : Type 0 where
  pub past : Past text pos next
  pub reads : (c : ℕ) → (ns : Names) → Cells text P c h ns.declared → (ms : List Exp) → MonitorsAre P c M n ms
      → (vs : List Exp) × MonitorsAre P c N m vs × (read_from text pos ns (monitor_name ms) ≡ read_from text next ns (monitor_more vs))

unfoldable pub OneListed : (text P : List ℕ) → (h pos : ℕ) → (M : List ℕ) → (n f next : ℕ) → (N : List ℕ) → (m : ℕ) → Type 0
OneListed text P h pos M n f next N m =
    Unless f
    (Lists text P h pos M n next N m)
    ((c : ℕ) → (ns : Names) → Cells text P c h ns.declared → (ms : List Exp) → MonitorsAre P c M n ms
    → read_from text pos ns (monitor_name ms) ≡ refused f (byte next))

-- Behind `monitor`: so many monitors are listed, and reading comes to something that they say.
unfoldable pub Listing : (text P : List ℕ) → (h pos : ℕ) → (M : List ℕ) → (n : ℕ) → (to : Names → List Exp → Answer Program) → Type 0
Listing text P h pos M n to =
    (c : ℕ) → (ns : Names) → c ≤ length P → Cells text P c h ns.declared
    → (ms : List Exp) × MonitorsAre P c M n ms × (read_from text pos ns (monitor_name []) ≡ to ns ms)

unfoldable pub NotListed : (text P : List ℕ) → (h pos f place : ℕ) → Type 0
NotListed text P h pos f place =
    (c : ℕ) → (ns : Names) → c ≤ length P → Cells text P c h ns.declared → read_from text pos ns (monitor_name []) ≡ refused f (byte place)

-- all are listed, and the end is expected
unfoldable pub AllListed : (text P : List ℕ) → (h pos f next : ℕ) → (M : List ℕ) → (n : ℕ) → Type 0
AllListed text P h pos f next M n = Unless f (Listing text P h pos M n (λ ns ms. read_from text next ns (text_end ms))) (NotListed text P h pos f next)

-- the text has ended
unfoldable pub Monitored : (text P : List ℕ) → (h pos f next : ℕ) → (M : List ℕ) → (n : ℕ) → Type 0
Monitored text P h pos f next M n = Unless f (Listing text P h pos M n (λ ns ms. value (program_of ns ms))) (NotListed text P h pos f next)

-- ---- declarations

-- Declarations from the beginning of the text on: they are known, there is room for more, and reading comes to a state.
pub record Declaring (text P S : List ℕ) (d : Declared) (state : Expect) : Type 0 where
  pub room : Room text P d.at d.free
  pub names : Names
  pub known : Known text P S d.free d.scope names
  pub reads : read_from text 0 no_names statement ≡ read_from text d.at names state

-- all declarations, and what stands behind `monitor` is expected
pub record Stated (text P S : List ℕ) (r : Result Declared Misread) (Q T : List ℕ) : Type 0 where
  pub words : length Q ≡ length P
  pub values : length T ≡ length S
  pub outcome : MatchResult r (λ d. Declaring text Q T d (monitor_name [])) (λ e. read_from text 0 no_names statement ≡ refused (number_of e.why) (byte e.place))

-- ---- a text

-- what a text says, as the code has it
pub record Says (text : List ℕ) (free wires stores limits count : ℕ) (Q T M : List ℕ) : Type 0 where
  pub program : Program
  pub reads : read_on no_names statement (tokens rule_words text) ≡ value program
  pub monitors : MonitorsAre Q free M count program.monitors
  pub width : wires ≡ program.wires
  pub number : stores ≡ length program.initial
  pub values : take stores T ≡ program.initial
  pub word : wires ≤ 64
  pub few : stores ≤ 16
  pub limited : limits ≡ length program.limits
  pub bounds : take limits (drop 16 T) ≡ map limit_word program.limits
  pub few_limits : limits ≤ 8

unfoldable pub TextRead : (text : List ℕ) → Result Reading Misread → (Q T M : List ℕ) → Type 0
TextRead text r Q T M =
    MatchResult r (λ s. Says text s.free s.wires s.stores s.limits s.count Q T M)
    (λ e. read_on no_names statement (tokens rule_words text) ≡ refused (number_of e.why) (byte e.place))

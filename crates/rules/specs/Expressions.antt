-- What the reader of expressions promises (docs/REFERENCE.md, G14 to G20). Assumes nothing.
use Rattle.std.specs.Prelude.{Bool, true, false, List, ◌∷◌, ◌≡◌, ℕ, ◌+◌, ◌*◌, ◌<◌, ◌≤◌, length, Result, Ok, Err}
use Rattle.lexer.specs.Tokens.{token_at, rule_words}
use Rattle.meaning.specs.Expression.{Literal, Exp}
use Rattle.meaning.specs.Answers.{Answer, refused, byte}
use Rattle.meaning.specs.Reading.{Open, Level, new_level, whole, Expect, operand, operand_more, literal, literal_more, in_letter, step, is, on_level}
use Rattle.meaning.specs.Names.{Names, Program}
use Rattle.lexer.specs.declared.Token.{Token as Seen}
use Rattle.rules.specs.declared.literals.Condition.{Condition}
use Rattle.rules.specs.declared.tokens.Misread.{Misread}
use Rattle.rules.specs.declared.expression.Parsed.{Parsed}
use Rattle.refusals.specs.Refusals.{number_of}
use Rattle.rules.specs.Misreads.{fault_in, at_in, or_in}
use Rattle.rules.specs.Seen.{seen}
use Rattle.rules.specs.Cells.{Cells}
use Rattle.rules.specs.Reads.{read_from, Unless, Past}
use Rattle.rules.specs.Conditions.{Extends, Room, Spent, ConditionIs, From, behind}
use Rattle.rules.specs.declared.parts.Part.{Part}
use Rattle.rules.specs.declared.expression.Depth.{Depth}
use Rattle.rules.specs.declared.expression.Turn.{Turn}
use Rattle.rules.specs.declared.expression.Turn.TheVariants.{On, Done}
use Rattle.rules.specs.Parts.{PartIs, OptionIs, present}
use Rattle.rules.specs.Tasks.{Fails, Task}

-- what reading an expression answers: of a refusal, there is no part, and what there was before stands as it was
pub record ParsedTold : Type 0 where
  pub fault : ℕ
  pub at : ℕ
  pub free : ℕ
  pub part : Part

abbrev pub no_part : Part
no_part = record { node = 0; letters = 0; nullable = false; impossible = 0; hollow = 0 }

abbrev pub told_parsed : (c : ℕ) → Result Parsed Misread → ParsedTold
told_parsed c r = record { fault = fault_in r; at = at_in (λ p. p.at) r; free = or_in (λ p. p.free) c r; part = or_in (λ p. p.part) no_part r }

abbrev pub told_part : Parsed → ParsedTold
told_part p = record { fault = 0; at = p.at; free = p.free; part = p.part }

-- what follows an operand: a level that goes on, or its end
pub record TurnTold : Type 0 where
  pub more : Bool
  pub level : Depth
  pub parsed : ParsedTold

abbrev pub told_turn : (c : ℕ) → Depth → Result Turn Misread → TurnTold
told_turn c l (Ok (On f)) = record { more = true; level = f.level; parsed = record { fault = 0; at = f.at; free = f.free; part = no_part } }
told_turn c l (Ok (Done p)) = record { more = false; level = l; parsed = record { fault = 0; at = p.at; free = p.free; part = p.part } }
told_turn c l (Err e) = record { more = false; level = l; parsed = record { fault = number_of e.why; at = e.place; free = c; part = no_part } }

-- Words with room, and some names.
pub record Named (text P : List ℕ) (pos c h : ℕ) : Type 0 where
  pub room : Room text P pos c
  pub names : (ns : Names) × Cells text P c h ns.declared

-- the first literal of a letter, or of what may be one
abbrev pub by_first : List ℕ → Seen → From
by_first text t ns x ls = behind text t (step ns (literal x ls) (seen text t))

-- an operand that is no parenthesis: a letter, or the name of a production
abbrev pub by_simple : List ℕ → Seen → Names → Open → Unit {0} → Answer Program
by_simple text t ns o s = behind text t (step ns (operand o) (seen text t))

abbrev pub AnyOpen : Open → Type 0
AnyOpen o = Unit {0}

-- an operand is read
abbrev pub behind_one : Open → Exp → Expect
behind_one o e = operand_more o e false

abbrev pub Expresses : (text P : List ℕ) → (pos c h : ℕ) → (good : Open → Type 0) → (from : Names → Open → Unit {0} → Answer Program) → ParsedTold → List ℕ → Type 0
Expresses text P pos c h good from r Q =
    Task text P pos c h (Unit {0}) Exp Open (λ s. Unit {0}) (PartIs Q r.free r.part) good from behind_one r.fault r.at r.free Q

-- a letter some of whose literals are read, with room for its own three words
pub record LetterBegun (text P : List ℕ) (pos c h : ℕ) (q : Condition) : Type 0 where
  pub some : 1 ≤ c
  pub room : Room text P pos (c + 3)
  pub names : (ns : Names) × Cells text P c h ns.declared
  pub condition : (ls : List Literal) × ConditionIs P c q ls
  pub few : q.tests ≤ 2

-- a letter whose literals are read: no `&` follows, it has two store tests at most, and there is room for its own three words
pub record LetterGiven (text P : List ℕ) (pos c h : ℕ) (q : Condition) : Type 0 where
  pub some : 1 ≤ c
  pub room : Room text P pos (c + 3)
  pub names : (ns : Names) × Cells text P c h ns.declared
  pub condition : (ls : List Literal) × ConditionIs P c q ls
  pub few : q.tests ≤ 2
  pub last : is 4 (token_at rule_words text pos) ≡ false

abbrev pub behind_literals : List ℕ → ℕ → Names → Open → List Literal → Answer Program
behind_literals text pos ns o ls = read_from text pos ns (literal_more (in_letter o) ls)

-- the letter stands; its own three words are paid for already
pub record LetterEnded (text P : List ℕ) (pos c h : ℕ) (q : Condition) (r : ParsedTold) (Q : List ℕ) : Type 0 where
  pub extends : Extends P c Q r.free
  pub spent : Spent text pos (c + 3) r.at r.free
  pub reads : (ns : Names) → Cells text P c h ns.declared → (ls : List Literal) → ConditionIs P c q ls
      → (e : Exp) × PartIs Q r.free r.part e × ((o : Open) → behind_literals text pos ns o ls ≡ read_from text r.at ns (behind_one o e))

pub record EndsLetter (text P : List ℕ) (pos c h : ℕ) (q : Condition) (r : ParsedTold) (Q : List ℕ) : Type 0 where
  pub long : length Q ≡ length P
  pub outcome : Unless r.fault (LetterEnded text P pos c h q r Q)
      (Fails text P c h (List Literal) Open (ConditionIs P c q) AnyOpen (behind_literals text pos) r.fault r.at)

-- ---- operators

-- a level of parentheses, and how many nodes its parts have yet to get
pub record LevelIs (P : List ℕ) (c : ℕ) (l : Depth) (L : Level) : Type 0 where
  pub alts : OptionIs P c l.alts L.alts
  pub seqs : OptionIs P c l.seqs L.seqs
  pub left : OptionIs P c l.left L.left

abbrev pub pending : Depth → ℕ
pending l = present l.alts + present l.seqs + present l.left

-- a part that joins what stands before it: up to the `@`, up to the last `,`, or up to the last `||`
pub record Joined (P : List ℕ) (c : ℕ) (l : Depth) (p : Part) (nodes : ℕ) (by : Level → Exp → Exp) (Q : List ℕ) (d : ℕ) (r : Part) : Type 0 where
  pub extends : Extends P c Q d
  pub few : d ≤ c + nodes
  pub part : (L : Level) → (e : Exp) → LevelIs P c l L → PartIs P c p e → PartIs Q d r (by L e)

-- no operator follows
pub record Closes (text : List ℕ) (pos : ℕ) : Type 0 where
  pub pipe : is 2 (token_at rule_words text pos) ≡ false
  pub comma : is 1 (token_at rule_words text pos) ≡ false
  pub bars : is 15 (token_at rule_words text pos) ≡ false

-- the level that a turn comes to
pub record Goes (text P : List ℕ) (pos c : ℕ) (p : Part) (l : Depth) (r : TurnTold) (Q : List ℕ) : Type 0 where
  pub further : pos < r.parsed.at
  pub inside : r.parsed.at ≤ length text
  pub few : r.parsed.free + pending r.level + 3 * pos ≤ c + pending l + 3 * r.parsed.at
  pub reads : (L : Level) → LevelIs P c l L → (e : Exp) → PartIs P c p e → (b : Bool) → (b ≡ false → is 3 (token_at rule_words text pos) ≡ false)
      → (M : Level) × LevelIs Q r.parsed.free r.level M
      × ((ns : Names) → (o : Open) → read_from text pos ns (operand_more (on_level o L) e b) ≡ read_from text r.parsed.at ns (operand (on_level o M)))

-- the level ends: it is one part
pub record Ends (text P : List ℕ) (pos c : ℕ) (p : Part) (l : Depth) (r : ParsedTold) (Q : List ℕ) : Type 0 where
  pub here : r.at ≡ pos
  pub few : r.free ≤ c + pending l
  pub closes : Closes text pos
  pub reads : (L : Level) → LevelIs P c l L → (e : Exp) → PartIs P c p e → (b : Bool) → (b ≡ false → is 3 (token_at rule_words text pos) ≡ false)
      → PartIs Q r.free r.part (whole L e)
      × ((ns : Names) → (o : Open) → read_from text pos ns (operand_more (on_level o L) e b) ≡ read_from text pos ns (operand_more (on_level o new_level) (whole L e) true))

-- the token is refused
abbrev pub Stops : (text P : List ℕ) → (pos c : ℕ) → Part → Depth → (f place : ℕ) → Type 0
Stops text P pos c p l f place =
    (L : Level) → LevelIs P c l L → (e : Exp) → PartIs P c p e → (b : Bool) → (b ≡ false → is 3 (token_at rule_words text pos) ≡ false)
    → (ns : Names) → (o : Open) → read_from text pos ns (operand_more (on_level o L) e b) ≡ refused f (byte place)

pub data TurnIs (text P : List ℕ) (pos c : ℕ) (p : Part) (l : Depth) (r : TurnTold) (Q : List ℕ) : Type 0 where
  goes : r.more ≡ true → r.parsed.fault ≡ 0 → Goes text P pos c p l r Q → TurnIs text P pos c p l r Q
  ends : r.more ≡ false → r.parsed.fault ≡ 0 → Ends text P pos c p l r.parsed Q → TurnIs text P pos c p l r Q
  stops : r.more ≡ false → (r.parsed.fault ≡ 0 → ⊥) → Stops text P pos c p l r.parsed.fault r.parsed.at → TurnIs text P pos c p l r Q

pub record Turned (text P : List ℕ) (pos c : ℕ) (p : Part) (l : Depth) (r : TurnTold) (Q : List ℕ) : Type 0 where
  pub extends : (r.parsed.fault ≡ 0 → Extends P c Q r.parsed.free)
  pub long : length Q ≡ length P
  pub turn : TurnIs text P pos c p l r Q

-- what is given behind an operand (G16)
pub record Behind (text P : List ℕ) (pos c : ℕ) (l : Depth) (p : Part) : Type 0 where
  pub room : Room text P pos (c + pending l)
  pub level : (L : Level) × LevelIs P c l L
  pub part : (e : Exp) × PartIs P c p e

-- ---- a whole expression

-- where a whole expression stands: so many more levels may be opened (G20)
pub record Outer (levels : ℕ) (o : Open) : Type 0 where
  pub level : o.level ≡ new_level
  pub deep : length o.outer + levels ≡ 32

-- an operand that may be a parenthesis
pub record Within (levels : ℕ) (o : Open) : Type 0 where
  pub deep : length o.outer + levels ≡ 32

abbrev pub behind_whole : Open → Exp → Expect
behind_whole o e = operand_more o e true

-- What reading a whole expression promises: it ends before the token that closes it.
pub record Whole (text P : List ℕ) (pos c h levels : ℕ) (r : ParsedTold) (Q : List ℕ) : Type 0 where
  pub task : Task text P pos c h (Unit {0}) Exp Open (λ s. Unit {0}) (PartIs Q r.free r.part) (Outer levels) (λ ns o s. read_from text pos ns (operand o)) behind_whole
      r.fault r.at r.free Q
  pub closes : r.fault ≡ 0 → Closes text r.at
  pub further : r.fault ≡ 0 → pos < r.at

-- ---- the parts of that

-- what is given before `*`
pub record Starring (text P : List ℕ) (pos c : ℕ) (p : Part) : Type 0 where
  pub room : Room text P pos c
  pub part : (e : Exp) × PartIs P c p e

-- the operand has its `*`, or there is none (G18)
pub record Starred (text P : List ℕ) (pos c : ℕ) (p : Part) (r : Parsed) (Q : List ℕ) : Type 0 where
  pub extends : Extends P c Q r.free
  pub spent : Spent text pos c r.at r.free
  pub reads : (e : Exp) → PartIs P c p e
      → (f : Exp) × (starred : Bool) × PartIs Q r.free r.part f × (starred ≡ false → is 3 (token_at rule_words text r.at) ≡ false)
      × ((ns : Names) → (o : Open) → read_from text pos ns (operand_more o e false) ≡ read_from text r.at ns (operand_more o f starred))

-- `)` closes a parenthesis, behind which the level around it goes on
abbrev pub in_parens : (name : List ℕ) → Level → List Level → Open
in_parens n l ls = record { name = n; level = new_level; outer = l ∷ ls }

abbrev pub around : (name : List ℕ) → Level → List Level → Open
around n l ls = record { name = n; level = l; outer = ls }

pub record ClosesBy (text : List ℕ) (p r : ParsedTold) : Type 0 where
  pub part : r.part ≡ p.part
  pub free : r.free ≡ p.free
  pub past : Past text p.at r.at
  pub reads : (ns : Names) → (n : List ℕ) → (l : Level) → (ls : List Level) → (e : Exp)
      → read_from text p.at ns (operand_more (in_parens n l ls) e true) ≡ read_from text r.at ns (operand_more (around n l ls) e false)

abbrev pub Unclosed : List ℕ → (pos f place : ℕ) → Type 0
Unclosed text pos f place =
    (ns : Names) → (n : List ℕ) → (l : Level) → (ls : List Level) → (e : Exp) → read_from text pos ns (operand_more (in_parens n l ls) e true) ≡ refused f (byte place)

abbrev pub ClosedBy : List ℕ → ParsedTold → ParsedTold → Type 0
ClosedBy text p r = Closes text p.at → Unless r.fault (ClosesBy text p r) (Unclosed text p.at r.fault r.at)

-- What reading an operand promises.
pub record Operand (text P : List ℕ) (pos c h levels : ℕ) (r : ParsedTold) (Q : List ℕ) : Type 0 where
  pub task : Expresses text P pos c h (Within levels) (λ ns o s. read_from text pos ns (operand o)) r Q
  pub further : r.fault ≡ 0 → pos < r.at

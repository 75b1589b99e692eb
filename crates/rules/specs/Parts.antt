-- An expression that was read, as the code has it: its node among the words, and what the rules 8, 9 and 10 ask of it (docs/REFERENCE.md,
-- X9, S10 and S11). Assumes nothing.
use Rattle.std.specs.Prelude.{cond, List, ◌⊎◌, ◌≡◌, ℕ, ◌+◌, ◌<◌, ◌≤◌, eqb}
use Rattle.std.specs.Prelude as code
use Rattle.std.proofs.Math.Option.{Option, none, some}
use Rattle.meaning.specs.Expression.{Literal, Write, Exp, seq, alt, star, pipe, size, a_letter, store_tests, as_production}
use Rattle.meaning.specs.Shape.{nullable}
use Rattle.meaning.specs.ShapeTests.{SizedLetters}
use Rattle.meaning.specs.Summary.{counted, or_later, impossible_at, hollow_at}
use Rattle.meaning.specs.Reading.{join}
use Rattle.rules.specs.declared.literals.Condition.{Condition}
use Rattle.rules.specs.declared.parts.Part.{Part}
use Rattle.rules.specs.declared.parts.NodeKind.{NodeKind}
use Rattle.rules.specs.declared.parts.NodeKind.TheVariants.{Letter, Joined, Star, Named}
use Rattle.rules.specs.declared.parts.Operator.{Operator as TheOperator}
use Rattle.rules.specs.declared.parts.Operator.TheVariants.{Sequence, Choice, Pipe}
use Rattle.rules.specs.Cells.{coded, Denotes}
use Rattle.rules.specs.Conditions.{Extends, ConditionIs}
use Rattle.rules.specs.Tasks.{WritesAre}

-- ---- parts

-- what is known of an expression before it is opened
pub record Summed (p : Part) (e : Exp) : Type 0 where
  pub letters : p.letters ≡ counted (size e)
  pub null : p.nullable ≡ nullable e
  pub impossible : p.impossible ≡ coded (impossible_at e)
  pub hollow : p.hollow ≡ coded (hollow_at e)

pub record PartIs (P : List ℕ) (c : ℕ) (p : Part) (e : Exp) : Type 0 where
  pub denotes : Denotes P c p.node e
  pub letters : p.letters ≡ counted (size e)
  pub null : p.nullable ≡ nullable e
  pub impossible : p.impossible ≡ coded (impossible_at e)
  pub hollow : p.hollow ≡ coded (hollow_at e)
  pub sized : SizedLetters e
  pub positive : 0 < p.node
  pub low : p.node < c

-- a part, or none
unfoldable pub OptionIs : (P : List ℕ) → (c : ℕ) → code.Option Part → Option Exp → Type 0
OptionIs P c code.None none = Unit {0}
OptionIs P c code.None (some e) = ⊥
OptionIs P c (code.Some p) none = ⊥
OptionIs P c (code.Some p) (some e) = PartIs P c p e

-- how many parts that is, none or one: so many nodes it takes to join it to what follows
abbrev pub present : code.Option Part → ℕ
present code.None = 0
present (code.Some p) = 1

-- ---- what the functions promise

-- its numbers are no larger than they are counted
pub record Within (p : Part) : Type 0 where
  pub letters : p.letters ≤ 257
  pub impossible : p.impossible ≤ 258
  pub hollow : p.hollow ≤ 258

-- the letter at fault of two parts: the first part's, else the second's behind the first one's letters
abbrev pub Later : (first letters second r : ℕ) → Type 0
Later a n b r = (o : Option ℕ) → (k : ℕ) → (p : Option ℕ) → a ≡ coded o → n ≡ counted k → b ≡ coded p → r ≡ coded (or_later o k p)

-- the operator of a kind: 1 is `,`, 2 is `||` and 4 is `@`
abbrev pub op_of : ℕ → Exp → Exp → Exp
op_of kind = cond (eqb kind 1) seq (cond (eqb kind 2) alt pipe)

-- the number by which a node's first word names an operator, and what the node is
abbrev pub operator_number : TheOperator → ℕ
operator_number Sequence = 1
operator_number Choice = 2
operator_number Pipe = 4

abbrev pub node_number : NodeKind → ℕ
node_number Letter = 0
node_number (Joined operator) = operator_number operator
node_number Star = 3
node_number Named = 5

abbrev pub Operator : ℕ → Type 0
Operator kind = (kind ≡ 1) ⊎ ((kind ≡ 2) ⊎ (kind ≡ 4))

-- a summary of two parts with an operator between them
pub record SumOf (kind : ℕ) (left right : Part) (at : ℕ) (r : Part) : Type 0 where
  pub node : r.node ≡ at
  pub sums : (e f : Exp) → Summed left e → Summed right f → Summed r (op_of kind e f)

-- the words after a part was made, and the part: of what stands before an operator, if anything, and behind it
pub record JoinMade (P : List ℕ) (c kind : ℕ) (left : code.Option Part) (right : Part) (Q : List ℕ) (d : ℕ) (r : Part) : Type 0 where
  pub extends : Extends P c Q d
  pub few : d ≤ c + present left
  pub part : (o : Option Exp) → (e : Exp) → OptionIs P c left o → PartIs P c right e → PartIs Q d r (join (op_of kind) o e)

-- of a part with a star behind it
pub record StarMade (P : List ℕ) (c : ℕ) (p : Part) (Q : List ℕ) (d : ℕ) (r : Part) : Type 0 where
  pub extends : Extends P c Q d
  pub few : d ≡ c + 1
  pub part : (e : Exp) → PartIs P c p e → PartIs Q d r (star e)

-- of a part as the expression of a production with this number (S14): a single letter has a node more
pub record ProductionMade (P : List ℕ) (c number : ℕ) (p : Part) (Q : List ℕ) (d : ℕ) (r : Part) : Type 0 where
  pub extends : Extends P c Q d
  pub few : d ≤ c + 1
  pub part : (e : Exp) → PartIs P c p e → PartIs Q d r (as_production number e)

-- of a letter's condition and writes
pub record LetterMade (P : List ℕ) (c : ℕ) (q : Condition) (link : ℕ) (Q : List ℕ) (d : ℕ) (r : Part) : Type 0 where
  pub extends : Extends P c Q d
  pub few : d ≡ c + 3
  pub part : (ls : List Literal) → (ws : List Write) → (n : ℕ) → ConditionIs P c q ls → store_tests ls ≤ 2 → WritesAre P c n link ws → PartIs Q d r (a_letter ls ws)

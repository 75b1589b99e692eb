-- A name of a kind that is wanted, among those that are declared (docs/REFERENCE.md, X4). Assumes nothing.
use Rattle.std.specs.Prelude.{List, ◌≡◌, ℕ, ◌-◌, ◌<◌, take, drop}
use Rattle.std.proofs.Math.Option.{some}
use Rattle.lexer.specs.Bytes.{lookup}
use Rattle.lexer.specs.Tokens.{Placed}
use Rattle.meaning.specs.Expression.{Literal, Exp}
use Rattle.meaning.specs.Reading.{Step, fault, known, no_pair, no_literals, no_exp}
use Rattle.meaning.specs.Names.{Names, Meaning, an_input, a_store, a_define, a_production}
use Rattle.lexer.specs.declared.Token.{Token as Seen}
use Rattle.lexer.specs.declared.Kind.TheVariants as kinds
use Rattle.rules.specs.Seen.{seen}
use Rattle.rules.specs.Cells.{Means, Cells}
use Rattle.rules.specs.Reads.{Unless}

-- the number of a name's kind (N1)
abbrev pub kind_number : Meaning → ℕ
kind_number (an_input lo width) = 0
kind_number (a_store n width) = 1
kind_number (a_define ls) = 2
kind_number (a_production e) = 3

-- what names of other kinds lead to; X4: "a name of another kind, and one that is not declared, is refusal 4, unknown"
pub record Only (kind : ℕ) (t : Placed) (i s : ℕ → ℕ → Step) (d : List Literal → Step) (p : Exp → Step) : Type 0 where
  pub inputs : (kind ≡ 0 → ⊥) → i ≡ no_pair t
  pub stores : (kind ≡ 1 → ⊥) → s ≡ no_pair t
  pub defines : (kind ≡ 2 → ⊥) → d ≡ no_literals t
  pub productions : (kind ≡ 3 → ⊥) → p ≡ no_exp t

-- the bytes from a place up to another, and a token's
abbrev pub spelt : List ℕ → (place after : ℕ) → List ℕ
spelt text place after = take (after - place) (drop place text)

abbrev pub bytes_of : List ℕ → Seen → List ℕ
bytes_of text t = spelt text t.place t.after

-- the token is a name of the kind
pub record Picked (text P : List ℕ) (c : ℕ) (ns : Names) (t : Seen) (kind cell : ℕ) : Type 0 where
  pub name : t.kind ≡ kinds.Name
  pub meaning : Meaning
  pub found : lookup (bytes_of text t) ns.declared ≡ some meaning
  pub of : kind_number meaning ≡ kind
  pub positive : 0 < cell
  pub used : cell < c
  pub means : Means P c cell meaning

-- where such a name is wanted, the token is refused
abbrev pub Rejected : List ℕ → Names → Seen → (kind f : ℕ) → Type 0
Rejected text ns t kind f =
    (i s : ℕ → ℕ → Step) → (d : List Literal → Step) → (p : Exp → Step) → Only kind (seen text t) i s d p → known ns (seen text t) i s d p ≡ fault f t.place

unfoldable pub Picks : (text P : List ℕ) → (h : ℕ) → Seen → (kind f cell : ℕ) → Type 0
Picks text P h t kind f cell =
    (c : ℕ) → (ns : Names) → Cells text P c h ns.declared → Unless f (Picked text P c ns t kind cell) (Rejected text ns t kind f)

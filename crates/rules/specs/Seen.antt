-- A token (docs/REFERENCE.md, T) of a rule text, as the lexer answers with it, and what refuses it. Assumes nothing.
use Rattle.std.specs.Prelude.{List, ℕ, Bool, true, false, ◌≡◌}
use Rattle.lexer.specs.Tokens.{Placed, token_at, rule_words}
use Rattle.lexer.specs.Shown.{shown}
use Rattle.lexer.specs.declared.Token.{Token as Seen}
use Rattle.lexer.specs.declared.Kind.{Kind}
use Rattle.lexer.specs.declared.Kind.TheVariants as kind
use Rattle.refusals.specs.Numbers as refusal

-- X4: the number of the refusal of a token of this kind that is not allowed where it stands
abbrev pub fault_of : Kind → ℕ
fault_of kind.Name = refusal.misplaced
fault_of (kind.Word w) = refusal.misplaced
fault_of (kind.Number n) = refusal.misplaced
fault_of (kind.Sign g) = refusal.misplaced
fault_of kind.End = refusal.misplaced
fault_of kind.Knot = refusal.knot

-- it is a name
abbrev pub is_name : Kind → Bool
is_name kind.Name = true
is_name (kind.Word w) = false
is_name (kind.Number n) = false
is_name (kind.Sign g) = false
is_name kind.End = false
is_name kind.Knot = false

unfoldable pub seen : List ℕ → Seen → Placed
seen s t = shown s t

-- it is the token at a position
pub record Sees (text : List ℕ) (at : ℕ) (t : Seen) : Type 0 where
  pub token : seen text t ≡ token_at rule_words text at

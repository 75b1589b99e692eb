-- What holds of a step where it holds of all that the step can be: one law for each way in which a token is judged, for any property of steps. Assumes nothing.
use mathlib.Core.Path.{◌≡◌, refl}
use mathlib.Core.Bool.{Bool, true, false}
use mathlib.Core.List.{List}
use mathlib.Core.Option.{Option, none, some}
use Prim.Native.Nat.{ℕ}
use Rattle.lexer.specs.Tokens.{Placed}
use Rattle.meaning.specs.Expression.{Literal, Exp}
use Rattle.meaning.specs.Reading.{Step, choose, unless, at_token, by_kind}
use Rattle.meaning.specs.Names.{Meaning, an_input, a_store, a_define, a_production}

module _ (P : Step → Type 0) where
  pub of-choose : (t : Bool) (a b : Step) → (t ≡ true → P a) → (t ≡ false → P b) → P (choose t a b)
  unfolding choose
  of-choose true a b p q = p refl
  of-choose false a b p q = q refl

  -- by the kind of a name, with what it was found to mean
  pub of-kind : (m : Option Meaning) (i s : ℕ → ℕ → Step) (d : List Literal → Step) (p : Exp → Step) (other : Step)
      → ((a b : ℕ) → m ≡ some (an_input a b) → P (i a b)) → ((a b : ℕ) → m ≡ some (a_store a b) → P (s a b))
      → ((ls : List Literal) → m ≡ some (a_define ls) → P (d ls)) → ((e : Exp) → m ≡ some (a_production e) → P (p e)) → P other
      → P (by_kind m i s d p other)
  unfolding by_kind
  of-kind none i s d p other pi ps pd pp q = q
  of-kind (some (an_input a b)) i s d p other pi ps pd pp q = pi a b refl
  of-kind (some (a_store a b)) i s d p other pi ps pd pp q = ps a b refl
  of-kind (some (a_define ls)) i s d p other pi ps pd pp q = pd ls refl
  of-kind (some (a_production e)) i s d p other pi ps pd pp q = pp e refl

  -- the same for a token t whose own refusals have the property
  module _ (t : Placed) (own : (number : ℕ) → P (at_token number t)) where
    pub of-unless : (wrong : Bool) (number : ℕ) (next : Step) → (wrong ≡ false → P next) → P (unless wrong number t next)
    unfolding unless
    of-unless wrong number next p = of-choose wrong (at_token number t) next (λ e. own number) p

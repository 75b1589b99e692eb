-- What does not go by a name's bytes can be asked of a kind without them: for who takes a token apart and has no bytes at hand.
-- Assumes nothing.
use mathlib.Core.Path.{◌≡◌, refl}
use mathlib.Core.List.{List}
use Prim.Native.Nat.{ℕ}
use Rattle.lexer.specs.declared.Kind.{Kind}
use Rattle.lexer.specs.declared.Kind.TheVariants as kind
use Rattle.lexer.specs.Tokens.{Token, name}
use Rattle.lexer.specs.Shown.{kind_shown}

pub without-bytes : {A : Type 0} (f : Token → A) → ((x y : List ℕ) → f (name x) ≡ f (name y)) → (x y : List ℕ) (k : Kind)
    → f (kind_shown x k) ≡ f (kind_shown y k)
without-bytes f h x y kind.Name = h x y
without-bytes f h x y (kind.Word w) = refl
without-bytes f h x y (kind.Number n) = refl
without-bytes f h x y (kind.Sign n) = refl
without-bytes f h x y kind.End = refl
without-bytes f h x y kind.Knot = refl

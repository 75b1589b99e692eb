-- States in which a number is expected that may be too large. Assumes nothing.
use mathlib.Core.Path.{◌≡◌, refl, sym, ◌∙◌, ap}
use mathlib.Core.Bool.{Bool, true, false}
use mathlib.Core.List.{List}
use mathlib.Core.Logic.{⊎_elim}
use Prim.Native.Nat.{ℕ, ◌<◌, ◌≤◌}
use Rattle.lexer.specs.Tokens as token
use Rattle.lexer.specs.Tokens.{Placed, token_at, rule_words}
use Rattle.meaning.specs.Answers.{refused, byte}
use Rattle.refusals.specs.Numbers.{oversize}
use Rattle.meaning.specs.Reading.{Expect, Step, fault, choose, unless, at_token, if_number, on_number, step, and_then}
use Rattle.meaning.specs.Names.{Names}
use Rattle.meaning.proofs.Stops.{read-from}
use Rattle.rules.specs.Reads.{read_from, Past, placed, NumberRead}
use Rattle.rules.proofs.Stepping.{well, ill}

-- reading on by the token that stands at a position
pub on-token : (text : List ℕ) (at : ℕ) (t : Placed) → token_at rule_words text at ≡ t → (ns : Names) (x : Expect) (s : Step) → step ns x t ≡ s
    → read_from text at ns x ≡ and_then s (λ ms y. read_from text t.after ms y)
unfolding read_from
on-token text at t e ns x s q =
    read-from text at ns x ∙ ap (λ (u : Placed). and_then (step ns x u) (λ ms y. read_from text u.after ms y)) e
    ∙ ap (λ (z : Step). and_then z (λ ms y. read_from text t.after ms y)) q

-- what the state makes of a token: a number is wrong, or leads on
unfoldable pub Numeric : Names → Expect → (ℕ → Bool) → (ℕ → Step) → Type 0
Numeric ns x wrong next = (t : Placed) → step ns x t ≡ on_number t (λ n. unless (wrong n) oversize t (next n))

module _ (text : List ℕ) (at most f next place value : ℕ) (r : NumberRead text at most f next place value) where
  pub number_past : f ≡ 0 → Past text at next
  unfolding NumberRead
  number_past z = (well r z).0

  pub number-most : f ≡ 0 → value ≤ most
  unfolding NumberRead
  number-most z = (well r z).2

  -- it is refused
  pub number-refused : (f ≡ 0 → ⊥) → (ns : Names) (x : Expect) (wrong : ℕ → Bool) (then : ℕ → Step) → Numeric ns x wrong then → ((n : ℕ) → most < n → wrong n ≡ true)
      → read_from text at ns x ≡ refused f (byte next)
  unfolding NumberRead Numeric unless choose on_number if_number at_token
  number-refused n ns x wrong then num large =
      let (p, c) = ill r n in
      ⊎_elim
      (λ no. on-token text at _ refl ns x _ (num _ ∙ (no _).0) ∙ ap (λ (k : ℕ). refused f (byte k)) p)
      (λ (m, a, e, l, z).
      on-token text at _ e ns x _ (num _ ∙ ap (λ (b : Bool). choose b (fault 6 next) (then m)) (large m l)) ∙ ap (λ (k : ℕ). refused k (byte next)) (sym z)) c

  -- it leads on
  pub number-on : f ≡ 0 → (ns : Names) (x : Expect) (wrong : ℕ → Bool) (then : ℕ → Step) → Numeric ns x wrong then → wrong value ≡ false
      → read_from text at ns x ≡ and_then (then value) (λ ms y. read_from text next ms y)
  unfolding NumberRead Numeric unless choose on_number if_number
  number-on z ns x wrong then num small =
      on-token text at _ (well r z).1 ns x _ (num _ ∙ ap (λ (b : Bool). choose b (at_token oversize (placed (token.number value) place next)) (then value)) small)

-- What a text of the grammar has few of (docs/REFERENCE.md, N6 and G22): at most 32 monitors and 8 limits, each of a stretch that is longer than its number of ticks. Assumes nothing.
use mathlib.Core.Path.{◌≡◌, sym, subst}
use mathlib.Core.Logic.{⊎_elim}
use mathlib.Core.List.{List, [], ◌∷◌, ◌++◌}
use Prim.Native.Nat.{ℕ, ◌≤◌, ◌<◌}
use native.Mathlib.Omega.{arith}
use lib.ListN.{length, length-append}
use Rattle.lexer.specs.Tokens.{Token}
use Rattle.meaning.specs.Lists.{◌∈◌}
use Rattle.meaning.specs.Answers.{value}
use Rattle.meaning.specs.Names.{Limit, Names, Declaration, declare, Program}
use Rattle.meaning.specs.Grammar.{IsDeclaration, declares_input, declares_store, declares_define, declares_production, a_limit, IsText, declares, monitors}
use Rattle.meaning.specs.Reading.{read}
use Rattle.meaning.proofs.ListLaws.{no-∈, append-∈, one-∈}
use Rattle.meaning.proofs.GrammarExact.{reads-exactly}

pub record Proper (l : Limit) : Type 0 where
  pub some : 1 ≤ l.window
  pub short : l.window ≤ 1024
  pub below : l.most < l.window

pub record Few (ls : List Limit) : Type 0 where
  pub count : length ls ≤ 8
  pub each : (l : Limit) → l ∈ ls → Proper l

-- a limit more
more : (ls : List Limit) (k : Limit) → length ls < 8 → Proper k → Few ls → Few (ls ++ k ∷ [])
more ls k h g f =
    record {
      count = omega (arith, length-append ls (k ∷ []));
      each = λ l i. ⊎_elim (f.each l) (λ j. subst Proper (sym (one-∈ j)) g) (append-∈ ls i);
    }

declared : {ns : Names} {ts us : List Token} {d : Declaration} → IsDeclaration ns ts us d → Few ns.limits → Few (declare d ns).limits
unfolding declare
declared (declares_input free wide fits) f = f
declared (declares_store free few wide fits) f = f
declared (declares_define free ls) f = f
declared (declares_production free e) f = f
declared {ns} (a_limit few stands single low above most) f =
    more ns.limits _ few (record { some = omega (arith, above); short = most; below = above }) f

bounded : {ns : Names} {ts : List Token} {p : Program} → IsText ns ts p → Few ns.limits → (length p.monitors ≤ 32) × Few p.limits
bounded (declares d t) f = bounded t (declared d f)
bounded (monitors ms few) f = (few, f)

-- a text that is read to its end has few of both
module _ (text : List ℕ) (p : Program) (e : read text ≡ value p) where
  both : (length p.monitors ≤ 32) × Few p.limits
  both = bounded ((reads-exactly text p).0 e).1 (record { count = omega arith; each = λ l i. absurd (no-∈ i) })

  pub few_monitors : length p.monitors ≤ 32
  few_monitors = both.0

  pub few_limits : Few p.limits
  few_limits = both.1

-- Where the functions begin that read writes (docs/REFERENCE.md, G15) and have a token already. Assumes nothing.
use Rattle.std.specs.Prelude.{not, List, [], ◌∷◌, ◌++◌, ℕ, eqb}
use Rattle.meaning.specs.Expression.{Write, from_wire}
use Rattle.meaning.specs.Answers.{Answer}
use Rattle.refusals.specs.Numbers.{oversize}
use Rattle.meaning.specs.Reading.{go, sign, known, unless, no_pair, no_literals, no_exp, write_more, written_store}
use Rattle.meaning.specs.Names.{Names, Program}
use Rattle.lexer.specs.declared.Token.{Token as Seen}
use Rattle.rules.specs.Seen.{seen}
use Rattle.rules.specs.Conditions.{behind}
use Rattle.rules.specs.Tasks.{Letter}

-- the token is what is written to a store of this width
abbrev pub by_wire : List ℕ → Seen → (store width : ℕ) → Names → Letter → List Write → Answer Program
by_wire text t s width ns x ws =
    behind text t
    (known ns (seen text t)
    (λ lo w. unless (not (eqb w width)) oversize (seen text t) (go ns (sign 0 (write_more x.within x.literals (ws ++ (from_wire s lo w ∷ []))))))
    (no_pair (seen text t)) (no_literals (seen text t)) (no_exp (seen text t)))

-- the token is the written store
abbrev pub by_written : List ℕ → Seen → Names → Letter → List Write → Answer Program
by_written text t ns x ws = behind text t (written_store ns x.within x.literals ws (seen text t))

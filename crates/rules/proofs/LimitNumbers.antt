-- The productions that a text's limits count have small numbers (docs/REFERENCE.md, N6 and N8), so that a limit's word tells them. Assumes nothing.
use mathlib.Core.Path.{◌≡◌, refl, sym, subst}
use mathlib.Core.Bool.{Bool, true, false}
use mathlib.Core.List.{List, [], ◌∷◌, map}
use mathlib.Core.Logic.{⊎_elim}
use mathlib.Core.Option.{Option, some}
use Prim.Native.Nat.{ℕ, ◌<◌}
use native.Mathlib.Omega.{arith}
use lib.ListN.{length}
use Rattle.lexer.specs.Bytes.{lookup, same}
use Rattle.lexer.specs.Tokens.{Token}
use Rattle.meaning.specs.Lists.{◌∈◌}
use Rattle.meaning.specs.Answers.{value}
use Rattle.meaning.specs.Expression.{Letter, Exp, letter, seq, alt, star, pipe, as_production, newest, single}
use Rattle.meaning.specs.Names.{Meaning, a_production, Limit, Names, with_name, Declaration, declare, Program}
use Rattle.meaning.specs.Grammar
use Rattle.meaning.specs.Grammar.{Stands, IsLetter, IsAtom, IsStarred, IsPiped, IsSequence, IsAlternative, IsDeclaration, IsText}
use Rattle.meaning.specs.Reading.{read}
use Rattle.meaning.proofs.ListLaws.{clash, here, there, cons-∈, no-∈, append-∈, one-∈}
use Rattle.meaning.proofs.GrammarExact.{reads-exactly}
use Rattle.words.specs.Words.{part0}
use Rattle.words.proofs.Quads.{quad-0}
use Rattle.rules.specs.Scopes.{limit_word}
use Rattle.rules.specs.Counted.{word_mask}
use Rattle.rules.specs.Watches.{limit_mask}

-- the productions that a single letter came through
abbrev Low : Exp → Type 0
Low (letter l) = (k : ℕ) → k ∈ l.through → k < 128
Low (seq e f) = Unit {0}
Low (alt e f) = Unit {0}
Low (star e) = Unit {0}
Low (pipe e f) = Unit {0}

record Small (ns : Names) : Type 0 where
  names : (s : List ℕ) (e : Exp) → Stands ns s (a_production e) → Low e
  limits : (l : Limit) → l ∈ ns.limits → l.production < 128

-- ---- what is read

module _ {ns : Names} (small : Small ns) where
  low-letter : {ts us : List Token} {e : Exp} → IsLetter ns ts us e → Low e
  low-letter (Grammar.no_writes ls few) = λ k i. absurd (no-∈ i)
  low-letter (Grammar.with_writes ls few ws most) = λ k i. absurd (no-∈ i)

  mutual
    low-atom : {n : ℕ} {ts us : List Token} {e : Exp} → IsAtom ns n ts us e → Low e
    low-atom (Grammar.of_letter l) = low-letter l
    low-atom (Grammar.copied {s} {e} h) = small.names s e h
    low-atom (Grammar.parens x) = low-alternative x

    low-starred : {n : ℕ} {ts us : List Token} {e : Exp} → IsStarred ns n ts us e → Low e
    low-starred (Grammar.unstarred x) = low-atom x
    low-starred (Grammar.starred x) = tt

    low-piped : {n : ℕ} {ts us : List Token} {e : Exp} → IsPiped ns n ts us e → Low e
    low-piped (Grammar.unpiped x) = low-starred x
    low-piped (Grammar.piped x y) = tt

    low-sequence : {n : ℕ} {ts us : List Token} {e : Exp} → IsSequence ns n ts us e → Low e
    low-sequence (Grammar.one-term x) = low-piped x
    low-sequence (Grammar.followed x y) = tt

    low-alternative : {n : ℕ} {ts us : List Token} {e : Exp} → IsAlternative ns n ts us e → Low e
    low-alternative (Grammar.one_way x) = low-sequence x
    low-alternative (Grammar.either x y) = tt

low-production : (k : ℕ) (e : Exp) → k < 128 → Low e → Low (as_production k e)
unfolding as_production
low-production k (letter l) h g = λ j i. ⊎_elim (λ (q : j ≡ k). omega arith) (λ m. g j m) (cons-∈ i)
low-production k (seq e f) h g = tt
low-production k (alt e f) h g = tt
low-production k (star e) h g = tt
low-production k (pipe e f) h g = tt

-- the production that a limit counts is one of them
low-single : (e : Exp) (p : ℕ) → Low e → single e ≡ some p → p < 128
unfolding single
low-single (letter l) p g q = by l.through g q
  where
    by : (ks : List ℕ) → ((k : ℕ) → k ∈ ks → k < 128) → newest ks ≡ some p → p < 128
    by [] g q = clash (cc)
    by (k ∷ ks) g q = let r : k ≡ p = cc in g p (here (sym r))
low-single (seq e f) p g q = clash (cc)
low-single (alt e f) p g q = clash (cc)
low-single (star e) p g q = clash (cc)
low-single (pipe e f) p g q = clash (cc)

-- ---- declarations

-- a name more, which is no production or one of small numbers
module _ (ns : Names) (g : Small ns) (t : List ℕ) (m : Meaning) (is : (e : Exp) → m ≡ a_production e → Low e) where
  with-name : (s : List ℕ) (e : Exp) → lookup s (with_name t m ns.declared) ≡ some (a_production e) → Low e
  unfolding lookup
  with-name s e q = by (same s t) q
    where
      by : (b : Bool) → (elim b as (λ b. Option Meaning) [ true ↦ some m | false ↦ lookup s ns.declared ]) ≡ some (a_production e) → Low e
      by true q = is e (cc)
      by false q = g.names s e q

declared : {ns : Names} {ts us : List Token} {d : Declaration} → IsDeclaration ns ts us d → Small ns → Small (declare d ns)
unfolding declare
declared {ns} (Grammar.declares_input free wide fits) g = record { names = with-name ns g _ _ (λ e q. clash (cc)); limits = g.limits }
declared {ns} (Grammar.declares_store free few wide fits) g = record { names = with-name ns g _ _ (λ e q. clash (cc)); limits = g.limits }
declared {ns} (Grammar.declares_define free ls) g = record { names = with-name ns g _ _ (λ e q. clash (cc)); limits = g.limits }
declared {ns} (Grammar.declares_production {e = e} free x) g =
    record {
      names = with-name ns g _ _ (λ f q.
          let r : as_production (length ns.declared) e ≡ f = cc in
          subst Low r (low-production (length ns.declared) e free.1 (low-alternative g x)));
      limits = g.limits;
    }
declared {ns} (Grammar.a_limit {s} {e} {p} few stands is low above most) g =
    record {
      names = g.names;
      limits = λ l i. ⊎_elim (g.limits l) (λ j. subst (λ k. k.production < 128) (sym (one-∈ j)) (low-single e p (g.names s e stands) is)) (append-∈ ns.limits i);
    }

low-limits : {ns : Names} {ts : List Token} {p : Program} → IsText ns ts p → Small ns → (l : Limit) → l ∈ p.limits → l.production < 128
low-limits (Grammar.declares d t) g = low-limits t (declared d g)
low-limits (Grammar.monitors ms few) g = g.limits

pub small-limits : (text : List ℕ) (p : Program) → read text ≡ value p → (l : Limit) → l ∈ p.limits → l.production < 128
unfolding lookup
small-limits text p e = low-limits ((reads-exactly text p).0 e).1 (record { names = λ s e q. clash (cc); limits = λ l i. absurd (no-∈ i) })

-- ---- so their words tell which of them count a letter

pub mask-by-words : (ls : List Limit) → ((l : Limit) → l ∈ ls → l.production < 128) → (x : Letter) → word_mask (map limit_word ls) x.through ≡ limit_mask ls x
unfolding word_mask limit_mask
mask-by-words [] h x = refl
mask-by-words (l ∷ ls) h x =
    let p : part0 (limit_word l) ≡ l.production = quad-0 l.production l.most l.window 0 (omega (arith, h l (here refl))) in
    rw (p, mask-by-words ls (λ k i. h k (there i)) x)

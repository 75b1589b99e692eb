-- What is known of the letters and first store values of an accepted text. Assumes nothing.
use mathlib.Core.Path.{◌≡◌, refl, sym, subst}
use mathlib.Core.Bool.{Bool, true, false, not}
use mathlib.Core.List.{List, [], ◌∷◌, map}
use Prim.Native.Nat.{ℕ, ◌^◌, ◌≤◌, ◌<◌}
use lib.Dec.{T}
use lib.ListN.{length}
use Rattle.meaning.specs.Lists.{◌∈◌, only}
use Rattle.meaning.specs.Answers.{value}
use Rattle.meaning.specs.Expression.{Letter, Exp, letters, renumbered}
use Rattle.meaning.specs.ShapeTests.{AllSized, agree, unsatisfiable}
use Rattle.meaning.specs.Opening.{Opened, as_opened, open_text}
use Rattle.meaning.proofs.ListLaws.{here, ∈-each, ∈-only, none_in}
use Rattle.meaning.proofs.Accept.{all-passed}
use Rattle.meaning.proofs.Within.{Each, LetterWithin, read-within}
use Rattle.meaning.proofs.Openings.{Accepted, accepted-text, letter-within, letters-sized}

-- a letter that reading and the rules let through, where there are so many stores
pub record Readable (x : Letter) (stores : ℕ) : Type 0 where
  pub wires : ℕ
  pub few_wires : wires ≤ 64
  pub few_stores : stores ≤ 16
  pub within : LetterWithin wires stores x.literals x.writes
  pub sized : AllSized x.literals
  pub agreed : T (agree x.literals)

-- store values that fit a word each
abbrev pub Small : List ℕ → Type 0
Small σ = Each (λ v. v < 2 ^ 64) σ

else-true : (b : Bool) → (T (not b) → ⊥) → T b
else-true true h = tt
else-true false h = h tt

-- rule 9
agreeing : (m : Exp) → unsatisfiable m ≡ [] → (x : Letter) → x ∈ letters m → T (agree x.literals)
unfolding unsatisfiable
agreeing m e x j =
    else-true (agree x.literals) (λ t. none_in e (∈-each (λ l. only (not (agree l.literals)) (l.number ∷ [])) j (∈-only (not (agree x.literals)) t (here refl))))

module _ (text : List ℕ) (o : Opened) (e : open_text text ≡ value o) where
  pub accepted-readable : (m : Exp) → m ∈ o.monitors → (x : Letter) → x ∈ letters m → Readable x (length o.initial)
  unfolding as_opened
  accepted-readable m i x j =
      let a : Accepted text o = accepted-text text o e in
      let k : m ∈ map (renumbered 0) a.program.monitors = subst (λ z. m ∈ z.monitors) (sym a.opens) i in
      let p = read-within text a.program a.reads in
      subst (λ z. Readable x (length z.initial)) a.opens (record {
        wires = a.program.wires;
        few_wires = p.wires;
        few_stores = p.stores;
        within = letter-within text a.program a.reads m k x j;
        sized = letters-sized text a.program a.reads m k x j;
        agreed = agreeing m (all-passed m (a.shaped m i)).0 x j;
      })

  pub accepted-initial : (length o.initial ≤ 16) × Small o.initial
  unfolding as_opened
  accepted-initial =
      let a : Accepted text o = accepted-text text o e in
      let p = read-within text a.program a.reads in
      subst (λ z. (length z.initial ≤ 16) × Small z.initial) a.opens (p.stores, p.values)

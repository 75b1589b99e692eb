-- Joining an operand to what stands before it. Assumes nothing.
use mathlib.Core.Path.{◌≡◌, subst}
use mathlib.Core.List.{List}
use mathlib.Core.Option.{Option}
use Rattle.std.specs.Prelude as code
use Prim.Native.Nat.{ℕ, ◌+◌}
use native.Mathlib.Omega.{arith}
use Rattle.meaning.specs.Expression.{Exp}
use Rattle.meaning.specs.Reading.{Level, join, piped}
use Rattle.rules.specs.declared.parts.Part.{Part}
use Rattle.rules.specs.declared.expression.Depth.{Depth}
use Rattle.rules.specs.Conditions.{Extends}
use Rattle.rules.specs.Parts.{PartIs, OptionIs, present, op_of, JoinMade}
use Rattle.rules.specs.Expressions.{LevelIs, Joined}
use Rattle.rules.proofs.Put.{extends-then}
use Rattle.rules.proofs.PartLaws.{option-kept}

pub level-kept : (P : List ℕ) (c : ℕ) (Q : List ℕ) (d : ℕ) → Extends P c Q d → (l : Depth) (L : Level) → LevelIs P c l L → LevelIs Q d l L
level-kept P c Q d x l L k =
    record { alts = option-kept P c Q d x l.alts L.alts k.alts; seqs = option-kept P c Q d x l.seqs L.seqs k.seqs; left = option-kept P c Q d x l.left L.left k.left }

module _ (P : List ℕ) (c : ℕ) (l : Depth) (p : Part) where
  pub joined-left : (Q : List ℕ) (d : ℕ) (r : Part) → JoinMade P c 4 l.left p Q d r → Joined P c l p (present l.left) piped Q d r
  joined-left Q d r j = record { extends = j.extends; few = j.few; part = λ L e k m. j.part L.left e k.left m }

  -- what is joined so far is joined to a part before it
  pub joined-more : (n m : ℕ) (by on : Level → Exp → Exp) (Q : List ℕ) (d : ℕ) (r : Part) → Joined P c l p n by Q d r
      → (kind : ℕ) (b : code.Option Part) (o : Level → Option Exp) → ((R : List ℕ) (e : ℕ) (L : Level) → LevelIs R e l L → OptionIs R e b (o L)) → ((L : Level) (e : Exp) → join (op_of kind) (o L) (by L e) ≡ on L e)
      → (R : List ℕ) (g : ℕ) (s : Part) → JoinMade Q d kind b r R g s → m ≡ present b + n → Joined P c l p m on R g s
  joined-more n m by on Q d r j kind b o opt same R g s k e =
      record {
        extends = extends-then j.extends k.extends;
        few = omega (arith, j.few, k.few);
        part = λ L x a y. subst (PartIs R g s) (same L x) (k.part (o L) (by L x) (opt Q d L (level-kept P c Q d j.extends l L a)) (j.part L x a y));
      }

  -- what the next join is given
  pub join-given : (n : ℕ) (by : Level → Exp → Exp) (Q : List ℕ) (d : ℕ) (r : Part) → Joined P c l p n by Q d r → ((L : Level) × LevelIs P c l L) → ((e : Exp) × PartIs P c p e)
      → ((L : Level) × LevelIs Q d l L) × ((e : Exp) × PartIs Q d r e)
  join-given n by Q d r j (L, k) (e, m) = ((L, level-kept P c Q d j.extends l L k), (by L e, j.part L e k m))

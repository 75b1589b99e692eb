-- The parts of an expression among the words: they stay as they are, and each way of making one. Assumes nothing.
use mathlib.Core.Path.{◌≡◌, refl, sym, ◌∙◌, ap, subst}
use mathlib.Core.Bool.{Bool, true, false, cond, false≢true}
use mir.Val.{bool_byte}
use Rattle.std.specs.Option.{is_some}
use Rattle.std.specs.Prelude as code
use mathlib.Core.List.{List, [], ◌∷◌}
use mathlib.Core.Logic.{⊎_elim}
use mathlib.Core.Option.{Option, none, some}
use Prim.Native.Nat.{ℕ, ◌+◌, ◌<◌, ◌≤◌}
use native.Mathlib.Omega.{arith}
use lib.Dec.{eqb}
use lib.ListN.{length, set, length-set}
use Rattle.meaning.specs.Expression.{Literal, Write, Exp, letter, seq, alt, star, pipe, letters, size, a_letter, as_production}
use Rattle.meaning.specs.Shape.{nullable}
use Rattle.meaning.specs.ShapeTests.{AllSized, SizedLetters}
use Rattle.masks.specs.Masks.{look, want}
use Rattle.meaning.specs.Summary.{impossible_at, hollow_at}
use Rattle.meaning.specs.Reading.{join}
use Rattle.meaning.proofs.ListLaws.{clash, here, append-∈, one-∈}
use Rattle.rules.specs.declared.literals.Condition.{Condition}
use Rattle.rules.specs.declared.parts.Part.{Part}
use Rattle.words.specs.Words.{quad, part0, part1, part2, part3}
use Rattle.rules.specs.Cells.{at, Links, tests_on, writes_on, Node, LetterNode, CameNode, letter_kind, Denotes, coded, flag, ProductionAt, HeldIs}
use Rattle.rules.specs.Conditions.{Extends}
use Rattle.rules.specs.Parts.{present, Summed, PartIs, OptionIs, Within, op_of, Operator, SumOf, JoinMade, StarMade, ProductionMade, LetterMade}
use Rattle.words.proofs.Quads.{quad-0, quad-1, quad-2, quad-3}
use Rattle.rules.proofs.Put.{extends-refl, extends-then, put-extends, put-at, put_both, put_first, put_second}
use Rattle.rules.proofs.Kept.{links-kept, denotes-kept, held_kept}
use Rattle.rules.proofs.Summing.{coded-most, by-kind}

-- ---- what a part is

pub summed : {P : List ℕ} {c : ℕ} {p : Part} {e : Exp} → PartIs P c p e → Summed p e
summed x = record { letters = x.letters; null = x.null; impossible = x.impossible; hollow = x.hollow }

pub within : {P : List ℕ} {c : ℕ} {p : Part} {e : Exp} → PartIs P c p e → Within p
within {e = e} x = record {
  letters = omega (arith, x.letters);
  impossible = omega (arith, x.impossible, coded-most (impossible_at e));
  hollow = omega (arith, x.hollow, coded-most (hollow_at e));
}

-- a part that is not none
pub option-some : (P : List ℕ) (c : ℕ) (p : Part) → (o : Option Exp) × OptionIs P c (code.Some p) o → (e : Exp) × PartIs P c p e
unfolding OptionIs
option-some P c p (none, z) = absurd z
option-some P c p (some e, x) = (e, x)

pub came-node : (P : List ℕ) (c k : ℕ) (ps : List ℕ) (ls : List Literal) (ws : List Write) → CameNode P c k ps ls ws → (0 < k) × (k < c) × (letter_kind (part0 (at P k)) ≡ true)
unfolding CameNode LetterNode Node
came-node P c k [] ls ws d = (d.0.0, d.0.1, ap letter_kind d.0.2)
came-node P c k (p ∷ ps) ls ws d = (d.0.0, d.0.1, ap letter_kind d.0.2)

pub node_of : (P : List ℕ) (c k : ℕ) (e : Exp) → Denotes P c k e → (0 < k) × (k < c)
unfolding Denotes Node
node_of P c k (letter l) d = let (n, m, x) = came-node P c k _ _ _ d in (n, m)
node_of P c k (seq e f) d = (d.0.0, d.0.1)
node_of P c k (alt e f) d = (d.0.0, d.0.1)
node_of P c k (star e) d = (d.0.0, d.0.1)
node_of P c k (pipe e f) d = (d.0.0, d.0.1)

-- a letter's kind tells it from other expressions
abbrev pub is_letter : Exp → Bool
is_letter (letter l) = true
is_letter (seq e f) = false
is_letter (alt e f) = false
is_letter (star e) = false
is_letter (pipe e f) = false

pub kind-letter : (P : List ℕ) (c k : ℕ) (e : Exp) → Denotes P c k e → letter_kind (part0 (at P k)) ≡ is_letter e
unfolding Denotes Node
kind-letter P c k (letter l) d = let (n, m, x) = came-node P c k _ _ _ d in x
kind-letter P c k (seq e f) d = ap letter_kind d.0.2
kind-letter P c k (alt e f) d = ap letter_kind d.0.2
kind-letter P c k (star e) d = ap letter_kind d.0.2
kind-letter P c k (pipe e f) d = ap letter_kind d.0.2

-- a part from its node and its summary
part_of : (P : List ℕ) (c : ℕ) (p : Part) (e : Exp) → Denotes P c p.node e → Summed p e → SizedLetters e → PartIs P c p e
part_of P c p e d s z =
    let (n, l) = node_of P c p.node e d in
    record { denotes = d; letters = s.letters; null = s.null; impossible = s.impossible; hollow = s.hollow; sized = z; positive = n; low = l }

pub part-kept : (P : List ℕ) (c : ℕ) (Q : List ℕ) (d : ℕ) → Extends P c Q d → (p : Part) (e : Exp) → PartIs P c p e → PartIs Q d p e
part-kept P c Q d x p e y = part_of Q d p e (denotes-kept P c Q d x _ e y.denotes) (summed y) y.sized

pub option-kept : (P : List ℕ) (c : ℕ) (Q : List ℕ) (d : ℕ) → Extends P c Q d → (p : code.Option Part) (o : Option Exp) → OptionIs P c p o → OptionIs Q d p o
unfolding OptionIs
option-kept P c Q d x code.None none z = z
option-kept P c Q d x code.None (some e) z = z
option-kept P c Q d x (code.Some p) none z = z
option-kept P c Q d x (code.Some p) (some e) y = part-kept P c Q d x p e y

-- ---- nodes

kind-small : (kind : ℕ) → Operator kind → kind < 65536
kind-small kind o = by-kind (λ k op. k < 65536) (omega arith) (omega arith) (omega arith) kind o

-- a word more that is a node: its kind, and what it leads to among the words before it
module _ (P Q : List ℕ) (c d kind i j k : ℕ) (x : Extends P c Q d) (w : at Q c ≡ quad kind i j k) (more : c < d) (small : c < 65535) (few : kind < 65536)
    (l : i < c) (m : j < 65536) where
  first : part1 (at Q c) ≡ i
  first = ap part1 w ∙ quad-1 kind i j k (omega arith)

  second : part2 (at Q c) ≡ j
  second = ap part2 w ∙ quad-2 kind i j k m

  node : Node Q d c kind
  unfolding Node
  node = (omega arith, more, ap part0 w ∙ quad-0 kind i j k few)

  first-low : part1 (at Q c) < c
  first-low = rw first l

  first-denotes : (e : Exp) → Denotes P c i e → Denotes Q d (part1 (at Q c)) e
  first-denotes e a = subst (λ k. Denotes Q d k e) (sym first) (denotes-kept P c Q d x i e a)

  second-denotes : (e : Exp) → Denotes P c j e → Denotes Q d (part2 (at Q c)) e
  second-denotes e a = subst (λ k. Denotes Q d k e) (sym second) (denotes-kept P c Q d x j e a)

  denotes-letter : kind ≡ 0 → (ls : List Literal) (ws : List Write) → c + 2 < d → at Q (c + 1) ≡ look ls → at Q (c + 2) ≡ want ls
      → Links P c i (tests_on [] ls) → Links P c j (writes_on [] ws) → HeldIs P c k ls → Denotes Q d c (a_letter ls ws)
  unfolding Denotes CameNode LetterNode
  denotes-letter z ls ws n a b t u h = (
    rw z at node,
    n,
    a,
    b,
    subst (λ k. Links Q d k (tests_on [] ls)) (sym first) (links-kept P c Q d x i _ t),
    subst (λ k. Links Q d k (writes_on [] ws)) (sym second) (links-kept P c Q d x j _ u),
    subst (λ k. HeldIs Q d k ls) (sym (ap part3 w ∙ quad-3 kind i j k (omega (arith, h.low)))) (held_kept P c Q d x k _ h),
  )

  denotes-star : kind ≡ 3 → (e : Exp) → Denotes P c i e → Denotes Q d c (star e)
  unfolding Denotes
  denotes-star z e a = (rw z at node, first-low, first-denotes e a)

  -- a production that a letter came through
  denotes-named : kind ≡ 5 → (e : Exp) → is_letter e ≡ true → Denotes P c i e → Denotes Q d c (as_production j e)
  unfolding Denotes CameNode as_production
  denotes-named z (letter l) q a = (rw z at node, first-low, second, first-denotes (letter l) a)
  denotes-named z (seq e f) q a = clash (cc)
  denotes-named z (alt e f) q a = clash (cc)
  denotes-named z (star e) q a = clash (cc)
  denotes-named z (pipe e f) q a = clash (cc)

  denotes-two : j < c → Operator kind → (e f : Exp) → Denotes P c i e → Denotes P c j f → Denotes Q d c (op_of kind e f)
  unfolding Denotes
  denotes-two second-low o e f a b = by-kind (λ k op. Node Q d c k → Denotes Q d c (op e f)) (with_operands 1) (with_operands 2) (with_operands 4) kind o node
    where
      with_operands : (k : ℕ) → Node Q d c k
          → Node Q d c k × (part1 (at Q c) < c) × (part2 (at Q c) < c) × Denotes Q d (part1 (at Q c)) e × Denotes Q d (part2 (at Q c)) f
      with_operands k n = (n, first-low, rw second second-low, first-denotes e a, second-denotes f b)

-- ---- two parts with an operator between them

sized-two : (e f : Exp) (kind : ℕ) → Operator kind → SizedLetters e → SizedLetters f → SizedLetters (op_of kind e f)
unfolding letters
sized-two e f kind o g h = by-kind (λ k op. SizedLetters (op e f)) both both both kind o
  where
    both : SizedLetters (seq e f)
    both l i = ⊎_elim (g l) (h l) (append-∈ (letters e) i)

pub present-none : (o : code.Option Part) → o ≡ code.None → present o ≡ 0
present-none o z = ap present z

pub is-one : (o : code.Option Part) → true ≡ is_some o → o ≡ code.None → ⊥
is-one o e z = false≢true (sym (e ∙ ap is_some z))

pub is-none : (o : code.Option Part) → false ≡ is_some o → o ≡ code.None
is-none code.None e = refl
is-none (code.Some p) e = absurd (false≢true e)

module _ (P : List ℕ) (c kind : ℕ) (right : Part) where
  pub join-none : JoinMade P c kind code.None right P c right
  unfolding OptionIs
  join-none = record { extends = extends-refl P c; few = omega arith; part = alone }
    where
      alone : (o : Option Exp) (e : Exp) → OptionIs P c code.None o → PartIs P c right e → PartIs P c right (join (op_of kind) o e)
      alone none e a b = b
      alone (some d) e a b = absurd a

module _ (P : List ℕ) (c kind : ℕ) (left right : Part) where
  pub join-some : c + 1 ≤ length P → length P ≤ 65535 → Operator kind → left.node < c → right.node < c
      → (r : Part) → SumOf kind left right c r → JoinMade P c kind (code.Some left) right (set P c (quad kind left.node right.node 0)) (c + 1) r
  unfolding OptionIs
  join-some room small k l m r s = record { extends = x; few = omega arith; part = made }
    where
      word : ℕ
      word = quad kind left.node right.node 0

      x : Extends P c (set P c word) (c + 1)
      x = put-extends P c word (omega arith)

      made : (o : Option Exp) (e : Exp) → OptionIs P c (code.Some left) o → PartIs P c right e → PartIs (set P c word) (c + 1) r (join (op_of kind) o e)
      made none e a b = absurd a
      made (some d) e a b =
          part_of _ _ r (op_of kind d e)
          (rw s.node
          (denotes-two P (set P c word) c (c + 1) kind left.node right.node 0 x (put-at P c word (omega arith)) (omega arith) (omega arith)
          (kind-small kind k) l (omega arith) m k d e a.denotes b.denotes))
          (s.sums d e (summed a) (summed b)) (sized-two d e kind k a.sized b.sized)

-- ---- a part with a star behind it

pub star-made : (P : List ℕ) (c : ℕ) (p : Part) → c + 1 ≤ length P → length P ≤ 65535 → p.node < c → (h : ℕ)
    → ((o : Option ℕ) → p.hollow ≡ coded o → h ≡ coded (cond p.nullable (some 0) o))
    → StarMade P c p (set P c (quad 3 p.node 0 0)) (c + 1)
    (record { node = c; letters = p.letters; nullable = true; impossible = p.impossible; hollow = h })
unfolding size nullable impossible_at hollow_at letters
star-made P c p room small l h f = record {
  extends = x;
  few = refl;
  part = λ e y.
      part_of _ _ _ (star e)
      (denotes-star P (set P c word) c (c + 1) 3 p.node 0 0 x (put-at P c word (omega arith)) (omega arith) (omega arith) (omega arith) l (omega arith) refl e
      y.denotes)
      (record {
        letters = y.letters;
        null = refl;
        impossible = y.impossible;
        hollow = f (hollow_at e) y.hollow ∙ ap (λ b. coded (cond b (some 0) (hollow_at e))) y.null;
      })
      y.sized;
}
  where
    word : ℕ
    word = quad 3 p.node 0 0

    x : Extends P c (set P c word) (c + 1)
    x = put-extends P c word (omega arith)

-- ---- a letter

-- three words more
module _ (P : List ℕ) (c u v w : ℕ) (h : c + 3 ≤ length P) where
  abbrev with_two : List ℕ
  with_two = set (set P c u) (c + 1) v

  abbrev written : List ℕ
  written = set with_two (c + 2) w

  two-long : c + 2 < length with_two
  two-long = simp length-set (omega arith)

  pub put_three : Extends P c written (c + 3)
  put_three =
      let x = extends-then (put_both P c u v (omega arith)) (put-extends with_two (c + 2) w two-long) in
      record { long = x.long; more = omega arith; kept = x.kept }

  pub first_word : at written c ≡ u
  first_word = (put-extends with_two (c + 2) w two-long).kept c (omega arith) ∙ put_first P c u v (omega arith)

  pub second_word : at written (c + 1) ≡ v
  second_word = (put-extends with_two (c + 2) w two-long).kept (c + 1) (omega arith) ∙ put_second P c u v (omega arith)

  pub third-word : at written (c + 2) ≡ w
  third-word = put-at with_two (c + 2) w two-long

pub letter-made : (P : List ℕ) (c : ℕ) (q : Condition) (link : ℕ) → c + 3 ≤ length P → length P ≤ 65535 → 1 ≤ c → q.link < c → link < c
    → (i : ℕ) → i ≡ coded (cond q.agrees none (some 0))
    → LetterMade P c q link (set (set (set P c (quad 0 q.link link q.held)) (c + 1) q.look) (c + 2) q.want) (c + 3)
    (record { node = c; letters = 1; nullable = false; impossible = i; hollow = 0 })
unfolding size nullable impossible_at hollow_at letters
letter-made P c q link room small n l m i f = record {
  extends = x;
  few = refl;
  part = λ ls ws k a t b.
      part_of _ _ _ (a_letter ls ws)
      (denotes-letter P (written P c word q.look q.want room) c (c + 3) 0 q.link link q.held x (first_word P c word q.look q.want room) (omega arith)
      (omega arith) (omega arith) l (omega arith) refl ls ws (omega arith) (second_word P c word q.look q.want room ∙ a.masks.looks)
      (third-word P c word q.look q.want room ∙ a.masks.wants) (a.tests.links t) b.links a.helds)
      (record { letters = refl; null = refl; impossible = f ∙ ap (λ z. coded (cond z none (some 0))) a.masks.agrees; hollow = refl })
      (λ y z. subst (λ k. AllSized k.literals) (sym (one-∈ z)) a.masks.sized);
}
  where
    word : ℕ
    word = quad 0 q.link link q.held

    x : Extends P c (written P c word q.look q.want room) (c + 3)
    x = put_three P c word q.look q.want room

-- ---- the expression of a production

-- what is known of an expression does not depend on the productions that it came through
module _ (k : ℕ) where
  production-summed : (p : Part) (e : Exp) → Summed p e → Summed p (as_production k e)
  unfolding as_production size nullable impossible_at hollow_at
  production-summed p (letter l) s = record { letters = s.letters; null = s.null; impossible = s.impossible; hollow = s.hollow }
  production-summed p (seq e f) s = s
  production-summed p (alt e f) s = s
  production-summed p (star e) s = s
  production-summed p (pipe e f) s = s

  production-sized : (e : Exp) → SizedLetters e → SizedLetters (as_production k e)
  unfolding as_production letters
  production-sized (letter l) s = λ x i. subst (λ y. AllSized y.literals) (sym (one-∈ i)) (s l (here refl))
  production-sized (seq e f) s = s
  production-sized (alt e f) s = s
  production-sized (star e) s = s
  production-sized (pipe e f) s = s

  other-production : (e : Exp) → is_letter e ≡ false → e ≡ as_production k e
  unfolding as_production
  other-production (letter l) q = clash (cc)
  other-production (seq e f) q = refl
  other-production (alt e f) q = refl
  other-production (star e) q = refl
  other-production (pipe e f) q = refl

-- a part as the expression of the production with the number k
module _ (P : List ℕ) (c k : ℕ) (p : Part) where
  pub no-letter-made : letter_kind (part0 (at P p.node)) ≡ false → ProductionMade P c k p P c p
  no-letter-made z =
      record {
        extends = extends-refl P c;
        few = omega arith;
        part = λ e y. subst (PartIs P c p) (other-production k e (sym (kind-letter P c p.node e y.denotes) ∙ z)) y;
      }

  pub named-made : c + 1 ≤ length P → length P ≤ 65535 → k < 65536 → p.node < c → letter_kind (part0 (at P p.node)) ≡ true
      → ProductionMade P c k p (set P c (quad 5 p.node k 0)) (c + 1)
      (record { node = c; letters = p.letters; nullable = p.nullable; impossible = p.impossible; hollow = p.hollow })
  named-made room small low l z = record {
    extends = x;
    few = omega arith;
    part = λ e y.
        part_of _ _ _ (as_production k e)
        (denotes-named P (set P c word) c (c + 1) 5 p.node k 0 x (put-at P c word (omega arith)) (omega arith) (omega arith) (omega arith) l low refl e
        (sym (kind-letter P c p.node e y.denotes) ∙ z) y.denotes)
        (production-summed k _ e (record { letters = y.letters; null = y.null; impossible = y.impossible; hollow = y.hollow })) (production-sized k e y.sized);
  }
    where
      word : ℕ
      word = quad 5 p.node k 0

      x : Extends P c (set P c word) (c + 1)
      x = put-extends P c word (omega arith)

pub flag_small : (b : Bool) → flag b ≤ 1
flag_small true = omega arith
flag_small false = omega arith

pub as-flag : (b : Bool) → bool_byte b ≡ flag b
as-flag true = refl
as-flag false = refl

pub is-flag : (b : Bool) → eqb (flag b) 1 ≡ b
is-flag true = refl
is-flag false = refl

pub production-is : (P : List ℕ) (c cell : ℕ) (e : Exp) → ProductionAt P c cell e → (n m k i h : ℕ) → n ≡ part0 (at P (cell + 1)) → m ≡ part0 (at P (cell + 2))
    → k ≡ part1 (at P (cell + 2)) → i ≡ part2 (at P (cell + 2)) → h ≡ part3 (at P (cell + 2))
    → PartIs P c (record { node = n; letters = m; nullable = eqb k 1; impossible = i; hollow = h }) e
production-is P c cell e x n m k i h p q r s t =
    part_of _ _ _ e (rw p x.node)
    (record {
      letters = q ∙ x.letters;
      null = ap (λ y. eqb y 1) (r ∙ x.null) ∙ is-flag (nullable e);
      impossible = s ∙ x.impossible;
      hollow = t ∙ x.hollow;
    })
    x.sized

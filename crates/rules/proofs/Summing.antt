-- What is known of two parts of an expression together, from what is known of each. Assumes nothing.
use mathlib.Core.Path.{◌≡◌, refl, sym, ◌∙◌, ap, ap₂, subst}
use mathlib.Core.Bool.{Bool, true, false, cond, ◌&&◌, ◌||◌}
use mathlib.Core.Logic.{inl, inr}
use mathlib.Core.Option.{Option, none, some}
use Prim.Native.Nat.{ℕ, ◌+◌, ◌≤◌, min}
use native.Mathlib.Omega.{arith}
use Rattle.meaning.specs.Expression.{Exp, seq, alt, pipe, size}
use Rattle.meaning.specs.Shape.{nullable}
use Rattle.meaning.specs.Summary.{counted, or_later, impossible_at, unless_nullable, hollow_at}
use Rattle.rules.specs.declared.parts.Part.{Part}
use Rattle.rules.specs.Cells.{coded}
use Rattle.rules.specs.declared.parts.Operator.{Operator as TheOperator}
use Rattle.rules.specs.declared.parts.Operator.TheVariants.{Sequence, Choice, Pipe}
use Rattle.rules.specs.Parts.{operator_number, Summed, Later, op_of, Operator, SumOf}

-- ---- the letter at fault

pub coded-most : (o : Option ℕ) → coded o ≤ 258
coded-most none = omega arith
coded-most (some n) = omega arith

module _ (a n b : ℕ) where
  pub later_first : (a ≡ 0 → ⊥) → Later a n b a
  later_first z none k p e f g = absurd (z e)
  later_first z (some i) k p e f g = e

  pub later-none : a ≡ 0 → b ≡ 0 → Later a n b 0
  later-none y z none k none e f g = refl
  later-none y z none k (some j) e f g = absurd (omega arith)
  later-none y z (some i) k p e f g = absurd (omega arith)

  pub later_second : a ≡ 0 → (b ≡ 0 → ⊥) → (r : ℕ) → r ≡ min 258 (n + b) → Later a n b r
  later_second y z r h none k none e f g = absurd (z g)
  later_second y z r h none k (some j) e f g = omega arith
  later_second y z r h (some i) k p e f g = absurd (omega arith)

-- a part that may not be nullable
module _ (b : Bool) (h : ℕ) where
  pub at-itself : b ≡ true → (1 ≤ 258) × ((o : Option ℕ) → h ≡ coded o → 1 ≡ coded (cond b (some 0) o))
  at-itself e = (omega arith, λ o g. sym (ap (λ x. coded (cond x (some 0) o)) e))

  pub as_before : h ≤ 258 → b ≡ false → (h ≤ 258) × ((o : Option ℕ) → h ≡ coded o → h ≡ coded (cond b (some 0) o))
  as_before l e = (l, λ o g. g ∙ sym (ap (λ x. coded (cond x (some 0) o)) e))

-- ---- two parts with an operator between them

-- what holds of each operator
pub by-kind : (F : ℕ → (Exp → Exp → Exp) → Type 0) → F 1 seq → F 2 alt → F 4 pipe → (kind : ℕ) → Operator kind → F kind (op_of kind)
by-kind F a b c kind (inl e) = subst (λ k. F k (op_of k)) (sym e) a
by-kind F a b c kind (inr (inl e)) = subst (λ k. F k (op_of k)) (sym e) b
by-kind F a b c kind (inr (inr e)) = subst (λ k. F k (op_of k)) (sym e) c

pub is-operator : (o : TheOperator) → Operator (operator_number o)
is-operator Sequence = inl refl
is-operator Choice = inr (inl refl)
is-operator Pipe = inr (inr refl)

pub no-pipe : (o : TheOperator) → (o ≡ Pipe → ⊥) → operator_number o ≡ 4 → ⊥
no-pipe Sequence n z = omega arith
no-pipe Choice n z = omega arith
no-pipe Pipe n z = n refl

size-two : (e f : Exp) (kind : ℕ) → Operator kind → size (op_of kind e f) ≡ size e + size f
unfolding size
size-two e f kind = by-kind (λ k op. size (op e f) ≡ size e + size f) refl refl refl kind

impossible-two : (e f : Exp) (kind : ℕ) → Operator kind → impossible_at (op_of kind e f) ≡ or_later (impossible_at e) (size e) (impossible_at f)
unfolding impossible_at
impossible-two e f kind = by-kind (λ k op. impossible_at (op e f) ≡ or_later (impossible_at e) (size e) (impossible_at f)) refl refl refl kind

hollow-plain : (e f : Exp) (kind : ℕ) → Operator kind → (kind ≡ 4 → ⊥) → hollow_at (op_of kind e f) ≡ or_later (hollow_at e) (size e) (hollow_at f)
unfolding hollow_at
hollow-plain e f kind =
    by-kind (λ k op. (k ≡ 4 → ⊥) → hollow_at (op e f) ≡ or_later (hollow_at e) (size e) (hollow_at f)) (λ n. refl) (λ n. refl) (λ n. absurd (n refl)) kind

hollow-pipe : (e f : Exp) (kind : ℕ) → kind ≡ 4
    → hollow_at (op_of kind e f) ≡ or_later (unless_nullable e (hollow_at e)) (size e) (unless_nullable f (hollow_at f))
unfolding hollow_at
hollow-pipe e f kind z = ap (λ k. hollow_at (op_of k e f)) z

module _ (kind : ℕ) (left right : Bool) (e f : Exp) (g : left ≡ nullable e) (h : right ≡ nullable f) where
  pub null-sequence : kind ≡ 1 → (left && right) ≡ nullable (op_of kind e f)
  unfolding nullable
  null-sequence z = ap₂ ◌&&◌ g h ∙ sym (ap (λ k. nullable (op_of k e f)) z)

  pub null-choice : kind ≡ 2 → (left || right) ≡ nullable (op_of kind e f)
  unfolding nullable
  null-choice z = ap₂ ◌||◌ g h ∙ sym (ap (λ k. nullable (op_of k e f)) z)

  pub null-pipe : Operator kind → (kind ≡ 1 → ⊥) → (kind ≡ 2 → ⊥) → false ≡ nullable (op_of kind e f)
  unfolding nullable
  null-pipe o = by-kind (λ k op. (k ≡ 1 → ⊥) → (k ≡ 2 → ⊥) → false ≡ nullable (op e f)) (λ m n. absurd (m refl)) (λ m n. absurd (n refl)) (λ m n. refl) kind o

module _ (kind : ℕ) (o : Operator kind) (left right : Part) where
  -- for rule 10, with no `@` between them, and with one
  pub hollow-later : (kind ≡ 4 → ⊥) → (r : ℕ) → Later left.hollow left.letters right.hollow r
      → (e f : Exp) → Summed left e → Summed right f → r ≡ coded (hollow_at (op_of kind e f))
  hollow-later n r l e f s t = l (hollow_at e) (size e) (hollow_at f) s.hollow s.letters t.hollow ∙ sym (ap coded (hollow-plain e f kind o n))

  pub hollow-operands : kind ≡ 4 → (a b r : ℕ) → ((q : Option ℕ) → left.hollow ≡ coded q → a ≡ coded (cond left.nullable (some 0) q))
      → ((q : Option ℕ) → right.hollow ≡ coded q → b ≡ coded (cond right.nullable (some 0) q)) → Later a left.letters b r
      → (e f : Exp) → Summed left e → Summed right f → r ≡ coded (hollow_at (op_of kind e f))
  hollow-operands z a b r x y l e f s t =
      l (unless_nullable e (hollow_at e)) (size e) (unless_nullable f (hollow_at f)) (x (hollow_at e) s.hollow ∙ ap (λ c. coded (cond c (some 0) (hollow_at e))) s.null) s.letters
      (y (hollow_at f) t.hollow ∙ ap (λ c. coded (cond c (some 0) (hollow_at f))) t.null)
      ∙ sym (ap coded (hollow-pipe e f kind z))

  pub sum_of : (at n i h : ℕ) (b : Bool) → ((j k : ℕ) → left.letters ≡ counted j → right.letters ≡ counted k → n ≡ counted (j + k))
      → ((e f : Exp) → left.nullable ≡ nullable e → right.nullable ≡ nullable f → b ≡ nullable (op_of kind e f))
      → Later left.impossible left.letters right.impossible i
      → ((e f : Exp) → Summed left e → Summed right f → h ≡ coded (hollow_at (op_of kind e f)))
      → SumOf kind left right at (record { node = at; letters = n; nullable = b; impossible = i; hollow = h })
  sum_of at n i h b count null later hollow = record {
    node = refl;
    sums = λ e f s t. record {
      letters = count (size e) (size f) s.letters t.letters ∙ sym (ap counted (size-two e f kind o));
      null = null e f s.null t.null;
      impossible = later (impossible_at e) (size e) (impossible_at f) s.impossible s.letters t.impossible ∙ sym (ap coded (impossible-two e f kind o));
      hollow = hollow e f s t;
    };
  }

-- The thread that each letter goes on in, by the code's branches and loop. Assumes nothing.
use mathlib.Core.Path.{◌≡◌, sym, ◌∙◌, ap, ap₂}
use mathlib.Core.Bool.{true, false, cond}
use mathlib.Core.List.{List}
use Prim.Native.Nat.{ℕ, suc, ◌+◌, ◌*◌, ◌/◌, ◌%◌, ◌<◌, ◌≤◌}
use native.Mathlib.Omega.{arith}
use borrow.Author.Tests.{lt-ltb, le-ltb, eq-eqb, ne_eqb}
use lib.Dec.{eqb, ltb}
use lib.ListN.{get_or, set}
use Rattle.lexer.proofs.Bools.{taken, left}
use Rattle.words.specs.Words.{part0, part1}
use Rattle.monitor.specs.Threads.{going_on, operand_number, up_of, row_number, row_numbers, thread_of, with_thread, threads_from}

-- ---- the number of an operand's row, by the kind k and the left operand l of the row above

module _ (w n r k l : ℕ) (a : k ≡ part0 w) (b : l ≡ part1 w) where
  is : (j : ℕ) → k ≡ j → eqb (part0 w) j ≡ true
  is j e = eq-eqb (part0 w) j (sym a ∙ e)

  is-not : (j : ℕ) → (k ≡ j → ⊥) → eqb (part0 w) j ≡ false
  is-not j f = ne_eqb (part0 w) j (λ (e : part0 w ≡ j). f (a ∙ e))

  from-left : l ≡ r → eqb (part1 w) r ≡ true
  from-left e = eq-eqb (part1 w) r (sym b ∙ e)

  from-right : (l ≡ r → ⊥) → eqb (part1 w) r ≡ false
  from-right f = ne_eqb (part1 w) r (λ (e : part1 w ≡ r). f (b ∙ e))

  pub seq-left : k ≡ 1 → l ≡ r → going_on n ≡ operand_number w n r
  seq-left e f = rw (is 1 e, from-left f)

  pub seq-right : k ≡ 1 → (l ≡ r → ⊥) → n ≡ operand_number w n r
  seq-right e f = rw (is 1 e, from-right f)

  -- of another kind than `,`
  module _ (f1 : k ≡ 1 → ⊥) where
    pub alt-either : k ≡ 2 → n ≡ operand_number w n r
    alt-either e = rw (is-not 1 f1, is 2 e)

    module _ (f2 : k ≡ 2 → ⊥) where
      pub star-body : k ≡ 3 → going_on n ≡ operand_number w n r
      star-body e = rw (is-not 1 f1, is-not 2 f2, is 3 e)

      module _ (f3 : k ≡ 3 → ⊥) where
        pub pipe-left : k ≡ 4 → l ≡ r → n ≡ operand_number w n r
        pipe-left e f = rw (is-not 1 f1, is-not 2 f2, is-not 3 f3, is 4 e, from-left f)

        pub pipe-right : k ≡ 4 → (l ≡ r → ⊥) → 2 * r ≡ operand_number w n r
        pipe-right e f = rw (is-not 1 f1, is-not 2 f2, is-not 3 f3, is 4 e, from-right f)

-- ---- the number of a row, by the row u above it

module _ (t ns : List ℕ) (r u : ℕ) (a : u ≡ up_of t r) where
  pub row_below : u < r → operand_number (get_or t u 0) (get_or ns u 0) r ≡ row_number t ns r
  row_below h = ap (λ (v : ℕ). operand_number (get_or t v 0) (get_or ns v 0) r) a ∙ sym (taken (ltb (up_of t r) r) _ 0 (lt-ltb (up_of t r) r (omega (arith, a, h))))

  pub row-above : r ≤ u → 0 ≡ row_number t ns r
  row-above h = sym (left (ltb (up_of t r) r) _ 0 (le-ltb (up_of t r) r (omega (arith, a, h))))

-- ---- the thread of a letter

pub goes_on_lem : (n : ℕ) → (n % 2 ≡ 0 → ⊥) → n / 2 ≡ thread_of n
goes_on_lem n f = sym (left (eqb (n % 2) 0) 0 (n / 2) (ne_eqb (n % 2) 0 f))

pub ends-here : (n : ℕ) → n % 2 ≡ 0 → 0 ≡ thread_of n
ends-here n e = sym (taken (eqb (n % 2) 0) 0 (n / 2) (eq-eqb (n % 2) 0 e))

module _ (ts : List ℕ) (w n k : ℕ) (a : k ≡ part0 w) where
  pub no-letter : (k ≡ 0 → ⊥) → ts ≡ with_thread ts w n
  no-letter f = sym (left (eqb (part0 w) 0) _ ts (ne_eqb (part0 w) 0 (λ (e : part0 w ≡ 0). f (a ∙ e))))

  module _ (e : k ≡ 0) (l : ℕ) (b : l ≡ part1 w) where
    a-letter : with_thread ts w n ≡ cond (ltb (part1 w) 256) (set ts (part1 w) (thread_of n)) ts
    a-letter = taken (eqb (part0 w) 0) _ ts (eq-eqb (part0 w) 0 (sym a ∙ e))

    pub thread-stored : l < 256 → (m : ℕ) → m ≡ thread_of n → set ts l m ≡ with_thread ts w n
    thread-stored h m q = ap₂ (λ (i x : ℕ). set ts i x) b q ∙ sym (a-letter ∙ taken (ltb (part1 w) 256) _ ts (lt-ltb (part1 w) 256 (omega (arith, b, h))))

-- ---- a turn of the loop

module _ (t ns : List ℕ) (r r' m : ℕ) (a : ns ≡ row_numbers t r) (b : m ≡ row_number t ns r) (c : r' ≡ r + 1) where
  number_is : m ≡ row_number t (row_numbers t r) r
  number_is = b ∙ ap (λ (l : List ℕ). row_number t l r) a

  one_more : suc r ≡ r'
  one_more = omega (arith, c)

  pub numbers-next : set ns r m ≡ row_numbers t r'
  unfolding row_numbers
  numbers-next = ap₂ (λ (l : List ℕ) (x : ℕ). set l r x) a number_is ∙ ap (row_numbers t) one_more

  pub threads-next : (ts ts' : List ℕ) → ts ≡ threads_from t r → ts' ≡ with_thread ts (get_or t r 0) m → ts' ≡ threads_from t r'
  unfolding threads_from
  threads-next ts ts' p q = q ∙ ap₂ (λ (l : List ℕ) (x : ℕ). with_thread l (get_or t r 0) x) p number_is ∙ ap (threads_from t) one_more

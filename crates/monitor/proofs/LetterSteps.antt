-- A letter at a tick, by the code's branches: whether it is met, and what it writes. Assumes nothing.
use mathlib.Core.Path.{◌≡◌, sym, ◌∙◌, ap, ap₂}
use mathlib.Core.Bool.{Bool, true, false}
use mathlib.Core.List.{List}
use Prim.Native.Nat.{ℕ, ◌+◌, ◌*◌, ◌/◌, ◌%◌, ◌^◌}
use borrow.Author.Tests.{eq-eqb, ne_eqb}
use lib.Dec.{eqb}
use lib.Bits.{bit_and}
use lib.ListN.{get_or, set}
use Rattle.lexer.proofs.Bools.{taken, left, either, other, neither, both}
use Rattle.words.specs.Words.{part0, part1, part2}
use Rattle.monitor.specs.Letters.{Given, link_value, test_met, wires_met, past_met, letter_met, write_slot, write_letter}

-- ---- a link's value

pub by_number : (x v w p : ℕ) → p ≡ part1 x → p ≡ 2 → v ≡ link_value x v w
by_number x v w p e f = sym (taken (eqb (part1 x) 2) v _ (eq-eqb (part1 x) 2 (sym e ∙ f)))

pub by-wires : (x v w p q : ℕ) → p ≡ part1 x → (p ≡ 2 → ⊥) → q ≡ part2 x → bit_and (w / 2 ^ (q % 64)) v ≡ link_value x v w
by-wires x v w p q e f d =
    ap (λ (n : ℕ). bit_and (w / 2 ^ (n % 64)) v) d ∙ sym (left (eqb (part1 x) 2) v _ (ne_eqb (part1 x) 2 (λ (z : part1 x ≡ 2). f (e ∙ z))))

-- ---- a slot's test, and its write

module _ (g : Given) (slot : ℕ) where
  pub no_test : get_or g.links slot 0 ≡ 0 → true ≡ test_met g slot
  no_test z = either (eqb (get_or g.links slot 0) 0) _ (eq-eqb (get_or g.links slot 0) 0 z)

  pub no_write : get_or g.links slot 0 ≡ 0 → (σ : List ℕ) → σ ≡ write_slot g slot σ
  no_write z σ = sym (taken (eqb (get_or g.links slot 0) 0) σ _ (eq-eqb (get_or g.links slot 0) 0 z))

  module _ (z : get_or g.links slot 0 ≡ 0 → ⊥) (p n : ℕ) (e : p ≡ part0 (get_or g.links slot 0))
      (d : n ≡ link_value (get_or g.links slot 0) (get_or g.numbers slot 0) g.word) where
    pub the-test : (v : ℕ) → v ≡ get_or g.values p 0 → eqb v n ≡ test_met g slot
    the-test v f = ap₂ eqb (f ∙ ap (λ (k : ℕ). get_or g.values k 0) e) d ∙ other (eqb (get_or g.links slot 0) 0) _ (ne_eqb (get_or g.links slot 0) 0 z)

    pub the-write : (σ τ : List ℕ) → τ ≡ set σ p n → τ ≡ write_slot g slot σ
    the-write σ τ f = f ∙ ap₂ (λ (i a : ℕ). set σ i a) e d ∙ sym (left (eqb (get_or g.links slot 0) 0) σ _ (ne_eqb (get_or g.links slot 0) 0 z))

-- ---- a letter

pub misses : (g : Given) (l : ℕ) (a : Bool) → a ≡ wires_met g l → a ≡ false → false ≡ letter_met g l
unfolding letter_met
misses g l a e f = neither (wires_met g l) _ (sym e ∙ f)

module _ (g : Given) (l : ℕ) (a : Bool) (e : a ≡ wires_met g l) (f : a ≡ true) where
  pub moves : (b : Bool) → b ≡ past_met g l → b ≡ false → false ≡ letter_met g l
  unfolding letter_met
  moves b d h = neither (past_met g l) _ (sym d ∙ h) ∙ both (wires_met g l) _ (sym e ∙ f)

  module _ (b : Bool) (d : b ≡ past_met g l) (h : b ≡ true) where
    pub fails : (c : Bool) → c ≡ test_met g (4 * l) → c ≡ false → false ≡ letter_met g l
    unfolding letter_met
    fails c p q = neither (test_met g (4 * l)) (test_met g (4 * l + 1)) (sym p ∙ q) ∙ both (past_met g l) _ (sym d ∙ h) ∙ both (wires_met g l) _ (sym e ∙ f)

    pub meets : (c k : Bool) → c ≡ test_met g (4 * l) → c ≡ true → k ≡ test_met g (4 * l + 1) → k ≡ letter_met g l
    unfolding letter_met
    meets c k p q r =
        r ∙ both (test_met g (4 * l)) (test_met g (4 * l + 1)) (sym p ∙ q) ∙ both (past_met g l) _ (sym d ∙ h) ∙ both (wires_met g l) _ (sym e ∙ f)

pub writes : (g : Given) (l : ℕ) (σ τ υ : List ℕ) → τ ≡ write_slot g (4 * l + 2) σ → υ ≡ write_slot g (4 * l + 3) τ → υ ≡ write_letter g l σ
unfolding write_letter
writes g l σ τ υ e f = f ∙ ap (write_slot g (4 * l + 3)) e

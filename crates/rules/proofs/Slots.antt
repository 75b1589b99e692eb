-- Links as two numbers, and the slots that hold them. Assumes nothing.
use mathlib.Core.Path.{◌≡◌, refl, sym, ◌∙◌, ap, ap₂, subst}
use mathlib.Core.List.{List, [], ◌∷◌}
use mathlib.Core.Option.{Option, none, some}
use Prim.Native.Nat.{ℕ, ◌+◌, ◌<◌, ◌≤◌}
use native.Mathlib.Numerals.{add-one}
use native.Mathlib.Omega.{arith}
use lib.ListN.{length, set}
use lib.Seq.{sets}
use borrow.Author.Tests.{eq-eqb, ne_eqb}
use Rattle.words.specs.Words.{quad, part0, part1, part2, part3}
use Rattle.rules.specs.Cells.{at, Link, LinkAt, Links}
use Rattle.rules.specs.declared.lay.Tables.{Tables}
use Rattle.rules.specs.Laying.{link_word, ones, link_number, slot_word, slot_number, two_slots, behind, with_slots, Slot, SlotAt, SomeSlot, LinksAt, SomeLinks}

-- ---- the numbers of a link

pub number-alone : (s lo w : ℕ) → w ≡ 0 → quad s 2 0 0 ≡ link_word s lo w
number-alone s lo w e = rw (eq-eqb w 0 e)

pub wires-alone : (s lo w : ℕ) → (w ≡ 0 → ⊥) → quad s 1 lo 0 ≡ link_word s lo w
wires-alone s lo w n = rw (ne_eqb w 0 n)

pub number-kept : (w v : ℕ) → w ≡ 0 → v ≡ link_number w v
number-kept w v e = rw (eq-eqb w 0 e)

pub ones-kept : (w v : ℕ) → (w ≡ 0 → ⊥) → ones w ≡ link_number w v
ones-kept w v n = rw (ne_eqb w 0 n)

-- ---- the slot at an index

module _ (P : List ℕ) (i : ℕ) where
  pub slot-inside : SomeSlot P i → (i ≡ 0 → ⊥) → i + 1 < length P
  unfolding Slot LinkAt
  slot-inside (c, none, s) n = absurd (n s.slot)
  slot-inside (c, some x, s) n = omega (arith, s.slot.0, s.within)

  no_slot : (c : ℕ) (o : Option Link) → SlotAt P c i o → i ≡ 0 → o ≡ none
  unfolding Slot LinkAt
  no_slot c none s z = refl
  no_slot c (some x) s z = absurd (omega (arith, s.slot.5))

  pub word_none : i ≡ 0 → (c : ℕ) → (o : Option Link) → SlotAt P c i o → 0 ≡ slot_word o
  word_none z c o s = sym (ap slot_word (no_slot c o s z))

  pub number-none : i ≡ 0 → (c : ℕ) → (o : Option Link) → SlotAt P c i o → 0 ≡ slot_number o
  number-none z c o s = sym (ap slot_number (no_slot c o s z))

  pub word_some : (i ≡ 0 → ⊥) → (r : ℕ) → r ≡ link_word (part0 (at P i)) (part1 (at P i)) (part2 (at P i)) → (c : ℕ) → (o : Option Link) → SlotAt P c i o
      → r ≡ slot_word o
  unfolding Slot LinkAt
  word_some n r e c none s = absurd (n s.slot)
  word_some n r e c (some x) s = e ∙ rw (s.slot.1, s.slot.2, s.slot.3)

  pub number-some : (i ≡ 0 → ⊥) → (w r : ℕ) → w ≡ part2 (at P i) → r ≡ link_number w (at P (i + 1)) → (c : ℕ) → (o : Option Link) → SlotAt P c i o
      → r ≡ slot_number o
  unfolding Slot LinkAt
  number-some n w r f e c none s = absurd (n s.slot)
  number-some n w r f e c (some x) s = e ∙ rw (f, s.slot.3, s.slot.4)

-- ---- links as two slots

first : List Link → Option Link
first [] = none
first (x ∷ xs) = some x

module _ (P : List ℕ) where
  first_slot : (c i : ℕ) (xs : List Link) → c ≤ length P → Links P c i xs → SlotAt P c i (first xs)
  unfolding first Slot Links
  first_slot c i [] l k = record { within = l; slot = k }
  first_slot c i (x ∷ xs) l k = record { within = l; slot = k.0 }

  pub some-slot : (i : ℕ) → SomeLinks P i → SomeSlot P i
  some-slot i (c, xs, k) = (c, first xs, first_slot c i xs k.within k.links)

  pub behind-none : (i : ℕ) → i ≡ 0 → (c : ℕ) → (xs : List Link) → LinksAt P c i xs → Links P c 0 (behind xs)
  unfolding Links LinkAt
  behind-none i z c [] k = refl
  behind-none i z c (x ∷ xs) k = absurd (omega (arith, k.links.0.5))

  pub behind-some : (i : ℕ) → (i ≡ 0 → ⊥) → (r : ℕ) → r ≡ part3 (at P i) → (c : ℕ) → (xs : List Link) → LinksAt P c i xs → Links P c r (behind xs)
  unfolding Links
  behind-some i n r e c [] k = absurd (n k.links)
  behind-some i n r e c (x ∷ xs) k = subst (λ (j : ℕ). Links P c j xs) (sym e) k.links.1

  -- one link or none
  two_none : (c r : ℕ) (xs : List Link) → Links P c r (behind xs) → r ≡ 0 → two_slots xs ≡ first xs ∷ none ∷ []
  unfolding first Links LinkAt
  two_none c r [] k z = refl
  two_none c r (x ∷ []) k z = refl
  two_none c r (y ∷ x ∷ xs) k z = absurd (omega (arith, k.0.5))

  two-some : (c r : ℕ) (xs : List Link) → Links P c r (behind xs) → (r ≡ 0 → ⊥) → two_slots xs ≡ first (behind xs) ∷ first xs ∷ []
  unfolding first Links
  two-some c r [] k n = absurd (n k)
  two-some c r (x ∷ []) k n = absurd (n k)
  two-some c r (y ∷ x ∷ xs) k n = refl

  pub no-links : (i : ℕ) → SomeLinks P i → SomeSlot P 0
  unfolding Slot
  no-links i (c, xs, k) = (c, none, record { within = k.within; slot = refl })

  pub behind-slot : (i r : ℕ) → SomeLinks P i → ((c : ℕ) → (xs : List Link) → LinksAt P c i xs → Links P c r (behind xs)) → SomeSlot P r
  behind-slot i r (c, xs, k) b = (c, first (behind xs), first_slot c r (behind xs) k.within (b c xs k))

  -- what is stored
  module _ (at : ℕ) (A A' : Tables) where
    abbrev Two : List (Option Link) → Type 0
    Two os = A' ≡ with_slots A at os

    module _ (i r : ℕ) (b : (c : ℕ) → (xs : List Link) → LinksAt P c i xs → Links P c r (behind xs)) where
      pub one-stored : r ≡ 0 → ((c : ℕ) → (o p : Option Link) → SlotAt P c i o → SlotAt P c 0 p → Two (o ∷ p ∷ [])) → (c : ℕ) → (xs : List Link) → LinksAt P c i xs
          → Two (two_slots xs)
      unfolding Slot
      one-stored z t c xs k =
          subst Two (sym (two_none c r xs (b c xs k) z))
          (t c (first xs) none (first_slot c i xs k.within k.links) (record { within = k.within; slot = refl }))

      pub both_stored : (r ≡ 0 → ⊥) → ((c : ℕ) → (o p : Option Link) → SlotAt P c r o → SlotAt P c i p → Two (o ∷ p ∷ [])) → (c : ℕ) → (xs : List Link) → LinksAt P c i xs
          → Two (two_slots xs)
      both_stored n t c xs k =
          subst Two (sym (two-some c r xs (b c xs k) n))
          (t c (first (behind xs)) (first xs) (first_slot c r (behind xs) k.within (b c xs k)) (first_slot c i xs k.within k.links))

pub two-set : (L : List ℕ) (at a b x y : ℕ) → a ≡ x → b ≡ y → set (set L at a) (at + 1) b ≡ sets L at (x ∷ y ∷ [])
two-set L at a b x y e f = rw (add-one at) (ap₂ (λ (m n : ℕ). sets L at (m ∷ n ∷ [])) e f)

pub slots-put : (A : Tables) (at a b k l : ℕ) (o p : Option Link) → a ≡ slot_word o → b ≡ slot_word p → k ≡ slot_number o → l ≡ slot_number p
    → record A { links = set (set A.links at a) (at + 1) b; numbers = set (set A.numbers at k) (at + 1) l } ≡ with_slots A at (o ∷ p ∷ [])
slots-put A at a b k l o p e f g h =
    ap₂ (λ (L N : List ℕ). record A { links = L; numbers = N }) (two-set A.links at a b (slot_word o) (slot_word p) e f) (two-set A.numbers at k l (slot_number o) (slot_number p) g h)

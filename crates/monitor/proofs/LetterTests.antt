-- A letter's numbers say what the letter means: it is met where its masks and both test slots are, and its write slots write what it writes. Assumes nothing.
use mathlib.Core.Path.{◌≡◌, refl, sym, ap, ap₂, ◌∙◌, subst}
use mathlib.Core.Bool.{Bool, true, false, cond, ◌&&◌}
use mathlib.Core.List.{List, [], ◌∷◌, ◌++◌}
use mathlib.Core.Option.{Option, none, some}
use Prim.Native.Nat.{ℕ, zero, suc, ◌+◌, ◌*◌, ◌/◌, ◌%◌, ◌^◌, ◌≤◌, ◌<◌, min}
use native.Mathlib.Omega.{arith}
use native.Mathlib.Nat.{add-zero, mod-le, le_trans, lt_of_le_of_lt}
use lib.Dec.{eqb, eqb-suc-zero}
use lib.Bits.{and_mask}
use lib.Pow.{shr_le}
use lib.ListN.{length, get_or, set, length-set}
use borrow.Author.Tests.{eqb-false, ne_eqb}
use Rattle.meaning.specs.Lists.{all, carry}
use Rattle.meaning.specs.Expression.{Literal, wire, wire_store, wire_past, store, Write, from_wire, from_number, Letter, field}
use Rattle.meaning.specs.Shape.{wire_holds}
use Rattle.masks.specs.Wires.{passes}
use Rattle.masks.specs.Masks.{look, want, held}
use Rattle.meaning.specs.Fit.{Tick, value_of, holds, meets, write}
use Rattle.lexer.proofs.Bools.{eqb-sym}
use Rattle.meaning.proofs.ListLaws.{same_truth}
use Rattle.masks.proofs.Masks.{meets-passes, passes-meets, past_holds, held-exactly}
use Rattle.meaning.proofs.Within.{Each, Within, WriteWithin}
use Rattle.words.specs.Words.{quad, part0}
use Rattle.rules.specs.Cells.{Link, link, tests_on, write_link, writes_on}
use Rattle.rules.specs.Laying.{ones, slot_word, slot_number, two_slots, slots_of}
use Rattle.words.proofs.Quads.{quad-1, quad-2}
use Rattle.rules.proofs.Tested.{tests-length}
use Rattle.monitor.specs.Letters.{Given, link_value, test_met, past_met, letter_met, write_slot, write_letter}
use Rattle.monitor.proofs.Padded.{padded, padded-get, padded-set}
use Rattle.monitor.proofs.Readable.{Readable, Small}

-- the lists of g have the numbers of letter x at index i
pub record LetterGiven (g : Given) (i : ℕ) (x : Letter) : Type 0 where
  pub looks : get_or g.letters i 0 ≡ look x.literals
  pub wants : get_or g.letters (256 + i) 0 ≡ want x.literals
  pub helds : get_or g.letters (512 + i) 0 ≡ held x.literals
  pub links : (j : ℕ) → j < 4 → get_or g.links (4 * i + j) 0 ≡ slot_word (get_or (slots_of x) j none)
  pub numbers : (j : ℕ) → j < 4 → get_or g.numbers (4 * i + j) 0 ≡ slot_number (get_or (slots_of x) j none)

-- ---- links

-- what a link's store is compared with, or what is written there
abbrev link_means : Link → (word : ℕ) → ℕ
link_means x w = cond (eqb x.width 0) x.number (field x.lo x.width w)

-- a link of so many stores, with wires of a word
abbrev LinkFits : (stores : ℕ) → Link → Type 0
LinkFits k x = (x.store < k) × (x.lo + x.width ≤ 64)

module _ (k : ℕ) (few : k ≤ 16) (x : Link) (fits : LinkFits k x) where
  link-some : eqb (slot_word (some x)) 0 ≡ false
  link-some = by (eqb x.width 0)
    where
      by : (t : Bool) → eqb (cond t (quad x.store 2 0 0) (quad x.store 1 x.lo 0)) 0 ≡ false
      by true = ne_eqb (quad x.store 2 0 0) 0 (λ e. omega arith)
      by false = ne_eqb (quad x.store 1 x.lo 0) 0 (λ e. omega arith)

  link-store : part0 (slot_word (some x)) ≡ x.store
  link-store = by (eqb x.width 0)
    where
      by : (t : Bool) → part0 (cond t (quad x.store 2 0 0) (quad x.store 1 x.lo 0)) ≡ x.store
      by true = omega (arith, fits.0)
      by false = omega (arith, fits.0)

  link-value : (w : ℕ) → link_value (slot_word (some x)) (slot_number (some x)) w ≡ link_means x w
  link-value w = by (eqb x.width 0) refl
    where
      by : (t : Bool) → eqb x.width 0 ≡ t
          → link_value (cond t (quad x.store 2 0 0) (quad x.store 1 x.lo 0)) (cond t x.number (ones x.width)) w
          ≡ cond t x.number (field x.lo x.width w)
      by true e = rw (quad-1 x.store 2 0 0 (omega arith))
      by false e =
          let n = eqb-false x.width 0 e in
          let l : x.lo < 64 = omega (arith, fits.1, n) in
          let a : x.lo % 64 ≡ x.lo = omega arith in
          let b : min x.width 64 ≡ x.width = omega (arith, fits.1) in
          rw (quad-1 x.store 1 x.lo 0 (omega arith), quad-2 x.store 1 x.lo 0 (omega arith), a, b)
          (and_mask (w / 2 ^ x.lo) x.width)

-- a field of no wires is 0
field-means : (lo width w : ℕ) → cond (eqb width 0) 0 (field lo width w) ≡ field lo width w
field-means lo zero w = omega arith
field-means lo (suc width) w = rw (eqb-suc-zero width)

write-means : (a : Write) (t : Tick) (σ : List ℕ) → set σ (write_link a).store (link_means (write_link a) t.word) ≡ write t σ a
write-means (from_wire s lo width) t σ = ap (set σ s) (field-means lo width t.word)
write-means (from_number s v) t σ = refl

-- ---- slots

-- slot j of two
abbrev slot : (j : ℕ) → List Link → Option Link
slot j xs = get_or (two_slots xs) j none

two : (xs : List Link) → two_slots xs ≡ slot 0 xs ∷ slot 1 xs ∷ []
two [] = refl
two (x ∷ []) = refl
two (y ∷ x ∷ xs) = refl

four : (xs ys : List Link) → two_slots xs ++ two_slots ys ≡ slot 0 xs ∷ slot 1 xs ∷ slot 0 ys ∷ slot 1 ys ∷ []
four xs ys = ap₂ (λ a b. a ++ b) (two xs) (two ys)

abbrev link_holds : Tick → Link → Bool
link_holds t x = eqb (value_of t.stores x.store) (link_means x t.word)

abbrev slot_holds : Tick → Option Link → Bool
slot_holds t none = true
slot_holds t (some x) = link_holds t x

abbrev slot_writes : (word : ℕ) → List ℕ → Option Link → List ℕ
slot_writes w σ none = σ
slot_writes w σ (some x) = set σ x.store (link_means x w)

abbrev SlotFits : (stores : ℕ) → Option Link → Type 0
SlotFits k none = Unit {0}
SlotFits k (some x) = LinkFits k x

-- the numbers of o are at index j
abbrev SlotGiven : Given → (j : ℕ) → Option Link → Type 0
SlotGiven g j o = (get_or g.links j 0 ≡ slot_word o) × (get_or g.numbers j 0 ≡ slot_number o)

module _ (g : Given) (k : ℕ) (few : k ≤ 16) (j : ℕ) where
  slot-test : (σ : List ℕ) → length σ ≤ 16 → g.values ≡ padded σ → (o : Option Link) → SlotFits k o → SlotGiven g j o
      → test_met g j ≡ slot_holds (record { word = g.word; before = g.before; stores = σ }) o
  slot-test σ short e none f (p, q) = rw p
  slot-test σ short e (some x) f (p, q) = rw (p, q, link-some k few x f, link-store k few x f, link-value k few x f g.word, e, padded-get 16 σ short x.store)

  slot-write : (o : Option Link) → SlotFits k o → SlotGiven g j o → (ρ : List ℕ) → write_slot g j ρ ≡ slot_writes g.word ρ o
  slot-write none f (p, q) ρ = rw p
  slot-write (some x) f (p, q) ρ = rw (p, q, link-some k few x f, link-store k few x f, link-value k few x f g.word)

both-fit : (k : ℕ) (xs : List Link) → Each (LinkFits k) xs → SlotFits k (slot 0 xs) × SlotFits k (slot 1 xs)
both-fit k [] f = (tt, tt)
both-fit k (x ∷ []) (f, h) = (f, tt)
both-fit k (y ∷ x ∷ xs) (f, (h, r)) = (h, f)

-- ---- tests

and-true : (a : Bool) → (a && true) ≡ a
and-true true = refl
and-true false = refl

and-swap : (a b : Bool) → (a && b) ≡ (b && a)
and-swap true b = sym (and-true b)
and-swap false true = refl
and-swap false false = refl

and-apart : (a b c : Bool) → ((a && b) && c) ≡ (a && (b && c))
and-apart true b c = refl
and-apart false b c = refl

-- a literal that is a test, among those before
to_front : (a b c : Bool) → (a && (b && c)) ≡ ((b && a) && c)
to_front a b c = sym (and-apart a b c) ∙ ap (λ z. z && c) (and-swap a b)

-- a literal that is none, behind those before, which come to two parts with the rest
in-first : (a h c p q : Bool) → (a && c) ≡ (p && q) → (a && (h && c)) ≡ ((h && p) && q)
in-first a h c p q e = to_front a h c ∙ and-apart h a c ∙ ap (λ z. h && z) e ∙ sym (and-apart h p q)

in-second : (a h c p q r : Bool) → (a && c) ≡ (p && (q && r)) → (a && (h && c)) ≡ (p && ((h && q) && r))
in-second a h c p q r e = in-first a h c p (q && r) e ∙ and-apart h p (q && r) ∙ to_front h p (q && r) ∙ and-apart p h (q && r) ∙ ap (λ z. p && z) (sym (and-apart h q r))

-- the literals are met where the wire literals, those of the word before and the store tests are
meets-parts : (t : Tick) (xs : List Link) (ls : List Literal)
    → (all (link_holds t) xs && all (holds t) ls) ≡ (all (wire_holds t.word) ls && (all (past_holds t.before t.word) ls && all (link_holds t) (tests_on xs ls)))
unfolding tests_on
meets-parts t xs [] = and-true _
meets-parts t xs (wire lo width v ∷ ls) =
    in-first (all (link_holds t) xs) (eqb (field lo width t.word) v) (all (holds t) ls) (all (wire_holds t.word) ls) _ (meets-parts t xs ls)
meets-parts t xs (wire_past lo width ∷ ls) =
    in-second (all (link_holds t) xs) (eqb (field lo width t.word) (field lo width t.before)) (all (holds t) ls) (all (wire_holds t.word) ls)
    (all (past_holds t.before t.word) ls) _ (meets-parts t xs ls)
meets-parts t xs (wire_store lo width s ∷ ls) =
    let e : eqb (field lo width t.word) (value_of t.stores s) ≡ link_holds t (link s lo width 0)
    = eqb-sym (field lo width t.word) (value_of t.stores s) ∙ ap (eqb (value_of t.stores s)) (sym (field-means lo width t.word)) in
    ap (λ z. all (link_holds t) xs && (z && all (holds t) ls)) e ∙ to_front (all (link_holds t) xs) (link_holds t (link s lo width 0)) (all (holds t) ls) ∙ meets-parts t (link s lo width 0 ∷ xs) ls
meets-parts t xs (store s v ∷ ls) = to_front (all (link_holds t) xs) (link_holds t (link s 0 0 v)) (all (holds t) ls) ∙ meets-parts t (link s 0 0 v ∷ xs) ls

two-hold : (t : Tick) (xs : List Link) → length xs ≤ 2 → all (link_holds t) xs ≡ (slot_holds t (slot 0 xs) && slot_holds t (slot 1 xs))
two-hold t [] l = refl
two-hold t (x ∷ []) l = refl
two-hold t (y ∷ x ∷ []) l = ap (λ z. link_holds t y && z) (and-true (link_holds t x)) ∙ and-swap (link_holds t y) (link_holds t x)
two-hold t (z ∷ y ∷ x ∷ xs) l = absurd (omega arith)

module _ (n k : ℕ) (wires : n ≤ 64) where
  tests-fit : (xs : List Link) (ls : List Literal) → Each (LinkFits k) xs → Each (Within n k) ls → Each (LinkFits k) (tests_on xs ls)
  unfolding tests_on
  tests-fit xs [] f h = f
  tests-fit xs (wire lo w v ∷ ls) f (h, r) = tests-fit xs ls f r
  tests-fit xs (wire_past lo w ∷ ls) f (h, r) = tests-fit xs ls f r
  tests-fit xs (wire_store lo w s ∷ ls) f (h, r) = tests-fit (link s lo w 0 ∷ xs) ls ((h.1, omega (arith, h.0)), f) r
  tests-fit xs (store s v ∷ ls) f (h, r) = tests-fit (link s 0 0 v ∷ xs) ls ((h.0, omega arith), f) r

  write-fits : (a : Write) → WriteWithin n k a → LinkFits k (write_link a)
  write-fits (from_wire s lo w) h = (h.0, omega (arith, h.1))
  write-fits (from_number s v) h = (h.0, omega arith)

  writes-fit : (xs : List Link) (ws : List Write) → Each (LinkFits k) xs → Each (WriteWithin n k) ws → Each (LinkFits k) (writes_on xs ws)
  unfolding writes_on
  writes-fit xs [] f h = f
  writes-fit xs (a ∷ ws) f (h, r) = writes-fit (write_link a ∷ xs) ws (write-fits a h, f) r

-- ---- writes

two-written : (w : ℕ) (t : Tick) → w ≡ t.word → (ws : List Write) → length ws ≤ 2 → (σ : List ℕ)
    → slot_writes w (slot_writes w σ (slot 0 (writes_on [] ws))) (slot 1 (writes_on [] ws)) ≡ carry (write t) σ ws
unfolding writes_on
two-written w t e [] l σ = refl
two-written w t e (a ∷ []) l σ = rw e (write-means a t σ)
two-written w t e (a ∷ b ∷ []) l σ = rw (e, write-means a t σ) (write-means b t _)
two-written w t e (a ∷ b ∷ c ∷ ws) l σ = absurd (omega arith)

write-length : (t : Tick) (a : Write) (σ : List ℕ) → length (write t σ a) ≡ length σ
write-length t (from_wire s lo w) σ = length-set σ s _
write-length t (from_number s v) σ = length-set σ s v

pub writes-length : (t : Tick) (ws : List Write) (σ : List ℕ) → length (carry (write t) σ ws) ≡ length σ
writes-length t [] σ = refl
writes-length t (a ∷ ws) σ = writes-length t ws (write t σ a) ∙ write-length t a σ

set-small : (σ : List ℕ) (s v : ℕ) → Small σ → v < 2 ^ 64 → Small (set σ s v)
set-small [] s v h l = tt
set-small (x ∷ σ) zero v (h, r) l = (l, r)
set-small (x ∷ σ) (suc s) v (h, r) l = (h, set-small σ s v r l)

module _ (n k : ℕ) (t : Tick) where
  -- written values fit a word
  module _ (small : t.word < 2 ^ 64) where
    write-small : (a : Write) → WriteWithin n k a → (σ : List ℕ) → Small σ → Small (write t σ a)
    write-small (from_wire s lo w) h σ l = set-small σ s _ l (lt_of_le_of_lt (le_trans (mod-le (t.word / 2 ^ lo) (2 ^ w)) (shr_le t.word lo)) small)
    write-small (from_number s v) h σ l = set-small σ s v l h.1

    pub writes-small : (ws : List Write) → Each (WriteWithin n k) ws → (σ : List ℕ) → Small σ → Small (carry (write t) σ ws)
    writes-small [] h σ l = l
    writes-small (a ∷ ws) (h, r) σ l = writes-small ws r (write t σ a) (write-small a h σ l)

  -- the writes to padded values are those to the values
  module _ (few : k ≤ 16) where
    write-padded : (a : Write) → WriteWithin n k a → (σ : List ℕ) → length σ ≡ k → write t (padded σ) a ≡ padded (write t σ a)
    write-padded (from_wire s lo w) h σ l = padded-set σ (omega arith) s _ (omega (arith, h.0))
    write-padded (from_number s v) h σ l = padded-set σ (omega arith) s v (omega (arith, h.0))

    writes-padded : (ws : List Write) → Each (WriteWithin n k) ws → (σ : List ℕ) → length σ ≡ k → carry (write t) (padded σ) ws ≡ padded (carry (write t) σ ws)
    writes-padded [] h σ l = refl
    writes-padded (a ∷ ws) (h, r) σ l =
        ap (λ ρ. carry (write t) ρ ws) (write-padded a h σ l) ∙ writes-padded ws r (write t σ a) (write-length t a σ ∙ l)

-- ---- a letter

module _ (g : Given) (i : ℕ) (x : Letter) (σ : List ℕ) (given : LetterGiven g i x) (readable : Readable x (length σ)) where
  abbrev tests : List Link
  tests = tests_on [] x.literals

  abbrev writes : List Link
  writes = writes_on [] x.writes

  slot-given : (j : ℕ) → j < 4 → SlotGiven g (4 * i + j) (get_or (slot 0 tests ∷ slot 1 tests ∷ slot 0 writes ∷ slot 1 writes ∷ []) j none)
  slot-given j l =
      let e = ap (λ os. get_or os j none) (four tests writes) in
      (given.links j l ∙ ap slot_word e, given.numbers j l ∙ ap slot_number e)

  -- F6: "all its literals hold at t"
  pub letter-met : g.values ≡ padded σ → letter_met g i ≡ meets x (record { word = g.word; before = g.before; stores = σ })
  unfolding letter_met meets
  letter-met e =
      let t : Tick = record { word = g.word; before = g.before; stores = σ } in
      let few = readable.few_stores in
      let inside = readable.within in
      let (f₀, f₁) = both-fit (length σ) tests (tests-fit readable.wires (length σ) readable.few_wires [] x.literals tt inside.literals) in
      let masks : passes (get_or g.letters i 0) (get_or g.letters (256 + i) 0) g.word ≡ all (wire_holds g.word) x.literals
      = ap₂ (λ (a b : ℕ). passes a b g.word) given.looks given.wants
      ∙ same_truth _ _ (passes-meets x.literals readable.sized readable.agreed g.word) (meets-passes x.literals readable.sized readable.agreed g.word) in
      let pasts : past_met g i ≡ all (past_holds g.before g.word) x.literals
      = ap (λ (a : ℕ). passes a g.before g.word) given.helds ∙ held-exactly x.literals readable.sized g.before g.word in
      let test₀ = slot-test g (length σ) few (4 * i) σ few e (slot 0 tests) f₀ (subst (λ (j : ℕ). SlotGiven g j (slot 0 tests)) (add-zero (4 * i)) (slot-given 0 (omega arith))) in
      let test₁ = slot-test g (length σ) few (4 * i + 1) σ few e (slot 1 tests) f₁ (slot-given 1 (omega arith)) in
      let short : length tests ≤ 2 = omega (arith, tests-length [] x.literals, inside.few_tests) in
      ap₂ (λ (a b : Bool). a && b) masks (ap₂ (λ (a b : Bool). a && b) pasts (ap₂ (λ (a b : Bool). a && b) test₀ test₁ ∙ sym (two-hold t tests short)))
      ∙ sym (meets-parts t [] x.literals)

  -- F21: "within a letter the one further right": over any store values that are as many
  pub letter-writes : (t : Tick) → g.word ≡ t.word → (ρ : List ℕ) → length ρ ≡ length σ → write_letter g i (padded ρ) ≡ padded (carry (write t) ρ x.writes)
  unfolding write_letter
  letter-writes t e ρ l =
      let few = readable.few_stores in
      let inside = readable.within in
      let (f₀, f₁) = both-fit (length σ) writes (writes-fit readable.wires (length σ) readable.few_wires [] x.writes tt inside.writes) in
      ap (write_slot g (4 * i + 3)) (slot-write g (length σ) few (4 * i + 2) (slot 0 writes) f₀ (slot-given 2 (omega arith)) (padded ρ))
      ∙ slot-write g (length σ) few (4 * i + 3) (slot 1 writes) f₁ (slot-given 3 (omega arith)) _
      ∙ two-written g.word t e x.writes inside.few_writes (padded ρ)
      ∙ writes-padded readable.wires (length σ) t few x.writes inside.writes ρ l

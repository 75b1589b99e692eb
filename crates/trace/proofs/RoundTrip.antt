-- One record there and back: the writer's record reads as its word, and what reads as a word is the writer's record. Assumes nothing.
use mathlib.Core.Path.{◌≡◌, refl, sym, ap, ◌∙◌, subst}
use mathlib.Core.Logic.{◌⊎◌, inl, inr, ⊎_elim}
use mathlib.Core.Bool.{Bool, true, false, false≢true}
use mathlib.Core.List.{List, [], ◌∷◌, ◌++◌, append_assoc, append-nil}
use Prim.Native.Nat.{ℕ, zero, suc, ◌+◌, ◌^◌, ◌≤◌, ◌<◌}
use native.Mathlib.Nat.{eq-or-lt_of_le, le_of_suc-le-suc, not-suc-le-zero, mod-eq_of_lt, le_refl, le-add_right, add-zero}
use native.Mathlib.Numerals.{add-one, one-add}
use native.Mathlib.Omega.{arith}
use lib.Dec.{eqb, ltb}
use lib.ListN.{length, get_or, take, drop, replicate, length-append, take-append-drop}
use lib.Seq.{get_or_at, take-suc, length-take-le}
use borrow.Author.Tests.{eqb-true, eqb-false, ne_eqb, le-ltb, ltb-false}
use Rattle.trace.specs.Answer.{value}
use Rattle.trace.specs.Whole.{Bytes}
use Rattle.trace.specs.Record.{word, bit, byte, count, picked, record_of, differs, changes, written, given_for, new_byte, merged, idle_at, idle, judged, read_record}
use Rattle.trace.proofs.Bits.{bit-cases, count-mono}
use Rattle.trace.proofs.Clash.{clash}
use Rattle.trace.proofs.Digits.{digit-number, number_digits, number-ext}
use Rattle.trace.proofs.Merge.{idle-here, new_byte-lt, merged-lt, new_byte-given, new_byte-kept, or-false, and-left-false, and-right-false}
use Rattle.trace.proofs.Writing.{differs-lt, differs-one, differs_none, picked-length}

-- ---- what the writer wrote reads as its word

bit-changes : (before w i : ℕ) → i < 8 → bit i (changes before w) ≡ differs before w i
unfolding changes
bit-changes before w i h = digit-number 1 (differs before w) (differs-lt before w) 8 i h

-- where bit i stands, the byte given for it is the word's
given-picked : (map w n i : ℕ) (t : List ℕ) → i < n → bit i map ≡ 1 → get_or (picked n map w ++ t) (count i map) 0 ≡ byte i w
unfolding picked
given-picked map w zero i t h e = absurd (not-suc-le-zero h)
given-picked map w (suc n) i t h e =
    ap (λ (l : List ℕ). get_or l (count i map) 0) (append_assoc (picked n map w) (replicate (bit n map) (byte n w)) t)
    ∙ ⊎_elim (λ f. rw (← f, e) (get_or_at (picked i map w) (byte i w) t 0 (count i map) (picked-length i map w)))
    (λ l. given-picked map w n i (replicate (bit n map) (byte n w) ++ t) l e) (eq-or-lt_of_le (le_of_suc-le-suc h))

eq-or-not : (a b : ℕ) → (a ≡ b) ⊎ (a ≡ b → ⊥)
eq-or-not a b = go (eqb a b) refl
  where
    go : (t : Bool) → eqb a b ≡ t → (a ≡ b) ⊎ (a ≡ b → ⊥)
    go true e = inl (eqb-true a b e)
    go false e = inr (eqb-false a b e)

module _ (before w : ℕ) (t : List ℕ) where
  map : ℕ
  map = changes before w

  given : List ℕ
  given = picked 8 map w ++ t

  -- the two cases of a byte: kept, with no bit, or changed, with its bit and the word's byte
  byte-cases : (i : ℕ) → i < 8 → ((bit i map ≡ 0) × (byte i before ≡ byte i w))
      ⊎ ((bit i map ≡ 1) × (given_for i map given ≡ byte i w) × (byte i before ≡ byte i w → ⊥))
  unfolding map given
  byte-cases i h =
      ⊎_elim (λ e. inl (bit-changes before w i h ∙ differs_none before w i e, e))
      (λ d. let b : bit i map ≡ 1 = bit-changes before w i h ∙ differs-one before w i d in inr (b, given-picked map w 8 i t h b, d))
      (eq-or-not (byte i before) (byte i w))

  new_is : (i : ℕ) → i < 8 → new_byte before map given i ≡ byte i w
  new_is i h =
      ⊎_elim (λ k. new_byte-kept before map given i k.0 ∙ k.1) (λ k. new_byte-given before map given i k.0 ∙ k.1) (byte-cases i h)

  not-idle : (i : ℕ) → i < 8 → idle_at i before map given ≡ false
  not-idle i h =
      ⊎_elim (λ k. and-left-false _ _ (ne_eqb (bit i map) 1 (λ e. let z : ◌≡◌ {A = ℕ} 0 1 = sym k.0 ∙ e in omega arith)))
      (λ k. and-right-false (eqb (bit i map) 1) _ (ne_eqb _ _ (λ e. k.2 (sym e ∙ k.1)))) (byte-cases i h)

  none-idle : (i : ℕ) → i ≤ 8 → idle i before map given ≡ false
  unfolding idle
  none-idle zero h = refl
  none-idle (suc i) h = or-false _ _ (none-idle i (omega arith)) (not-idle i h)

  merged-is : w < 2 ^ 64 → merged before map given ≡ w
  unfolding merged
  merged-is h = number-ext 8 (new_byte before map given) (λ i. byte i w) 8 new_is ∙ number_digits 8 w 8 ∙ mod-eq_of_lt h

  enough : ltb (length given) (count 8 map) ≡ false
  unfolding given
  enough = le-ltb (length given) (count 8 map) (rw (length-append, picked-length) (le-add_right (count 8 map) (length t)))

  pub read-written : w < 2 ^ 64 → read_record (written before w ++ t) before ≡ value (word w (length (written before w)))
  unfolding read_record written record_of map given
  read-written h =
      rw (enough, none-idle 8 (le_refl 8), merged-is h) (ap (λ (n : ℕ). value (word w n)) (one-add (count 8 map) ∙ ap suc (sym (picked-length 8 map w))))

-- ---- what reads as a word is the writer's record

module _ (before map : ℕ) (given : List ℕ) (bytes : Bytes given) (small : map < 256) (whole : count 8 map ≤ length given)
    (changed : idle 8 before map given ≡ false) where
  w : ℕ
  w = merged before map given

  pub byte-merged : (i : ℕ) → i < 8 → byte i (merged before map given) ≡ new_byte before map given i
  unfolding merged
  byte-merged i h = digit-number 8 (new_byte before map given) (new_byte-lt before map given bytes) 8 i h

  differs-w : (i : ℕ) → i < 8 → differs before w i ≡ bit i map
  unfolding w
  differs-w i h =
      ⊎_elim (λ b. differs_none before w i (sym (byte-merged i h ∙ new_byte-kept before map given i b)) ∙ sym b)
      (λ b. differs-one before w i
      (λ e. false≢true (sym changed ∙ idle-here before map given i 8 h b (sym (byte-merged i h ∙ new_byte-given before map given i b) ∙ sym e))) ∙ sym b)
      (bit-cases i map)

  changes-w : changes before w ≡ map
  unfolding changes
  changes-w = number-ext 1 (differs before w) (λ i. bit i map) 8 differs-w ∙ number_digits 1 map 8 ∙ mod-eq_of_lt small

  picked-w : (i : ℕ) → i ≤ 8 → picked i map w ≡ take (count i map) given
  unfolding picked count w
  picked-w zero h = refl
  picked-w (suc i) h =
      ⊎_elim (λ b. rw (picked-w i (omega arith), b, append-nil (take (count i map) given), add-zero))
      (λ b. rw (picked-w i (omega arith), b, byte-merged i h, new_byte-given before map given i b, add-one)
      (sym (take-suc given (count i map) 0 (omega (arith, b, count-mono map (suc i) 8 h))))) (bit-cases i map)

  pub written-merged : written before (merged before map given) ≡ map ∷ take (count 8 map) given
  unfolding written record_of w
  written-merged = rw (changes-w, picked-w 8 (le_refl 8))

pub judged-word : (t i : Bool) (w n w' n' : ℕ) → judged t i (word w n) ≡ value (word w' n') → (t ≡ false) × (i ≡ false) × (w ≡ w') × (n ≡ n')
judged-word true i w n w' n' e = clash (cc)
judged-word false true w n w' n' e = clash (cc)
judged-word false false w n w' n' e = (refl, refl, (cc), (cc))

-- Where reading gives a word, the bytes are those that the writer writes for it, and the word has 64 bits.
pub read-canonical : (s : List ℕ) (before w n : ℕ) → Bytes s → read_record s before ≡ value (word w n)
    → (s ≡ written before w ++ drop n s) × (n ≡ length (written before w)) × (w < 2 ^ 64)
unfolding read_record merged
read-canonical [] before w n bytes e = clash (cc)
read-canonical (map ∷ given) before w n bytes e =
    let j = judged-word (ltb (length given) (count 8 map)) (idle 8 before map given) (merged before map given) (1 + count 8 map) w n e in
    let m : written before w ≡ map ∷ take (count 8 map) given
    = ap (written before) (sym j.2) ∙ written-merged before map given (λ i. bytes (suc i)) (bytes 0) (ltb-false _ _ j.0) j.1 in
    let k : n ≡ suc (count 8 map) = sym j.3 ∙ one-add (count 8 map) in (
      rw (m, k) (ap (λ (l : List ℕ). map ∷ l) (sym (take-append-drop (count 8 map) given))),
      k ∙ sym (ap length m ∙ ap suc (length-take-le (count 8 map) given (ltb-false _ _ j.0))),
      subst (λ (x : ℕ). x < 2 ^ 64) j.2 (merged-lt before map given (λ i. bytes (suc i)) 8 (le_refl 8)),
    )

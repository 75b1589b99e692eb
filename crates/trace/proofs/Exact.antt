-- Reading one record answers exactly as docs/REFERENCE.md says (R4 to R6), and looks at no byte past it. Assumes nothing.
use mathlib.Core.Path.{◌≡◌, refl, sym, ap, ap₂, ◌∙◌}
use mathlib.Core.Logic.{◌⊎◌, inl, inr, ⊎_elim, ◌↔◌}
use mathlib.Core.Bool.{Bool, true, false, ◌||◌, ◌&&◌}
use mathlib.Core.List.{List, [], ◌∷◌, ◌++◌}
use Prim.Native.Nat.{ℕ, zero, suc, ◌+◌, ◌≤◌, ◌<◌}
use native.Mathlib.Nat.{le_refl, le_trans, le-add_right}
use native.Mathlib.Omega.{arith}
use lib.Dec.{eqb, ltb}
use lib.ListN.{length, length-append, get_or-append}
use borrow.Author.Tests.{eqb-true, lt-ltb, le-ltb, ltb-true, ltb-false}
use Rattle.refusals.specs.Numbers.{torn, idle_byte}
use Rattle.trace.specs.Answer.{value, refused}
use Rattle.trace.specs.Record.{Item, word, end, bit, byte, count, given_for, new_byte, merged, idle_at, idle, judged, read_record}
use Rattle.trace.proofs.Bits.{bit-cases, count-mono}
use Rattle.trace.proofs.Digits.{number-ext}
use Rattle.trace.proofs.Merge.{idle-here, new_byte-given, new_byte-kept}
use Rattle.trace.proofs.Clash.{clash}

-- R4: "where no byte is left, with the end", and only there.
pub end-exactly : (s : List ℕ) (before : ℕ) → (read_record s before ≡ value end) ↔ (s ≡ [])
unfolding read_record
end-exactly [] before = (λ e. refl, λ e. refl)
end-exactly (map ∷ given) before = (λ e. absurd (no_end (ltb (length given) (count 8 map)) (idle 8 before map given) (merged before map given) (1 + count 8 map) e), λ e. clash (cc))
  where
    no_end : (t i : Bool) (w n : ℕ) → judged t i (word w n) ≡ value end → ⊥
    no_end true i w n e = clash (cc)
    no_end false true w n e = clash (cc)
    no_end false false w n e = clash (cc)

-- "Torn: record cut short": fewer bytes follow the map than bits stand in it.
pub torn-exactly : (map : ℕ) (given : List ℕ) (before : ℕ)
    → (read_record (map ∷ given) before ≡ refused torn 0) ↔ (length given < count 8 map)
unfolding read_record
torn-exactly map given before =
    (λ e. ltb-true _ _ (is-torn _ (idle 8 before map given) (word (merged before map given) (1 + count 8 map)) e), λ h. ap (λ (t : Bool). judged t (idle 8 before map given) (word (merged before map given) (1 + count 8 map))) (lt-ltb _ _ h))
  where
    is-torn : (t i : Bool) (x : Item) → judged t i x ≡ refused torn 0 → t ≡ true
    is-torn true i x e = refl
    is-torn false true x e = let z : ◌≡◌ {A = ℕ} idle_byte torn = cc in absurd (omega arith)
    is-torn false false x e = clash (cc)

-- R6: an idle byte, by its bit
abbrev pub SomeIdle : ℕ → ℕ → List ℕ → Type 0
SomeIdle before map given = (i : ℕ) × (i < 8) × (bit i map ≡ 1) × (given_for i map given ≡ byte i before)

or_cases : (a b : Bool) → (a || b) ≡ true → (a ≡ true) ⊎ (b ≡ true)
or_cases true b e = inl refl
or_cases false b e = inr e

and_cases : (a b : Bool) → (a && b) ≡ true → (a ≡ true) × (b ≡ true)
and_cases true b e = (refl, e)
and_cases false b e = clash (cc)

find-idle : (before map : ℕ) (given : List ℕ) (n : ℕ) → n ≤ 8 → idle n before map given ≡ true → SomeIdle before map given
unfolding idle
find-idle before map given zero h e = clash (cc)
find-idle before map given (suc n) h e =
    ⊎_elim (λ a. find-idle before map given n (omega arith) a)
    (λ b. let k = and_cases (eqb (bit n map) 1) (eqb (given_for n map given) (byte n before)) b in (n, h, eqb-true _ _ k.0, eqb-true _ _ k.1))
    (or_cases (idle n before map given) (idle_at n before map given) e)

-- "Idle byte: a bit stands, the byte is unchanged", in a record that is not cut short.
pub idle-exactly : (map : ℕ) (given : List ℕ) (before : ℕ)
    → (read_record (map ∷ given) before ≡ refused idle_byte 0) ↔ ((count 8 map ≤ length given) × SomeIdle before map given)
unfolding read_record
idle-exactly map given before = (
  λ e. let k = is-idle (ltb (length given) (count 8 map)) (idle 8 before map given) (word (merged before map given) (1 + count 8 map)) e in (ltb-false _ _ k.0, find-idle before map given 8 (le_refl 8) k.1),
  λ h. rw (le-ltb _ _ h.0, idle-here before map given h.1.0 8 h.1.1 h.1.2 h.1.3),
)
  where
    is-idle : (t i : Bool) (x : Item) → judged t i x ≡ refused idle_byte 0 → (t ≡ false) × (i ≡ true)
    is-idle true i x e = let z : ◌≡◌ {A = ℕ} torn idle_byte = cc in absurd (omega arith)
    is-idle false true x e = (refl, refl)
    is-idle false false x e = clash (cc)

-- ---- no byte past the record counts

module _ (before map : ℕ) (given t : List ℕ) (whole : count 8 map ≤ length given) where
  same-given : (i : ℕ) → i < 8 → bit i map ≡ 1 → given_for i map (given ++ t) ≡ given_for i map given
  unfolding count
  same-given i h b = get_or-append given t 0 (count i map) (omega (arith, b, count-mono map (suc i) 8 h))

  same_new : (i : ℕ) → i < 8 → new_byte before map (given ++ t) i ≡ new_byte before map given i
  same_new i h =
      ⊎_elim (λ b. new_byte-kept before map (given ++ t) i b ∙ sym (new_byte-kept before map given i b))
      (λ b. new_byte-given before map (given ++ t) i b ∙ same-given i h b ∙ sym (new_byte-given before map given i b)) (bit-cases i map)

  same-idle-at : (i : ℕ) → i < 8 → idle_at i before map (given ++ t) ≡ idle_at i before map given
  same-idle-at i h = ⊎_elim (λ b. rw b) (λ b. rw (same-given i h b)) (bit-cases i map)

  same-idle : (i : ℕ) → i ≤ 8 → idle i before map (given ++ t) ≡ idle i before map given
  unfolding idle
  same-idle zero h = refl
  same-idle (suc i) h = ap₂ ◌||◌ (same-idle i (omega arith)) (same-idle-at i h)

  same-merged : merged before map (given ++ t) ≡ merged before map given
  unfolding merged
  same-merged = number-ext 8 (new_byte before map (given ++ t)) (new_byte before map given) 8 same_new

  longer : count 8 map ≤ length (given ++ t)
  longer = rw length-append (le_trans whole (le-add_right (length given) (length t)))

  -- A record that is not cut short reads alike whatever stands behind it.
  pub read-no-further : read_record ((map ∷ given) ++ t) before ≡ read_record (map ∷ given) before
  unfolding read_record
  read-no-further =
      rw (same-idle 8 (le_refl 8), same-merged, le-ltb (length given) (count 8 map) whole, le-ltb (length (given ++ t)) (count 8 map) longer)

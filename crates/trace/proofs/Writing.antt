-- Writing one record: the map of the changed bytes, and the bytes behind it, one after the other. Assumes nothing.
use mathlib.Core.Path.{◌≡◌, refl, sym, ap, ap₂, ◌∙◌}
use mathlib.Core.Bool.{Bool, true, false}
use mathlib.Core.List.{List, [], ◌∷◌, ◌++◌, append-nil}
use Prim.Native.Nat.{ℕ, zero, suc, ◌+◌, ◌*◌, ◌%◌, ◌^◌, ◌≤◌, ◌<◌}
use native.Mathlib.Nat.{one-mul, add-zero, zero-mul, lt_of_lt_of_le}
use native.Mathlib.Numerals.{add-one, one-add}
use native.Mathlib.Omega.{arith}
use lib.Dec.{eqb}
use lib.ListN.{length, drop, set, length-append, length-replicate, length-set}
use lib.Seq.{drop-set-lt}
use lib.Pow.{pow_mono, shl_exact}
use borrow.Author.Tests.{eq-eqb, ne_eqb}
use Rattle.trace.specs.Record.{bit, byte, number, count, picked, record_of, unlike, differs, changes, written}
use Rattle.trace.proofs.Bits.{bit-zero, count-le, count-mono}
use Rattle.trace.proofs.Digits.{number_lt}
use Rattle.trace.proofs.Lists.{set_next}

-- ---- the map

unlike-lt : (t : Bool) → unlike t < 2
unlike-lt true = omega arith
unlike-lt false = omega arith

pub differs-lt : (before word i : ℕ) → differs before word i < 2
unfolding differs
differs-lt before word i = unlike-lt (eqb (byte i before) (byte i word))

pub changes-lt : (before word i : ℕ) → i ≤ 8 → number 1 (differs before word) i < 256
changes-lt before word i h =
    lt_of_lt_of_le (number_lt 1 (differs before word) (differs-lt before word) i) (pow_mono {j = 8} (omega arith))

pub differs-one : (before word i : ℕ) → (byte i before ≡ byte i word → ⊥) → differs before word i ≡ 1
unfolding differs
differs-one before word i d = rw (ne_eqb (byte i before) (byte i word) d)

pub differs_none : (before word i : ℕ) → byte i before ≡ byte i word → differs before word i ≡ 0
unfolding differs
differs_none before word i e = rw (eq-eqb (byte i before) (byte i word) e)

pub record Changing (before word map i : ℕ) : Type 0 where
  pub within : i ≤ 8
  pub so_far : map ≡ number 1 (differs before word) i

pub changing-none : (before word : ℕ) → Changing before word 0 0
unfolding number
changing-none before word = record { within = omega arith; so_far = refl }

module _ (before word map i : ℕ) (m : Changing before word map i) (less : i < 8) where
  changing-by : (new d : ℕ) → differs before word i ≡ d → new ≡ map + d * 2 ^ i → Changing before word new (i + 1)
  unfolding number
  changing-by new d e n = rw (add-one i) record {
    within = less;
    so_far = n ∙ ap₂ (λ (x y : ℕ). x + y) m.so_far (ap₂ (λ (x y : ℕ). x * 2 ^ y) (sym e) (sym (one-mul i)));
  }

  pub changing-differs : (new : ℕ) → (byte i before ≡ byte i word → ⊥) → new ≡ map + 1 * 2 ^ i % 256 → Changing before word new (i + 1)
  changing-differs new d n =
      changing-by new 1 (differs-one before word i d) (n ∙ ap (λ (x : ℕ). map + x) (shl_exact 1 i 8 (omega arith) (omega arith)))

  pub changing-same : (new : ℕ) → byte i before ≡ byte i word → new ≡ map → Changing before word new (i + 1)
  changing-same new e n = changing-by new 0 (differs_none before word i e) (n ∙ sym (rw (zero-mul, add-zero)))

pub changing-done : (before word map i : ℕ) → Changing before word map i → 8 ≤ i → map ≡ changes before word
unfolding changes
changing-done before word map i m h = let e : i ≡ 8 = omega (arith, m.within) in rw e at m.so_far

-- ---- the bytes behind the map

pub picked-length : (i map word : ℕ) → length (picked i map word) ≡ count i map
unfolding picked count
picked-length zero map word = refl
picked-length (suc i) map word = rw (length-append, length-replicate, picked-length i map word)

pub record-length : (map word : ℕ) → length (record_of map word) ≡ 1 + count 8 map
unfolding record_of
record-length map word = rw (picked-length, one-add)

-- `old` is the buffer with its map byte, `out` what it is after i bytes
pub record Putting (map word : ℕ) (old out : List ℕ) (at i : ℕ) : Type 0 where
  pub within : i ≤ 8
  pub passed : at ≡ suc (count i map)
  pub long : length out ≡ length old
  pub so_far : out ≡ (map ∷ picked i map word) ++ drop at old

pub putting-none : (map word : ℕ) (l : List ℕ) → 0 < length l → Putting map word (set l 0 map) (set l 0 map) 1 0
unfolding picked count
putting-none map word [] h = absurd (omega arith)
putting-none map word (x ∷ l) h = record { within = omega arith; passed = refl; long = refl; so_far = refl }

module _ (map word : ℕ) (old out : List ℕ) (at i : ℕ) (m : Putting map word old out at i) (less : i < 8) (room : count 8 map < length old) where
  -- a bit that stands has room for its byte
  pub put-below : bit i map ≡ 1 → at < length out
  unfolding count
  put-below e = omega (arith, m.passed, m.long, e, count-mono map (suc i) 8 less)

  pub putting-byte : (new : List ℕ) (next b : ℕ) → bit i map ≡ 1 → b ≡ byte i word → new ≡ set out at b → next ≡ at + 1
      → Putting map word old new next (i + 1)
  unfolding picked count
  putting-byte new next b e f n a = rw (add-one i) record {
    within = less;
    passed = omega (arith, m.passed, e);
    long = ap length n ∙ length-set out at b ∙ m.long;
    so_far = n ∙ ap (λ (l : List ℕ). set l at b) m.so_far
        ∙ set_next (map ∷ picked i map word) old at b (rw picked-length (sym m.passed)) (rw m.long at (put-below e)) ∙ rw (e, f, a, add-one);
  }

  pub putting-skip : (new : List ℕ) (next : ℕ) → (bit i map ≡ 1 → ⊥) → new ≡ out → next ≡ at → Putting map word old new next (i + 1)
  unfolding picked count
  putting-skip new next e n a = rw (add-one i) record {
    within = less;
    passed = omega (arith, m.passed, bit-zero i map e);
    long = ap length n ∙ m.long;
    so_far = n ∙ m.so_far ∙ rw (bit-zero i map e, append-nil (picked i map word), a);
  }

pub putting-done : (map word : ℕ) (l out : List ℕ) (at i : ℕ) → Putting map word (set l 0 map) out at i → 8 ≤ i
    → out ≡ record_of map word ++ drop (1 + count 8 map) l
unfolding record_of
putting-done map word l out at i m h =
    let e : i ≡ 8 = omega (arith, m.within) in
    let a : at ≡ suc (count 8 map) = rw e at m.passed in
    m.so_far ∙ rw (e, a, one-add, drop-set-lt (suc (count 8 map)) l 0 map (omega arith))

-- the length of a record as the code counts it
pub write-long : (before word map n : ℕ) → map ≡ changes before word → n ≡ count 8 map → 1 + n ≡ length (written before word)
unfolding written
write-long before word map n e c = rw (record-length, ← e, c)

pub put-fits : (before word map n : ℕ) → map ≡ changes before word → length (written before word) ≤ n → count 8 map < n
unfolding written
put-fits before word map n e h = rw e (omega (arith, record-length (changes before word) word))

-- what the code has put is what is to be written
pub write-put : (before word map n : ℕ) (lent out : List ℕ) → map ≡ changes before word → n ≡ count 8 map
    → out ≡ record_of map word ++ drop (1 + count 8 map) lent → out ≡ written before word ++ drop (1 + n) lent
unfolding written
write-put before word map n lent out e c p = p ∙ rw (← e, c)

pub written-le : (before word : ℕ) → length (written before word) ≤ 9
unfolding written
written-le before word = rw record-length (omega (arith, count-le 8 (changes before word)))

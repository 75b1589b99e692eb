-- What the code finds where a number begins is what the definition says.
-- Assumes nothing.
use mathlib.Core.Path.{◌≡◌, refl, sym, ◌∙◌, ap}
use mathlib.Core.Bool.{true, false}
use mathlib.Core.List.{List, [], ◌∷◌}
use Prim.Native.Nat.{ℕ, ◌+◌, ◌-◌, ◌*◌, ◌^◌, ◌<◌, ◌≤◌}
use native.Mathlib.Nat.{le_refl, le_trans}
use native.Mathlib.Omega.{arith}
use lib.ListN.{length, drop, get_or, length-drop}
use lib.Seq.{get_or-drop}
use borrow.Author.Tests.{lt-ltb, le-ltb}
use Rattle.lexer.specs.declared.Kind.TheVariants.{Number}
use Rattle.lexer.specs.Bytes.{run, is_digit}
use Rattle.lexer.specs.Tokens.{number, knot, value_from, number_token}
use Rattle.lexer.specs.Shown.{shown}
use Rattle.lexer.proofs.Runs.{run_at, run_ends, run-goes, run-stops, run_past}
use Rattle.lexer.proofs.Names.{placed}

-- digits more never make a value less
value_grows : (v : ℕ) (ds : List ℕ) → v ≤ value_from v ds
unfolding value_from
value_grows v [] = le_refl v
value_grows v (d ∷ ds) = le_trans (omega arith) (value_grows (v * 10 + (d - 48)) ds)

-- the number at p, read up to i, has the value v so far
pub record Read (s : List ℕ) (p v i : ℕ) : Type 0 where
  pub ends : i + length (run is_digit (drop i s)) ≡ p + length (run is_digit (drop p s))
  pub value : value_from v (run is_digit (drop i s)) ≡ value_from 0 (run is_digit (drop p s))
  pub fits : v < 2 ^ 64

pub number-begins : (s : List ℕ) (p : ℕ) → Read s p 0 p
number-begins s p = record { ends = refl; value = refl; fits = omega arith }

module _ (s : List ℕ) (p v i : ℕ) (r : Read s p v i) where
  pub number-ends : run is_digit (drop i s) ≡ []
      → shown s (record { kind = Number v; place = p; after = i }) ≡ number_token p (run is_digit (drop p s))
  unfolding number_token value_from
  number-ends e =
      let is : v ≡ value_from 0 (run is_digit (drop p s)) = ap (value_from v) (sym e) ∙ r.value in
      rw (lt-ltb (value_from 0 (run is_digit (drop p s))) (2 ^ 64) (omega (arith, r.fits)))
      (placed (ap number is) refl (run_ends is_digit s i _ r.ends e))

  module _ (here : i < length s) (digit : is_digit (get_or s i 0) ≡ true) where
    value-here : value_from (v * 10 + (get_or s i 0 - 48)) (run is_digit (drop (i + 1) s)) ≡ value_from 0 (run is_digit (drop p s))
    unfolding value_from
    value-here = ap (value_from v) (sym (run_at is_digit s i here digit)) ∙ r.value

    pub number-goes : v * 10 + (get_or s i 0 - 48) < 2 ^ 64 → Read s p (v * 10 + (get_or s i 0 - 48)) (i + 1)
    number-goes h = record { ends = run-goes is_digit s i _ r.ends here digit; value = value-here; fits = h }

    pub number-large : 2 ^ 64 ≤ v * 10 + (get_or s i 0 - 48) → knot p ≡ number_token p (run is_digit (drop p s))
    unfolding number_token
    number-large h =
        rw
        (le-ltb
        (value_from 0 (run is_digit (drop p s)))
        (2 ^ 64)
        (omega (arith, value-here, value_grows (v * 10 + (get_or s i 0 - 48)) (run is_digit (drop (i + 1) s)))))

-- the number at p, read over the bytes that are left of the text from p on, up to the one at i
module _ (s : List ℕ) (p v i : ℕ) (r : Read s p v (p + i)) where
  pub left-ends : length (drop p s) ≤ i → i ≤ length (drop p s) → p ≤ length s
      → shown s (record { kind = Number v; place = p; after = length s }) ≡ number_token p (run is_digit (drop p s))
  left-ends h l q =
      let e : p + i ≡ length s = omega (arith, length-drop p s) in
      rw (sym e) (number-ends s p v (p + i) r (run_past is_digit s (p + i) (omega (arith, e))))

  module _ (here : i < length (drop p s)) where
    byte : get_or (drop p s) i 0 ≡ get_or s (p + i) 0
    byte = get_or-drop p s i 0

    within : p + i < length s
    within = omega (arith, length-drop p s)

    pub left-stops : is_digit (get_or (drop p s) i 0) ≡ false
        → shown s (record { kind = Number v; place = p; after = p + i }) ≡ number_token p (run is_digit (drop p s))
    left-stops d = number-ends s p v (p + i) r (run-stops is_digit s (p + i) within (ap is_digit (sym byte) ∙ d))

    pub left-goes : is_digit (get_or (drop p s) i 0) ≡ true → (w : ℕ) → w ≡ v * 10 + (get_or (drop p s) i 0 - 48) → w < 2 ^ 64
        → Read s p w (p + (i + 1))
    left-goes d w e f =
        let g : w ≡ v * 10 + (get_or s (p + i) 0 - 48) = e ∙ ap (λ (b : ℕ). v * 10 + (b - 48)) byte in
        let j : p + (i + 1) ≡ p + i + 1 = omega arith in
        rw (g, j) (number-goes s p v (p + i) r within (ap is_digit (sym byte) ∙ d) (rw g at f))

    pub left-large : is_digit (get_or (drop p s) i 0) ≡ true → 2 ^ 64 ≤ v * 10 + (get_or (drop p s) i 0 - 48)
        → knot p ≡ number_token p (run is_digit (drop p s))
    left-large d h = number-large s p v (p + i) r within (ap is_digit (sym byte) ∙ d) (rw byte at h)

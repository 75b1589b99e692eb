-- How far a token reaches: from its place on, within the text, and over a byte at least unless it is the end or a refusal.
-- Assumes nothing.
use mathlib.Core.Path.{◌≡◌, refl, sym, ◌∙◌, ap, ap₂, subst}
use mathlib.Core.Bool.{Bool, true, false, false≢true}
use mathlib.Core.List.{List, [], ◌∷◌}
use Prim.Native.Nat.{ℕ, ◌+◌, ◌-◌, ◌<◌, ◌≤◌, min}
use native.Mathlib.Decide.{dec_le}
use native.Mathlib.Omega.{arith}
use lib.ListN.{length, get_or, drop, length-take, length-drop, drop_of_length-le}
use lib.Seq.{get_or-drop, drop-drop}
use Rattle.lexer.specs.Bytes.{run, is_white, is_digit, is_letter, is_name_byte}
use Rattle.lexer.specs.Tokens.{Word, Token, Placed, taken, untaken, first_token, next_token, token_at, goes_on}
use Rattle.lexer.proofs.Runs.{run_on, run_length, run-passes}
use Rattle.lexer.proofs.View.{First, fits, large, short, long, double, single, nothing, first}

-- a token at p that takes at most m bytes
pub record Sized (p m : ℕ) (t : Placed) : Type 0 where
  pub place : t.place ≡ p
  pub low : p ≤ t.after
  pub high : t.after ≤ p + m
  pub grows : goes_on t.token ≡ true → p < t.after

module _ (p m : ℕ) (t : Placed) where
  taken-sized : (k : Token) (n : ℕ) → 1 ≤ n → n ≤ m → t ≡ taken p k n → Sized p m t
  taken-sized k n a b e =
      subst (Sized p m) (sym e) (record { place = refl; low = omega arith; high = omega arith; grows = λ g. omega arith })

  untaken-sized : (k : Token) → goes_on k ≡ false → t ≡ untaken p k → Sized p m t
  untaken-sized k f e =
      subst (Sized p m) (sym e) (record { place = refl; low = omega arith; high = omega arith; grows = λ g. absurd (false≢true (sym f ∙ g)) })

-- a run that begins at a byte that passes has a byte
run-some : (t : ℕ → Bool) (b : ℕ) (s : List ℕ) → t b ≡ true → 1 ≤ length (run t (b ∷ s))
run-some t b s e = rw (run_on t b s e) (omega arith)

name-some : (b : ℕ) (s : List ℕ) → is_letter b ≡ true → 1 ≤ length (run is_name_byte (b ∷ s))
name-some b s l = run-some is_name_byte b s (rw l)

module _ (R : List Word) where
  view-sized : (p b : ℕ) (s : List ℕ) (t : Placed) → First R p b s t → Sized p (length (b ∷ s)) t
  view-sized p b s t (fits d v e) = taken-sized p _ t _ _ (run-some is_digit b s d) (run_length is_digit (b ∷ s)) e
  view-sized p b s t (large d v e) = untaken-sized p _ t _ refl e
  view-sized p b s t (short d l v e) = taken-sized p _ t _ _ (name-some b s l) (run_length is_name_byte (b ∷ s)) e
  view-sized p b s t (long d l v e) = untaken-sized p _ t _ refl e
  view-sized p b s t (double d l n f e) =
      taken-sized p _ t _ _ (omega (arith, length-take 2 (b ∷ s))) (omega (arith, length-take 2 (b ∷ s))) e
  view-sized p b s t (single d l f n g e) = taken-sized p _ t _ _ (omega arith) (omega arith) e
  view-sized p b s t (nothing d l f g e) = untaken-sized p _ t _ refl e

  pub first-sized : (p : ℕ) (s : List ℕ) → Sized p (length s) (first_token R p s)
  unfolding first_token
  first-sized p [] = untaken-sized p _ _ _ refl refl
  first-sized p (b ∷ s) = view-sized p b s _ (first R p b s)

-- where the token at a position lies: not before the position, within the text, and behind nothing but white space
pub record Lies (s : List ℕ) (at : ℕ) (t : Placed) : Type 0 where
  pub since : at ≤ length s → at ≤ t.place
  pub low : t.place ≤ t.after
  pub high : t.after ≤ length s
  pub grows : goes_on t.token ≡ true → (at ≤ t.place) × (t.place < t.after)
  pub white : (k : ℕ) → at ≤ k → k < t.place → is_white (get_or s k 0) ≡ true

module _ (R : List Word) where
  pub lies : (s : List ℕ) (at : ℕ) → Lies s at (token_at R s at)
  unfolding token_at next_token
  lies s at =
      let n : ℕ = length (run is_white (drop at s)) in
      let z = first-sized R (min at (length s) + n) (drop n (drop at s)) in
      let a : n ≤ length s - at = rw length-drop at (run_length is_white (drop at s)) in
      let l : length (drop n (drop at s)) ≡ length s - at - n = length-drop n (drop at s) ∙ ap (λ (m : ℕ). m - n) (length-drop at s) in
      record {
        since = λ h. omega (arith, z.place);
        low = omega (arith, z.place, z.low);
        high = omega (arith, z.high);
        grows = λ g. (omega (arith, z.place, z.grows g, z.high), omega (arith, z.place, z.grows g));
        white = λ k h g.
            let j : at + (k - at) ≡ k = omega arith in
            ap is_white (sym (get_or-drop at s (k - at) 0 ∙ ap (λ (m : ℕ). get_or s m 0) j))
            ∙ run-passes is_white (drop at s) (k - at) (omega (arith, z.place));
      }

  -- the token at a position is the first of the text from its place on
  pub at_place : (s : List ℕ) (at : ℕ) → token_at R s at ≡ first_token R (token_at R s at).place (drop (token_at R s at).place s)
  unfolding token_at next_token run
  at_place s at =
      let n : ℕ = length (run is_white (drop at s)) in
      let e = (first-sized R (min at (length s) + n) (drop n (drop at s))).place in
      ap₂ (first_token R) (sym e) (sym (ap (λ (p : ℕ). drop p s) e ∙ go (dec_le at (length s))))
    where
      go : Dec (at ≤ length s) → drop (min at (length s) + length (run is_white (drop at s))) s ≡ drop (length (run is_white (drop at s))) (drop at s)
      go (yes h) =
          let m : min at (length s) ≡ at = omega arith in
          ap (λ (i : ℕ). drop (i + length (run is_white (drop at s))) s) m ∙ sym (drop-drop (length (run is_white (drop at s))) at s)
      go (no h) =
          let l : length s ≤ at = omega arith in
          drop_of_length-le s {i = min at (length s) + length (run is_white (drop at s))} (omega arith)
          ∙ sym (ap (λ (u : List ℕ). drop (length (run is_white u)) u) (drop_of_length-le s l))

-- The token at a position, by where the white space from there ends and by the class of the byte there.
-- Assumes nothing.
use mathlib.Core.Path.{◌≡◌, sym, ◌∙◌, ap, ap₂}
use mathlib.Core.Bool.{true, false}
use mathlib.Core.List.{List, []}
use Prim.Native.Nat.{ℕ, ◌+◌, ◌-◌, ◌<◌, ◌≤◌, min}
use native.Mathlib.Decide.{dec_lt}
use native.Mathlib.Omega.{arith}
use lib.ListN.{length, get_or, drop, length-drop, drop_of_length-le}
use lib.Seq.{drop-drop}
use Rattle.lexer.specs.Bytes.{run, is_white, is_digit, is_letter, is_name_byte}
use Rattle.lexer.specs.Tokens.{Word, end, untaken, number_token, name_token, sign_token, first_token, next_token, token_at}
use Rattle.std.proofs.lemmas.List.{drop_more}
use Rattle.lexer.proofs.Runs.{run_length}

-- a position past the end leaves as much as the end
pub drop-min : (at : ℕ) (s : List ℕ) → drop (min at (length s)) s ≡ drop at s
drop-min at s = go (dec_lt at (length s))
  where
    go : Dec (at < length s) → drop (min at (length s)) s ≡ drop at s
    go (yes l) = ap (λ (i : ℕ). drop i s) (omega arith)
    go (no l) = drop_of_length-le s {i = min at (length s)} (omega arith) ∙ sym (drop_of_length-le s {i = at} (omega arith))

module _ (R : List Word) where
  -- where the white space from a position ends
  module _ (s : List ℕ) (at m p : ℕ) (is : m ≡ min at (length s)) (so : p ≡ m + length (run is_white (drop m s))) where
    ends : p ≡ min at (length s) + length (run is_white (drop at s))
    ends = rw drop-min at (rw is at so)

    within : length (run is_white (drop at s)) ≤ length s - at
    within = rw length-drop at (run_length is_white (drop at s))

    pub token_end : length s ≤ p → untaken (length s) end ≡ token_at R s at
    unfolding token_at next_token first_token
    token_end h =
        ap₂ (first_token R) {x = length s} {u = []} (omega (arith, ends, within))
        (sym (drop-drop _ at s ∙ drop_of_length-le s {i = at + length (run is_white (drop at s))} (omega (arith, ends, within))))

    pub token-first : p < length s → first_token R p (drop p s) ≡ token_at R s at
    unfolding token_at next_token
    token-first h =
        let q : p ≡ at + length (run is_white (drop at s)) = omega (arith, ends, within) in
        ap₂ (first_token R) {x = p} {u = drop p s} ends (ap (λ (i : ℕ). drop i s) q ∙ sym (drop-drop _ at s))

  -- by the first byte
  module _ (s : List ℕ) (p : ℕ) (here : p < length s) where
    pub first-digit : is_digit (get_or s p 0) ≡ true → number_token p (run is_digit (drop p s)) ≡ first_token R p (drop p s)
    unfolding first_token
    first-digit d = rw (drop_more s p 0 here, d)

    pub first-letter : is_digit (get_or s p 0) ≡ false → is_letter (get_or s p 0) ≡ true
        → name_token R p (run is_name_byte (drop p s)) ≡ first_token R p (drop p s)
    unfolding first_token
    first-letter d l = rw (drop_more s p 0 here, d, l)

    pub first-sign : is_digit (get_or s p 0) ≡ false → is_letter (get_or s p 0) ≡ false → sign_token p (drop p s) ≡ first_token R p (drop p s)
    unfolding first_token
    first-sign d l = rw (drop_more s p 0 here, d, l)

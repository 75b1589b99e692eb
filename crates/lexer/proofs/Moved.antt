-- A token depends on no byte before it: in a text that begins with other bytes it is the same token, moved by their number.
-- Assumes nothing.
use mathlib.Core.Path.{◌≡◌, refl, sym, ◌∙◌, ap, ap₂}
use mathlib.Core.Bool.{Bool, true, false, cond}
use mathlib.Core.List.{List, [], ◌∷◌, ◌++◌, map}
use Prim.Native.Nat.{ℕ, zero, suc, ◌+◌, ◌-◌, min}
use native.Mathlib.Nat.{add_assoc}
use native.Mathlib.Omega.{arith}
use lib.ListN.{length, drop, length-append}
use lib.Seq.{drop-append-add}
use Rattle.lexer.specs.Bytes.{run, is_white}
use Rattle.lexer.specs.Tokens.{Word, Token, Placed, taken, first_token, next_token, token_at, goes_on, tokens_from, tokens_at}
use Rattle.lexer.proofs.Names.{placed}
use Rattle.lexer.proofs.Order.{from_step}
use Rattle.lexer.proofs.View.{First, fits, large, short, long, double, single, nothing, first, unique}

-- the same token d places on
abbrev pub moved : ℕ → Placed → Placed
moved d t = record { token = t.token; place = d + t.place; after = d + t.after }

taken-moved : (d p : ℕ) (t : Placed) (k : Token) (n : ℕ) → t ≡ taken p k n → moved d t ≡ taken (d + p) k n
taken-moved d p t k n e = ap (moved d) e ∙ placed refl refl (sym (add_assoc d p n))

module _ (R : List Word) where
  view-moved : (d p b : ℕ) (s : List ℕ) (t : Placed) → First R p b s t → First R (d + p) b s (moved d t)
  view-moved d p b s t (fits x v e) = fits x v (taken-moved d p t _ _ e)
  view-moved d p b s t (large x v e) = large x v (ap (moved d) e)
  view-moved d p b s t (short x l v e) = short x l v (taken-moved d p t _ _ e)
  view-moved d p b s t (long x l v e) = long x l v (ap (moved d) e)
  view-moved d p b s t (double x l n f e) = double x l n f (taken-moved d p t _ _ e)
  view-moved d p b s t (single x l f n g e) = single x l f n g (taken-moved d p t _ _ e)
  view-moved d p b s t (nothing x l f g e) = nothing x l f g (ap (moved d) e)

  first-moved : (d p : ℕ) (s : List ℕ) → first_token R (d + p) s ≡ moved d (first_token R p s)
  unfolding first_token
  first-moved d p [] = refl
  first-moved d p (b ∷ s) = sym (unique R (d + p) b s _ (view-moved d p b s _ (first R p b s)))

  pub next-moved : (d p : ℕ) (s : List ℕ) → next_token R (d + p) s ≡ moved d (next_token R p s)
  unfolding next_token
  next-moved d p s =
      ap (λ (m : ℕ). first_token R m (drop (length (run is_white s)) s)) (add_assoc d p (length (run is_white s)))
      ∙ first-moved d (p + length (run is_white s)) (drop (length (run is_white s)) s)

  -- NO BYTE BEFORE. The token at a position of the text s, read in a text where other bytes x stand before s.
  pub token-moved : (x s : List ℕ) (at : ℕ) → token_at R (x ++ s) (length x + at) ≡ moved (length x) (token_at R s at)
  unfolding token_at
  token-moved x s at =
      ap₂ (next_token R) (omega (arith, length-append x s)) (drop-append-add x s at)
      ∙ next-moved (length x) (min at (length s)) (drop at s)

  from-moved : (k : ℕ) (x s : List ℕ) (at : ℕ) → tokens_from R k (x ++ s) (length x + at) ≡ map (moved (length x)) (tokens_from R k s at)
  unfolding tokens_from
  from-moved zero x s at = refl
  from-moved (suc k) x s at =
      from_step R k (x ++ s) (length x + at)
      ∙ ap (λ (t : Placed). t ∷ cond (goes_on t.token) (tokens_from R k (x ++ s) t.after) []) (token-moved x s at)
      ∙ ap (λ (l : List Placed). moved (length x) (token_at R s at) ∷ l) (go (goes_on (token_at R s at).token) (from-moved k x s (token_at R s at).after))
      ∙ ap (map (moved (length x))) (sym (from_step R k s at))
    where
      go : (t : Bool) → tokens_from R k (x ++ s) (length x + (token_at R s at).after) ≡ map (moved (length x)) (tokens_from R k s (token_at R s at).after)
          → cond t (tokens_from R k (x ++ s) (length x + (token_at R s at).after)) [] ≡ map (moved (length x)) (cond t (tokens_from R k s (token_at R s at).after) [])
      go true e = e
      go false e = refl

  pub tokens-moved : (x s : List ℕ) (at : ℕ) → tokens_at R (x ++ s) (length x + at) ≡ map (moved (length x)) (tokens_at R s at)
  unfolding tokens_at
  tokens-moved x s at =
      ap (λ (k : ℕ). tokens_from R (suc k) (x ++ s) (length x + at)) (omega (arith, length-append x s))
      ∙ from-moved (suc (length s - at)) x s at

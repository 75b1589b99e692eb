-- The list of tokens, one after the other: each is the token at the place after the one before it.
-- The tokens do not overlap and lie in order, and between them there is only white space.
-- Assumes nothing.
use mathlib.Core.Path.{◌≡◌, refl, sym, ◌∙◌, ap, subst}
use mathlib.Core.Bool.{Bool, true, false, cond}
use mathlib.Core.List.{List, [], ◌∷◌}
use Prim.Native.Nat.{ℕ, zero, suc, ◌-◌, ◌<◌, ◌≤◌}
use native.Mathlib.Nat.{not-suc-le-zero}
use native.Mathlib.Omega.{arith}
use lib.ListN.{length, get_or}
use Rattle.lexer.specs.Bytes.{is_white}
use Rattle.lexer.specs.Tokens.{Word, Placed, token_at, goes_on, tokens_from, tokens_at, tokens}
use Rattle.lexer.proofs.Sized.{Lies, lies}

module _ (R : List Word) where
  -- one step of `tokens_from`
  pub from_step : (k : ℕ) (s : List ℕ) (at : ℕ)
      → tokens_from R (suc k) s at ≡ token_at R s at ∷ cond (goes_on (token_at R s at).token) (tokens_from R k s (token_at R s at).after) []
  unfolding tokens_from
  from_step k s at = go (goes_on (token_at R s at).token) refl
    where
      go : (t : Bool) → goes_on (token_at R s at).token ≡ t
          → tokens_from R (suc k) s at ≡ token_at R s at ∷ cond (goes_on (token_at R s at).token) (tokens_from R k s (token_at R s at).after) []
      go true e = rw e
      go false e = rw e

  -- any count above the bytes that are left gives the whole list
  enough : (j k : ℕ) (s : List ℕ) (at : ℕ) → length s - at < j → length s - at < k → tokens_from R j s at ≡ tokens_from R k s at
  enough zero k s at h g = absurd (not-suc-le-zero h)
  enough (suc j) zero s at h g = absurd (not-suc-le-zero g)
  enough (suc j) (suc k) s at h g =
      from_step j s at
      ∙ ap (λ (l : List Placed). token_at R s at ∷ l) (go (goes_on (token_at R s at).token) refl (enough j k s (token_at R s at).after))
      ∙ sym (from_step k s at)
    where
      go : (t : Bool) → goes_on (token_at R s at).token ≡ t
          → (length s - (token_at R s at).after < j → length s - (token_at R s at).after < k → tokens_from R j s (token_at R s at).after ≡ tokens_from R k s (token_at R s at).after)
          → cond t (tokens_from R j s (token_at R s at).after) [] ≡ cond t (tokens_from R k s (token_at R s at).after) []
      go true e ih =
          let l = lies R s at in
          ih (omega (arith, l.grows e, l.high)) (omega (arith, l.grows e, l.high))
      go false e ih = refl

  -- THE LIST. From a position on it is the token there, and unless that is the end or a refusal the list from the place after it on.
  pub tokens-step : (s : List ℕ) (at : ℕ)
      → tokens_at R s at ≡ token_at R s at ∷ cond (goes_on (token_at R s at).token) (tokens_at R s (token_at R s at).after) []
  unfolding tokens_at
  tokens-step s at =
      from_step (length s - at) s at
      ∙ ap (λ (l : List Placed). token_at R s at ∷ l) (go (goes_on (token_at R s at).token) refl)
    where
      go : (t : Bool) → goes_on (token_at R s at).token ≡ t
          → cond t (tokens_from R (length s - at) s (token_at R s at).after) [] ≡ cond t (tokens_at R s (token_at R s at).after) []
      go true e =
          let l = lies R s at in
          enough (length s - at) (suc (length s - (token_at R s at).after)) s (token_at R s at).after (omega (arith, l.grows e, l.high)) (omega arith)
      go false e = refl

-- ORDER. Each token lies where the one before it ends or later, and within the text; all but the last take a byte or more.
unfoldable pub InOrder : List ℕ → ℕ → List Placed → Type 0
InOrder s at [] = Unit {0}
InOrder s at (t ∷ ts) =
    (at ≤ t.place) × (t.place ≤ t.after) × (goes_on t.token ≡ true → t.place < t.after) × (t.after ≤ length s) × InOrder s t.after ts

-- WHITE SPACE. Between the tokens, before the first and before the end, there is only white space.
unfoldable pub Spaced : List ℕ → ℕ → List Placed → Type 0
Spaced s at [] = Unit {0}
Spaced s at (t ∷ ts) = ((k : ℕ) → at ≤ k → k < t.place → is_white (get_or s k 0) ≡ true) × Spaced s t.after ts

module _ (R : List Word) where
  -- what holds of each token by where it lies, and of the empty list, holds of all of them
  module _ (s : List ℕ) (P : ℕ → List Placed → Type 0) (none : (at : ℕ) → P at [])
      (more : (at : ℕ) (ts : List Placed) → at ≤ length s → Lies s at (token_at R s at) → P (token_at R s at).after ts → P at (token_at R s at ∷ ts)) where
    pub each_from : (k at : ℕ) → at ≤ length s → P at (tokens_from R k s at)
    unfolding tokens_from
    each_from zero at h = none at
    each_from (suc k) at h =
        subst (P at) (sym (from_step R k s at)) (go (goes_on (token_at R s at).token) (each_from k (token_at R s at).after (lies R s at).high))
      where
        go : (t : Bool) → P (token_at R s at).after (tokens_from R k s (token_at R s at).after)
            → P at (token_at R s at ∷ cond t (tokens_from R k s (token_at R s at).after) [])
        go true p = more at _ h (lies R s at) p
        go false p = more at _ h (lies R s at) (none _)

    pub each-token : P 0 (tokens R s)
    unfolding tokens_at
    each-token = each_from _ 0 (omega arith)

  pub in-order-from : (s : List ℕ) (k at : ℕ) → at ≤ length s → InOrder s at (tokens_from R k s at)
  unfolding InOrder
  in-order-from s = each_from s (InOrder s) (λ at. tt) (λ at ts h l o. (l.since h, l.low, λ g. (l.grows g).1, l.high, o))

  pub in_order : (s : List ℕ) → InOrder s 0 (tokens R s)
  unfolding tokens_at
  in_order s = in-order-from s _ 0 (omega arith)

  pub spaced : (s : List ℕ) → Spaced s 0 (tokens R s)
  unfolding Spaced
  spaced s = each-token s (Spaced s) (λ at. tt) (λ at ts h l o. (l.white, o))

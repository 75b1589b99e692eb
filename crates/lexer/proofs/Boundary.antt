-- Tokens that are parted without white space: where a token of x followed by y ends with x, the tokens are those of x and then those of y.
-- So white space may be put there, and taken away again, and changes no token.
-- Assumes nothing.
use mathlib.Core.Path.{◌≡◌, refl, sym, ◌∙◌, ap, ap₂, subst}
use mathlib.Core.Bool.{Bool, true, false, cond}
use mathlib.Core.List.{List, [], ◌∷◌, ◌++◌, map, append_assoc}
use mathlib.Core.Logic.{◌⊎◌, inl, inr}
use Prim.Native.Nat.{ℕ, zero, suc, ◌+◌, ◌<◌, ◌≤◌}
use native.Mathlib.Nat.{add-zero}
use native.Mathlib.Omega.{arith}
use lib.ListN.{length, take, drop, length-append, length-drop}
use lib.Seq.{drop-length}
use Rattle.lexer.specs.Bytes.{run, lookup, is_white, is_digit, is_name_byte}
use mathlib.Core.Option.{some}
use Rattle.lexer.specs.Signs.{signs}
use Rattle.lexer.specs.Tokens.{Word, Token, name, word, number, sign, end, refused, Placed, taken, first_token, next_token, token_at, goes_on, tokens_from, tokens_at, tokens}
use Rattle.lexer.proofs.Bools.{clash}
use Rattle.lexer.proofs.Runs.{all, run-front}
use Rattle.lexer.proofs.View.{First, fits, large, short, long, double, single, nothing, first, unique}
use Rattle.lexer.proofs.Sized.{lies, first-sized}
use Rattle.lexer.proofs.Order.{from_step, tokens-step, InOrder, in-order-from}
use Rattle.lexer.proofs.Moved.{moved, tokens-moved}
use Rattle.lexer.proofs.Parted.{Split, blank, stops, split, next-skip, next-first, at_front, at_only, next-blank, is_end, joined, kinds, kinds-moved, kinds-joined, tokens-parted}

module _ (R : List Word) where
  -- a token that ends within the first part of a text is that part's
  module _ (p b : ℕ) (y : List ℕ) where
    view-front : (u : List ℕ) (t : Placed) → First R p b (u ++ y) t → goes_on t.token ≡ true → t.after ≤ p + length (b ∷ u) → First R p b u t
    view-front u t (fits d v e) g h =
        let r : run is_digit (b ∷ u) ≡ run is_digit (b ∷ (u ++ y)) = run-front is_digit (b ∷ u) y (omega (arith, ap (λ (t : Placed). t.after) e)) in
        fits d (rw r v) (rw r e)
    view-front u t (large d v e) g h = clash _ g (ap (λ (t : Placed). goes_on t.token) e)
    view-front u t (short d l v e) g h =
        let r : run is_name_byte (b ∷ u) ≡ run is_name_byte (b ∷ (u ++ y)) = run-front is_name_byte (b ∷ u) y (omega (arith, ap (λ (t : Placed). t.after) e)) in
        short d l (rw r v) (rw r e)
    view-front u t (long d l v e) g h = clash _ g (ap (λ (t : Placed). goes_on t.token) e)
    view-front u t (double d l n f e) g h = two u y f e h
      where
        two : (u y : List ℕ) → lookup (take 2 (b ∷ (u ++ y))) signs ≡ some n → t ≡ taken p (sign n) (length (take 2 (b ∷ (u ++ y)))) → t.after ≤ p + length (b ∷ u) → First R p b u t
        two [] [] f e h = double d l n f e
        two [] (c ∷ y) f e h = absurd (omega (arith, ap (λ (t : Placed). t.after) e))
        two (c ∷ u) y f e h = double d l n f e
    view-front [] t (single d l f n z e) g h = double d l n z e
    view-front (c ∷ u) t (single d l f n z e) g h = single d l f n z e
    view-front u t (nothing d l f z e) g h = clash _ g (ap (λ (t : Placed). goes_on t.token) e)

    first-front : (u : List ℕ) → goes_on (first_token R p (b ∷ (u ++ y))).token ≡ true → (first_token R p (b ∷ (u ++ y))).after ≤ p + length (b ∷ u)
        → first_token R p (b ∷ (u ++ y)) ≡ first_token R p (b ∷ u)
    first-front u g h = unique R p b u _ (view-front u _ (first R p b (u ++ y)) g h)

  -- a token ends past the place where the reading begins
  past : (q : ℕ) (y : List ℕ) → goes_on (next_token R q y).token ≡ true → q < (next_token R q y).after
  unfolding next_token
  past q y g = omega (arith, (first-sized R (q + length (run is_white y)) (drop (length (run is_white y)) y)).grows g)

  next-front : (p : ℕ) (u y : List ℕ) → goes_on (next_token R p (u ++ y)).token ≡ true → (next_token R p (u ++ y)).after ≤ p + length u
      → next_token R p (u ++ y) ≡ next_token R p u
  next-front p u y g h = go (split u)
    where
      go : Split u → next_token R p (u ++ y) ≡ next_token R p u
      go (blank a) =
          let e = next-skip R p u y a in
          absurd (omega (arith, past (p + length u) y (ap (λ (t : Placed). goes_on t.token) (sym e) ∙ g), ap (λ (t : Placed). t.after) e))
      go (stops v b r a w q) =
          let e = ap (λ (l : List ℕ). next_token R p (l ++ y)) q ∙ ap (next_token R p) (append_assoc v (b ∷ r) y) ∙ next-skip R p v (b ∷ (r ++ y)) a ∙ next-first R (p + length v) b (r ++ y) w in
          let f = ap (next_token R p) q ∙ next-skip R p v (b ∷ r) a ∙ next-first R (p + length v) b r w in
          e
          ∙ first-front (p + length v) b y r (ap (λ (t : Placed). goes_on t.token) (sym e) ∙ g)
          (omega (arith, ap (λ (t : Placed). t.after) e, ap length q, length-append v (b ∷ r)))
          ∙ sym f

  pub token-front : (x y : List ℕ) (at : ℕ) → at ≤ length x → goes_on (token_at R (x ++ y) at).token ≡ true → (token_at R (x ++ y) at).after ≤ length x
      → token_at R (x ++ y) at ≡ token_at R x at
  token-front x y at h g l =
      let e = at_front R x y at h in
      e
      ∙ next-front at (drop at x) y (ap (λ (t : Placed). goes_on t.token) (sym e) ∙ g) (omega (arith, ap (λ (t : Placed). t.after) e, length-drop at x))
      ∙ sym (at_only R x at h)

-- a token of the list ends at n
unfoldable pub Ends : ℕ → List Placed → Type 0
Ends n [] = ⊥
Ends n (t ∷ ts) = ((goes_on t.token ≡ true) × (t.after ≡ n)) ⊎ Ends n ts

ends-later : (s : List ℕ) (at n : ℕ) (ts : List Placed) → InOrder s at ts → Ends n ts → at ≤ n
unfolding InOrder Ends
ends-later s at n [] o e = absurd e
ends-later s at n (t ∷ ts) o (inl e) = omega (arith, o.0, o.1, e.1)
ends-later s at n (t ∷ ts) o (inr e) = omega (arith, o.0, o.1, ends-later s t.after n ts o.4 e)

pub goes-no-end : (k : Token) → goes_on k ≡ true → is_end k ≡ false
goes-no-end (name s) g = refl
goes-no-end (word w) g = refl
goes-no-end (number n) g = refl
goes-no-end (sign n) g = refl
goes-no-end end g = sym g
goes-no-end (refused n) g = refl

module _ (R : List Word) where
  module _ (x y : List ℕ) where
    rest : List Placed
    rest = map (moved (length x)) (tokens R y)

    -- at the end of x
    at-boundary : tokens_at R (x ++ y) (length x) ≡ joined (tokens_at R x (length x)) rest
    unfolding rest joined
    at-boundary =
        ap (tokens_at R (x ++ y)) (sym (add-zero (length x)))
        ∙ tokens-moved R x y 0
        ∙ sym
        (ap (λ (l : List Placed). joined l rest) (tokens-step R x (length x))
        ∙ rw
        (ap (λ (t : Placed). is_end t.token) (at_only R x (length x) (omega arith))
        ∙ next-blank R (length x) (drop (length x) x) (ap (all is_white) (drop-length x))))

    -- one token of x, and the same after it
    goes_on_lem : (at : ℕ) → at ≤ length x → goes_on (token_at R (x ++ y) at).token ≡ true → (token_at R (x ++ y) at).after ≤ length x
        → tokens_at R (x ++ y) (token_at R (x ++ y) at).after ≡ joined (tokens_at R x (token_at R (x ++ y) at).after) rest
        → tokens_at R (x ++ y) at ≡ joined (tokens_at R x at) rest
    unfolding joined
    goes_on_lem at h g l e =
        let t = token-front R x y at h g l in
        let g' = ap (λ (t : Placed). goes_on t.token) (sym t) ∙ g in
        tokens-step R (x ++ y) at
        ∙ ap (λ (b : Bool). token_at R (x ++ y) at ∷ cond b (tokens_at R (x ++ y) (token_at R (x ++ y) at).after) []) g
        ∙ ap₂ (λ (t : Placed) (l : List Placed). t ∷ l) t (e ∙ ap (λ (t : Placed). joined (tokens_at R x t.after) rest) t)
        ∙ sym (ap (λ (l : List Placed). joined l rest) (tokens-step R x at) ∙ rw (goes-no-end (token_at R x at).token g', g'))

    bounded-from : (k at : ℕ) → at ≤ length x → Ends (length x) (tokens_from R k (x ++ y) at) → tokens_at R (x ++ y) at ≡ joined (tokens_at R x at) rest
    unfolding Ends tokens_from
    bounded-from zero at h e = absurd e
    bounded-from (suc k) at h e = go (subst (Ends (length x)) (from_step R k (x ++ y) at) e) (bounded-from k (token_at R (x ++ y) at).after)
      where
        T : Placed
        T = token_at R (x ++ y) at

        later : (b : Bool) → goes_on T.token ≡ b → Ends (length x) (cond b (tokens_from R k (x ++ y) T.after) [])
            → (T.after ≤ length x → Ends (length x) (tokens_from R k (x ++ y) T.after) → tokens_at R (x ++ y) T.after ≡ joined (tokens_at R x T.after) rest)
            → tokens_at R (x ++ y) at ≡ joined (tokens_at R x at) rest
        later false g z ih = absurd z
        later true g z ih =
            let l = ends-later (x ++ y) T.after (length x) _ (in-order-from R (x ++ y) k T.after (lies R (x ++ y) at).high) z in
            goes_on_lem at h g l (ih l z)

        go : ((goes_on T.token ≡ true) × (T.after ≡ length x)) ⊎ Ends (length x) (cond (goes_on T.token) (tokens_from R k (x ++ y) T.after) [])
            → (T.after ≤ length x → Ends (length x) (tokens_from R k (x ++ y) T.after) → tokens_at R (x ++ y) T.after ≡ joined (tokens_at R x T.after) rest)
            → tokens_at R (x ++ y) at ≡ joined (tokens_at R x at) rest
        go (inl z) ih = goes_on_lem at h z.0 (omega (arith, z.1)) (subst (λ (n : ℕ). tokens_at R (x ++ y) n ≡ joined (tokens_at R x n) rest) (sym z.1) at-boundary)
        go (inr z) ih = later (goes_on T.token) refl z ih

  -- PARTED BY THEMSELVES. Where a token of x and y together ends with x, the tokens are those of x and, instead of x's end, those of y, moved.
  pub tokens-bounded : (x y : List ℕ) → Ends (length x) (tokens R (x ++ y)) → tokens R (x ++ y) ≡ joined (tokens R x) (map (moved (length x)) (tokens R y))
  unfolding rest tokens_at
  tokens-bounded x y e = bounded-from x y _ 0 (omega arith) e

  -- WHITE SPACE PUT IN OR TAKEN AWAY. Where a token ends, white space changes no token.
  pub white-added : (x w y : List ℕ) → Ends (length x) (tokens R (x ++ y)) → 0 < length w → all is_white w ≡ true
      → kinds (tokens R (x ++ y)) ≡ kinds (tokens R (x ++ (w ++ y)))
  white-added x w y e h a =
      ap kinds (tokens-bounded x y e)
      ∙ kinds-joined (tokens R x) _ _ (kinds-moved (length x) (tokens R y) ∙ sym (kinds-moved (length (x ++ w)) (tokens R y)))
      ∙ sym (ap kinds (tokens-parted R x w y h a))

-- White space between two tokens may be changed: the tokens of a text with white space in its middle are those of what stands before
-- the white space, and those of what stands after it, moved.
-- Assumes nothing.
use mathlib.Core.Path.{◌≡◌, refl, sym, ◌∙◌, ap, ap₂}
use mathlib.Core.Bool.{Bool, true, false, cond, not, true≢false}
use mathlib.Core.List.{List, [], ◌∷◌, ◌++◌, map, append_assoc, append-nil}
use mathlib.Core.Option.{Option, none, some, none-ne-some}
use Prim.Native.Nat.{ℕ, zero, suc, ◌+◌, ◌-◌, ◌<◌, ◌≤◌}
use native.Mathlib.Nat.{add-zero, not-suc-le-zero}
use native.Mathlib.Omega.{arith}
use lib.ListN.{length, drop, length-append, length-drop}
use lib.Seq.{drop-append-add, drop-append-le, drop-length}
use Rattle.lexer.specs.Bytes.{any, run, lookup, is_white, is_digit, is_name_byte}
use Rattle.lexer.specs.Signs.{signs}
use Rattle.lexer.specs.Tokens.{Word, Token, name, word, number, sign, end, refused, Placed, entries, or_name, first_token, next_token, token_at, goes_on, tokens_from, tokens_at, tokens}
use Rattle.lexer.proofs.Bools.{and_left, and_right, or-true}
use Rattle.lexer.proofs.ByteClass.{white-no-digit, white-no-letter}
use Rattle.lexer.proofs.Runs.{all, run-off, run-all, run-cut}
use Rattle.lexer.proofs.Spelling.{lookup-passes}
use Rattle.lexer.proofs.View.{First, fits, large, short, long, double, single, nothing, first, unique}
use Rattle.lexer.proofs.Sized.{lies}
use Rattle.lexer.proofs.Order.{from_step, tokens-step}
use Rattle.lexer.proofs.Moved.{moved, tokens-moved}

-- no sign has white space in it
no-white : (b c : ℕ) → is_white c ≡ true → lookup (b ∷ c ∷ []) signs ≡ none
unfolding is_white
no-white b c w = go (lookup (b ∷ c ∷ []) signs) refl
  where
    go : (o : Option ℕ) → lookup (b ∷ c ∷ []) signs ≡ o → o ≡ none
    go none e = refl
    go (some n) e =
        absurd
        (true≢false
        (sym (lookup-passes (λ x. not (any is_white x)) (b ∷ c ∷ []) signs n refl e)
        ∙ rw (w, or-true (is_white b))))

module _ (R : List Word) where
  -- a token that white space follows is the same whatever follows the white space
  module _ (p b c : ℕ) (r : List ℕ) (w : is_white c ≡ true) where
    digits-cut : (u : List ℕ) → run is_digit (b ∷ (u ++ c ∷ r)) ≡ run is_digit (b ∷ u)
    digits-cut u = run-cut is_digit (b ∷ u) c r (white-no-digit c w)

    names-cut : (u : List ℕ) → run is_name_byte (b ∷ (u ++ c ∷ r)) ≡ run is_name_byte (b ∷ u)
    names-cut u = run-cut is_name_byte (b ∷ u) c r (rw (white-no-letter c w) (white-no-digit c w))

    view-cut : (u : List ℕ) (t : Placed) → First R p b u t → First R p b (u ++ c ∷ r) t
    view-cut u t (fits d v e) = fits d (rw (digits-cut u) v) (rw (digits-cut u) e)
    view-cut u t (large d v e) = large d (rw (digits-cut u) v) e
    view-cut u t (short d l v e) = short d l (rw (names-cut u) v) (rw (names-cut u) e)
    view-cut u t (long d l v e) = long d l (rw (names-cut u) v) e
    view-cut [] t (double d l n f e) = single d l (no-white b c w) n f e
    view-cut (x ∷ u) t (double d l n f e) = double d l n f e
    view-cut [] t (single d l f n g e) = absurd (none-ne-some n (sym f ∙ g))
    view-cut (x ∷ u) t (single d l f n g e) = single d l f n g e
    view-cut [] t (nothing d l f g e) = nothing d l (no-white b c w) g e
    view-cut (x ∷ u) t (nothing d l f g e) = nothing d l f g e

    first-cut : (u : List ℕ) → first_token R p (b ∷ (u ++ c ∷ r)) ≡ first_token R p (b ∷ u)
    first-cut u = sym (unique R p b (u ++ c ∷ r) _ (view-cut u _ (first R p b u)))

-- a text is white space, or white space before another byte
pub data Split (u : List ℕ) : Type 0 where
  blank : all is_white u ≡ true → Split u
  stops : (v : List ℕ) (b : ℕ) (r : List ℕ) → all is_white v ≡ true → is_white b ≡ false → u ≡ v ++ b ∷ r → Split u

pub split : (u : List ℕ) → Split u
split [] = blank refl
split (b ∷ u) = go (is_white b) refl (split u)
  where
    go : (t : Bool) → is_white b ≡ t → Split u → Split (b ∷ u)
    go false e s = stops [] b u refl e refl
    go true e (blank h) = blank (rw e h)
    go true e (stops v x r h f q) = stops (b ∷ v) x r (rw e h) f (ap (λ (l : List ℕ). b ∷ l) q)

module _ (R : List Word) where
  -- white space before a token is passed over
  pub next-skip : (p : ℕ) (w u : List ℕ) → all is_white w ≡ true → next_token R p (w ++ u) ≡ next_token R (p + length w) u
  unfolding next_token
  next-skip p w u h =
      let n : length (run is_white (w ++ u)) ≡ length w + length (run is_white u) = ap length (run-all is_white w u h) ∙ length-append w (run is_white u) in
      ap₂ (first_token R) (omega (arith, n)) (ap (λ (m : ℕ). drop m (w ++ u)) n ∙ drop-append-add w u (length (run is_white u)))

  pub next-first : (p b : ℕ) (u : List ℕ) → is_white b ≡ false → next_token R p (b ∷ u) ≡ first_token R p (b ∷ u)
  unfolding next_token
  next-first p b u e = rw (run-off is_white b u e) (ap (λ (m : ℕ). first_token R m (b ∷ u)) (add-zero p))

  next-cut : (p : ℕ) (v : List ℕ) (b : ℕ) (u : List ℕ) (c : ℕ) (r : List ℕ) → all is_white v ≡ true → is_white b ≡ false → is_white c ≡ true
      → next_token R p ((v ++ b ∷ u) ++ c ∷ r) ≡ next_token R p (v ++ b ∷ u)
  next-cut p v b u c r h e w =
      ap (next_token R p) (append_assoc v (b ∷ u) (c ∷ r))
      ∙ next-skip p v (b ∷ (u ++ c ∷ r)) h
      ∙ next-first (p + length v) b (u ++ c ∷ r) e
      ∙ first-cut R (p + length v) b c r w u
      ∙ sym (next-first (p + length v) b u e)
      ∙ sym (next-skip p v (b ∷ u) h)

abbrev pub is_end : Token → Bool
is_end (name s) = false
is_end (word w) = false
is_end (number n) = false
is_end (sign n) = false
is_end end = true
is_end (refused n) = false

-- the tokens of one text, then instead of its end the tokens r
unfoldable pub joined : List Placed → List Placed → List Placed
joined [] r = []
joined (t ∷ ts) r = cond (is_end t.token) r (t ∷ joined ts r)

module _ (R : List Word) where
  pub view-no-end : (p b : ℕ) (s : List ℕ) (t : Placed) → First R p b s t → is_end t.token ≡ false
  view-no-end p b s t (fits d v e) = ap (λ (t : Placed). is_end t.token) e
  view-no-end p b s t (large d v e) = ap (λ (t : Placed). is_end t.token) e
  view-no-end p b s t (short d l v e) = ap (λ (t : Placed). is_end t.token) e ∙ go (lookup (run is_name_byte (b ∷ s)) (entries R))
    where
      go : (o : Option Word) → is_end (or_name (run is_name_byte (b ∷ s)) o) ≡ false
      go none = refl
      go (some w) = refl
  view-no-end p b s t (long d l v e) = ap (λ (t : Placed). is_end t.token) e
  view-no-end p b s t (double d l n f e) = ap (λ (t : Placed). is_end t.token) e
  view-no-end p b s t (single d l f n g e) = ap (λ (t : Placed). is_end t.token) e
  view-no-end p b s t (nothing d l f g e) = ap (λ (t : Placed). is_end t.token) e

  pub next-no-end : (p : ℕ) (v : List ℕ) (b : ℕ) (u : List ℕ) → all is_white v ≡ true → is_white b ≡ false → is_end (next_token R p (v ++ b ∷ u)).token ≡ false
  next-no-end p v b u h e =
      ap (λ (t : Placed). is_end t.token) (next-skip R p v (b ∷ u) h ∙ next-first R (p + length v) b u e)
      ∙ view-no-end (p + length v) b u _ (first R (p + length v) b u)

  -- the token at a position of the first part of a text
  pub at_front : (x z : List ℕ) (at : ℕ) → at ≤ length x → token_at R (x ++ z) at ≡ next_token R at (drop at x ++ z)
  unfolding token_at
  at_front x z at h = ap₂ (next_token R) (omega (arith, length-append x z)) (drop-append-le at x z h)

  pub at_only : (x : List ℕ) (at : ℕ) → at ≤ length x → token_at R x at ≡ next_token R at (drop at x)
  unfolding token_at
  at_only x at h = ap (λ (m : ℕ). next_token R m (drop at x)) (omega arith)

  pub next-blank : (p : ℕ) (u : List ℕ) → all is_white u ≡ true → is_end (next_token R p u).token ≡ true
  unfolding next_token first_token run
  next-blank p u h = ap (λ (t : Placed). is_end t.token) (ap (next_token R p) (sym (append-nil u)) ∙ next-skip R p u [] h)

  -- the parts x and y with the white space c ∷ w between them
  module _ (x : List ℕ) (c : ℕ) (w y : List ℕ) (wc : is_white c ≡ true) (ww : all is_white w ≡ true) where
    whole : List ℕ
    whole = x ++ (c ∷ w ++ y)

    rest : List Placed
    rest = map (moved (length (x ++ (c ∷ w)))) (tokens R y)

    at_rest : token_at R whole (length (x ++ (c ∷ w))) ≡ next_token R (length (x ++ (c ∷ w))) y
    unfolding whole
    at_rest =
        ap (λ (l : List ℕ). token_at R l (length (x ++ (c ∷ w)))) (sym (append_assoc x (c ∷ w) y))
        ∙ at_front (x ++ (c ∷ w)) y (length (x ++ (c ∷ w))) (omega arith)
        ∙ ap (λ (l : List ℕ). next_token R (length (x ++ (c ∷ w))) (l ++ y)) (drop-length (x ++ (c ∷ w)))

    from-rest : tokens_at R whole (length (x ++ (c ∷ w))) ≡ rest
    unfolding whole rest
    from-rest =
        ap₂ (tokens_at R) (sym (append_assoc x (c ∷ w) y)) (sym (add-zero (length (x ++ (c ∷ w)))))
        ∙ tokens-moved R (x ++ (c ∷ w)) y 0

    same-list : (at n : ℕ) → token_at R whole at ≡ token_at R whole n → tokens_at R whole at ≡ tokens_at R whole n
    same-list at n e =
        tokens-step R whole at
        ∙ ap (λ (t : Placed). t ∷ cond (goes_on t.token) (tokens_at R whole t.after) []) e
        ∙ sym (tokens-step R whole n)

    blank_part : (k at : ℕ) → at ≤ length x → all is_white (drop at x) ≡ true → tokens_at R whole at ≡ joined (tokens_from R (suc k) x at) rest
    unfolding whole joined
    blank_part k at h b =
        let n : at + length (drop at x) + length (c ∷ w) ≡ length (x ++ (c ∷ w)) = omega (arith, length-drop at x, length-append x (c ∷ w)) in
        same-list at (length (x ++ (c ∷ w)))
        (at_front x (c ∷ w ++ y) at h
        ∙ next-skip R at (drop at x) (c ∷ w ++ y) b
        ∙ next-skip R (at + length (drop at x)) (c ∷ w) y (rw wc ww)
        ∙ ap (λ (m : ℕ). next_token R m y) n
        ∙ sym at_rest)
        ∙ from-rest
        ∙ sym
        (ap (λ (l : List Placed). joined l rest) (from_step R k x at)
        ∙ rw (ap (λ (t : Placed). is_end t.token) (at_only x at h) ∙ next-blank at (drop at x) b))

    -- the token at a position of x where not all is blank
    same-token : (at : ℕ) → at ≤ length x → (v : List ℕ) (b : ℕ) (r : List ℕ) → all is_white v ≡ true → is_white b ≡ false → drop at x ≡ v ++ b ∷ r
        → (token_at R whole at ≡ token_at R x at) × (is_end (token_at R x at).token ≡ false)
    unfolding whole
    same-token at h v b r a e q = (
      at_front x (c ∷ w ++ y) at h
          ∙ ap (λ (l : List ℕ). next_token R at (l ++ (c ∷ w ++ y))) q
          ∙ next-cut R at v b r c (w ++ y) a e wc
          ∙ ap (next_token R at) (sym q)
          ∙ sym (at_only x at h),
      ap (λ (t : Placed). is_end t.token) (at_only x at h ∙ ap (next_token R at) q) ∙ next-no-end at v b r a e,
    )

    joined-from : (k at : ℕ) → at ≤ length x → length x - at < k → tokens_at R whole at ≡ joined (tokens_from R k x at) rest
    unfolding joined
    joined-from zero at h g = absurd (not-suc-le-zero g)
    joined-from (suc k) at h g = go (split (drop at x)) (joined-from k (token_at R x at).after (lies R x at).high)
      where
        more : (t : Bool) → goes_on (token_at R x at).token ≡ t → (length x - (token_at R x at).after < k → tokens_at R whole (token_at R x at).after ≡ joined (tokens_from R k x (token_at R x at).after) rest)
            → cond t (tokens_at R whole (token_at R x at).after) [] ≡ joined (cond t (tokens_from R k x (token_at R x at).after) []) rest
        more true e ih = ih (omega (arith, (lies R x at).grows e, (lies R x at).high))
        more false e ih = refl

        go : Split (drop at x) → (length x - (token_at R x at).after < k → tokens_at R whole (token_at R x at).after ≡ joined (tokens_from R k x (token_at R x at).after) rest)
            → tokens_at R whole at ≡ joined (tokens_from R (suc k) x at) rest
        go (blank b) ih = blank_part k at h b
        go (stops v b r a e q) ih =
            let t = same-token at h v b r a e q in
            tokens-step R whole at
            ∙ ap (λ (t : Placed). t ∷ cond (goes_on t.token) (tokens_at R whole t.after) []) t.0
            ∙ ap (λ (l : List Placed). token_at R x at ∷ l) (more (goes_on (token_at R x at).token) refl ih)
            ∙ sym (ap (λ (l : List Placed). joined l rest) (from_step R k x at) ∙ rw t.1)

  -- WHITE SPACE IN THE MIDDLE. The tokens of x, white space and y are those of x and, instead of x's end, those of y, moved.
  pub tokens-parted : (x w y : List ℕ) → 0 < length w → all is_white w ≡ true
      → tokens R (x ++ (w ++ y)) ≡ joined (tokens R x) (map (moved (length (x ++ w))) (tokens R y))
  unfolding whole rest tokens_at
  tokens-parted x [] y h e = absurd (not-suc-le-zero h)
  tokens-parted x (c ∷ w) y h e =
      joined-from x c w y (and_left (is_white c) (all is_white w) e) (and_right (is_white c) (all is_white w) e) (suc (length x - 0)) 0 (omega arith) (omega arith)

-- the tokens alone, without their places
abbrev pub kinds : List Placed → List Token
kinds ts = map (λ t. t.token) ts

pub kinds-moved : (d : ℕ) (ts : List Placed) → kinds (map (moved d) ts) ≡ kinds ts
kinds-moved d [] = refl
kinds-moved d (t ∷ ts) = ap (λ (l : List Token). t.token ∷ l) (kinds-moved d ts)

pub kinds-joined : (ts r q : List Placed) → kinds r ≡ kinds q → kinds (joined ts r) ≡ kinds (joined ts q)
unfolding joined
kinds-joined [] r q e = refl
kinds-joined (t ∷ ts) r q e = go (is_end t.token) (kinds-joined ts r q e)
  where
    go : (b : Bool) → kinds (joined ts r) ≡ kinds (joined ts q) → kinds (cond b r (t ∷ joined ts r)) ≡ kinds (cond b q (t ∷ joined ts q))
    go true ih = e
    go false ih = ap (λ (l : List Token). t.token ∷ l) ih

module _ (R : List Word) where
  -- CHANGED WHITE SPACE. White space between two parts of a text may be exchanged for other white space: no token changes.
  pub white-changed : (x w v y : List ℕ) → 0 < length w → all is_white w ≡ true → 0 < length v → all is_white v ≡ true
      → kinds (tokens R (x ++ (w ++ y))) ≡ kinds (tokens R (x ++ (v ++ y)))
  white-changed x w v y hw ew hv ev =
      ap kinds (tokens-parted R x w y hw ew)
      ∙ kinds-joined (tokens R x) _ _ (kinds-moved (length (x ++ w)) (tokens R y) ∙ sym (kinds-moved (length (x ++ v)) (tokens R y)))
      ∙ sym (ap kinds (tokens-parted R x v y hv ev))

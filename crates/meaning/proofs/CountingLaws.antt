-- The sums of touches depend on which letters were met alone, and not on the number that the letters begin with.
use mathlib.Core.List.{List, [], ◌∷◌, map}
use mathlib.Core.Bool.{Bool, false, cond, ◌&&◌, ◌||◌}
use mathlib.Core.Path.{◌≡◌, refl, ap, ap₂, ◌∙◌}
use Prim.Native.Nat.{ℕ, ◌+◌}
use Rattle.meaning.specs.Lists.{◌∈◌, any}
use Rattle.meaning.specs.Expression.{Letter, Exp, letter, seq, alt, star, pipe, letters}
use Rattle.meaning.specs.Shape.{last}
use Rattle.meaning.proofs.ListLaws.{here, there, ∈-left, ∈-right}
use Rattle.meaning.proofs.Shifted.{shift_letter, shifted, letters-shifted, nullable-shifted, last-shifted}
use Rattle.meaning.proofs.Counting.{Place, asked_count, left_of_seq, right_of_seq, side_of_alt, body_of_star, left_of_pipe, thread_place, own_place, starts, sums, sums_after}

-- ---- the letters met ----

any_same : {A : Type 0} (p q : A → Bool) (xs : List A) → ((x : A) → x ∈ xs → p x ≡ q x) → any p xs ≡ any q xs
any_same p q [] h = refl
any_same p q (x ∷ xs) h = ap₂ ◌||◌ (h x (here refl)) (any_same p q xs (λ y i. h y (there i)))

module _ (act act' : ℕ → Bool) where
  -- they are the same in e
  abbrev pub SameIn : Exp → Type 0
  SameIn e = (x : Letter) → x ∈ letters e → act x.number ≡ act' x.number

  starts-same : (e : Exp) → SameIn e → starts act e ≡ starts act' e
  starts-same e h = any_same _ _ (letters e) (λ x i. ap (λ b. b && last x.number e) (h x i))

  pub sums_same : (e : Exp) (c : Place) (s : Bool) → SameIn e → sums act e c s ≡ sums act' e c s
  unfolding sums letters
  sums_same (letter l) c s h = ap (λ b. cond b (cond s c.rest c.whole) 0) (h l (here refl))
  sums_same (seq e f) c s h = ap₂ ◌+◌
      (sums_same e (left_of_seq e f c) s (λ x i. h x (∈-left (letters f) i)))
      (sums_same f (right_of_seq e f c) s (λ x i. h x (∈-right (letters e) i)))
  sums_same (alt e f) c s h = ap₂ ◌+◌
      (sums_same e (side_of_alt e c) s (λ x i. h x (∈-left (letters f) i)))
      (sums_same f (side_of_alt f c) s (λ x i. h x (∈-right (letters e) i)))
  sums_same (star e) c s h = sums_same e (body_of_star e c) s h
  sums_same (pipe e f) c s h =
      let q = starts-same e (λ x i. h x (∈-left (letters f) i)) in
      ap₂ ◌+◌ (sums_same e (left_of_pipe e c) s (λ x i. h x (∈-left (letters f) i)))
      (ap₂ ◌+◌ (ap (λ b. cond b (asked_count f) 0) q)
      (ap (sums act f (thread_place f)) q ∙ sums_same f (thread_place f) (starts act' e) (λ x i. h x (∈-right (letters e) i))))

-- no letter was met
none-start : (e : Exp) → starts (λ n. false) e ≡ false
none-start e = by (letters e)
  where
    by : (xs : List Letter) → any (λ x. false && last x.number e) xs ≡ false
    by [] = refl
    by (x ∷ xs) = by xs

pub sums_none : (e : Exp) (c : Place) (s : Bool) → sums (λ n. false) e c s ≡ 0
unfolding sums
sums_none (letter l) c s = refl
sums_none (seq e f) c s = ap₂ ◌+◌ (sums_none e (left_of_seq e f c) s) (sums_none f (right_of_seq e f c) s)
sums_none (alt e f) c s = ap₂ ◌+◌ (sums_none e (side_of_alt e c) s) (sums_none f (side_of_alt f c) s)
sums_none (star e) c s = sums_none e (body_of_star e c) s
sums_none (pipe e f) c s =
    ap₂ ◌+◌ (sums_none e (left_of_pipe e c) s) (ap₂ ◌+◌ (ap (λ b. cond b (asked_count f) 0) (none-start e)) (sums_none f (thread_place f) (starts (λ n. false) e)))

-- ---- letters numbered from k on ----

module _ (k : ℕ) where
  pub asked-shifted : (e : Exp) → asked_count (shifted k e) ≡ asked_count e
  unfolding asked_count shifted
  asked-shifted (letter l) = refl
  asked-shifted (seq e f) = rw (nullable-shifted k e, nullable-shifted k f, asked-shifted e, asked-shifted f)
  asked-shifted (alt e f) = rw (nullable-shifted k e, nullable-shifted k f, asked-shifted e, asked-shifted f)
  asked-shifted (star e) = rw (asked-shifted e)
  asked-shifted (pipe e f) = rw (asked-shifted e)

  module _ (act : ℕ → Bool) where
    abbrev beyond : ℕ → Bool
    beyond n = act (k + n)

    starts-shifted : (e : Exp) → starts act (shifted k e) ≡ starts beyond e
    starts-shifted e = ap (any (λ x. act x.number && last x.number (shifted k e))) (letters-shifted k e) ∙ by (letters e)
      where
        by : (xs : List Letter) → any (λ x. act x.number && last x.number (shifted k e)) (map (shift_letter k) xs) ≡ any (λ x. beyond x.number && last x.number e) xs
        by [] = refl
        by (x ∷ xs) = ap₂ ◌||◌ (ap (λ b. act (k + x.number) && b) (last-shifted k x.number e)) (by xs)

    pub sums-shifted : (e : Exp) (c : Place) (s : Bool) → sums act (shifted k e) c s ≡ sums beyond e c s
    unfolding sums shifted
    sums-shifted (letter l) c s = refl
    sums-shifted (seq e f) c s =
        rw (sums-shifted e (left_of_seq (shifted k e) (shifted k f) c) s, sums-shifted f (right_of_seq (shifted k e) (shifted k f) c) s, nullable-shifted k e, nullable-shifted k f, asked-shifted f)
    sums-shifted (alt e f) c s =
        rw (sums-shifted e (side_of_alt (shifted k e) c) s, sums-shifted f (side_of_alt (shifted k f) c) s, nullable-shifted k e, nullable-shifted k f)
    sums-shifted (star e) c s = rw (sums-shifted e (body_of_star (shifted k e) c) s, nullable-shifted k e, asked-shifted e)
    sums-shifted (pipe e f) c s =
        rw (starts-shifted e, sums-shifted e (left_of_pipe (shifted k e) c) s, sums-shifted f (thread_place (shifted k f)) (starts beyond e), nullable-shifted k e, nullable-shifted k f, asked-shifted f)

    pub after-shifted : (m : Exp) → sums_after act (shifted k m) ≡ sums_after beyond m
    after-shifted m = sums-shifted m (own_place (shifted k m)) false ∙ ap (λ n. sums beyond m (record { whole = 1 + n; rest = 1 + n; begins = false }) false) (asked-shifted m)

-- Runs: the longest beginning of a text whose bytes all pass a test.
-- Assumes nothing.
use mathlib.Core.Path.{◌≡◌, refl, sym, ◌∙◌, ap, subst}
use mathlib.Core.Bool.{Bool, true, false, ◌&&◌}
use mathlib.Core.List.{List, [], ◌∷◌, ◌++◌}
use Prim.Native.Nat.{ℕ, zero, suc, ◌+◌, ◌-◌, ◌<◌, ◌≤◌, zero-le, suc-le-suc}
use native.Mathlib.Nat.{le_of_suc-le-suc, not-suc-le-zero}
use native.Mathlib.Omega.{arith}
use lib.ListN.{length, get_or, take, drop, length-drop, drop_of_length-le}
use Rattle.std.proofs.lemmas.List.{take_all, drop_more}
use Rattle.lexer.specs.Bytes.{run}
use Rattle.lexer.proofs.Bools.{and_left, and_right}

-- what is left of a text from i on, as the code takes it
pub rest : (s : List ℕ) (i : ℕ) → take (length s - i) (drop i s) ≡ drop i s
rest s i = take_all (length s - i) (drop i s) (omega (arith, length-drop i s))

-- every byte passes the test
abbrev pub all : (ℕ → Bool) → List ℕ → Bool
all p [] = true
all p (b ∷ s) = p b && all p s

module _ (p : ℕ → Bool) where
  -- a run goes on at a byte that passes, and stops at one that does not
  pub run_on : (b : ℕ) (s : List ℕ) → p b ≡ true → run p (b ∷ s) ≡ b ∷ run p s
  unfolding run
  run_on b s e = subst (λ (t : Bool). elim t as (λ _. List ℕ) [ true ↦ b ∷ run p s | false ↦ [] ] ≡ b ∷ run p s) (sym e) refl

  pub run-off : (b : ℕ) (s : List ℕ) → p b ≡ false → run p (b ∷ s) ≡ []
  unfolding run
  run-off b s e = subst (λ (t : Bool). ◌≡◌ {A = List ℕ} (elim t as (λ _. List ℕ) [ true ↦ b ∷ run p s | false ↦ [] ]) []) (sym e) refl

  -- the same in a text from an index on
  pub run_at : (s : List ℕ) (i : ℕ) → i < length s → p (get_or s i 0) ≡ true → run p (drop i s) ≡ get_or s i 0 ∷ run p (drop (i + 1) s)
  run_at s i h e = ap (run p) (drop_more s i 0 h) ∙ run_on (get_or s i 0) (drop (i + 1) s) e

  pub run-stops : (s : List ℕ) (i : ℕ) → i < length s → p (get_or s i 0) ≡ false → run p (drop i s) ≡ []
  run-stops s i h e = ap (run p) (drop_more s i 0 h) ∙ run-off (get_or s i 0) (drop (i + 1) s) e

  pub run_past : (s : List ℕ) (i : ℕ) → length s ≤ i → run p (drop i s) ≡ []
  unfolding run
  run_past s i h = ap (run p) (drop_of_length-le s h)

  -- where a run ends that ends at n, seen from i
  pub run_ends : (s : List ℕ) (i n : ℕ) → i + length (run p (drop i s)) ≡ n → run p (drop i s) ≡ [] → i ≡ n
  run_ends s i n e q = omega (arith, ap length q)

  pub run-goes : (s : List ℕ) (i n : ℕ) → i + length (run p (drop i s)) ≡ n → i < length s → p (get_or s i 0) ≡ true
      → i + 1 + length (run p (drop (i + 1) s)) ≡ n
  run-goes s i n e h q = omega (arith, ap length (run_at s i h q))

  -- a run is what it says: a beginning of its text
  pub take-run : (s : List ℕ) → take (length (run p s)) s ≡ run p s
  unfolding run
  take-run [] = refl
  take-run (b ∷ s) = go (p b) refl (take-run s)
    where
      go : (t : Bool) → p b ≡ t → take (length (run p s)) s ≡ run p s → take (length (run p (b ∷ s))) (b ∷ s) ≡ run p (b ∷ s)
      go true e ih = rw (run_on b s e) (ap (λ (l : List ℕ). b ∷ l) ih)
      go false e ih = rw (run-off b s e)

  pub run_length : (s : List ℕ) → length (run p s) ≤ length s
  unfolding run
  run_length [] = native.Mathlib.Nat.le_refl 0
  run_length (b ∷ s) = go (p b) refl (run_length s)
    where
      go : (t : Bool) → p b ≡ t → length (run p s) ≤ length s → length (run p (b ∷ s)) ≤ length (b ∷ s)
      go true e ih = rw (run_on b s e) (Prim.Native.Nat.suc-le-suc ih)
      go false e ih = rw (run-off b s e) Prim.Native.Nat.zero-le

  -- each byte of a run passes
  pub run-passes : (s : List ℕ) (k : ℕ) → k < length (run p s) → p (get_or s k 0) ≡ true
  unfolding run
  run-passes [] k h = absurd (not-suc-le-zero h)
  run-passes (b ∷ s) k h = go (p b) refl k h (run-passes s)
    where
      go : (t : Bool) → p b ≡ t → (k : ℕ) → k < length (run p (b ∷ s)) → ((k : ℕ) → k < length (run p s) → p (get_or s k 0) ≡ true)
          → p (get_or (b ∷ s) k 0) ≡ true
      go true e zero h ih = e
      go true e (suc k) h ih = ih k (le_of_suc-le-suc (rw (run_on b s e) at h))
      go false e k h ih = absurd (not-suc-le-zero (rw (run-off b s e) at h))

  pub run-all : (s t : List ℕ) → all p s ≡ true → run p (s ++ t) ≡ s ++ run p t
  run-all [] t e = refl
  run-all (b ∷ s) t e =
      run_on b (s ++ t) (and_left (p b) (all p s) e) ∙ ap (λ (l : List ℕ). b ∷ l) (run-all s t (and_right (p b) (all p s) e))

  -- a run ends at a byte that does not pass, whatever follows it
  pub run-cut : (s : List ℕ) (c : ℕ) (t : List ℕ) → p c ≡ false → run p (s ++ c ∷ t) ≡ run p s
  unfolding run
  run-cut [] c t e = run-off c t e
  run-cut (b ∷ s) c t e = go (p b) refl (run-cut s c t e)
    where
      go : (q : Bool) → p b ≡ q → run p (s ++ c ∷ t) ≡ run p s → run p (b ∷ s ++ c ∷ t) ≡ run p (b ∷ s)
      go true q ih = run_on b (s ++ c ∷ t) q ∙ ap (λ (l : List ℕ). b ∷ l) ih ∙ sym (run_on b s q)
      go false q ih = run-off b (s ++ c ∷ t) q ∙ sym (run-off b s q)

  pub all-run : (s : List ℕ) → all p (run p s) ≡ true
  unfolding run
  all-run [] = refl
  all-run (b ∷ s) = go (p b) refl (all-run s)
    where
      go : (t : Bool) → p b ≡ t → all p (run p s) ≡ true → all p (run p (b ∷ s)) ≡ true
      go true e ih = rw (run_on b s e, e) ih
      go false e ih = rw (run-off b s e)

  -- a run is the longest: bytes that all pass do not reach past it
  pub run-longest : (n : ℕ) (s : List ℕ) → n ≤ length s → all p (take n s) ≡ true → n ≤ length (run p s)
  unfolding run
  run-longest zero s h e = zero-le
  run-longest (suc n) [] h e = absurd (not-suc-le-zero h)
  run-longest (suc n) (b ∷ s) h e =
      rw (run_on b s (and_left (p b) (all p (take n s)) e))
      (suc-le-suc (run-longest n s (le_of_suc-le-suc h) (and_right (p b) (all p (take n s)) e)))

  -- a run that ends within the first part of a text is that part's
  pub run-front : (s t : List ℕ) → length (run p (s ++ t)) ≤ length s → run p s ≡ run p (s ++ t)
  unfolding run
  run-front [] t h = go (run p t) h
    where
      go : (l : List ℕ) → length l ≤ 0 → [] ≡ l
      go [] h = refl
      go (x ∷ l) h = absurd (not-suc-le-zero h)
  run-front (b ∷ s) t h = go (p b) refl (run-front s t)
    where
      go : (q : Bool) → p b ≡ q → (length (run p (s ++ t)) ≤ length s → run p s ≡ run p (s ++ t)) → run p (b ∷ s) ≡ run p (b ∷ (s ++ t))
      go true q ih =
          run_on b s q
          ∙ ap (λ (l : List ℕ). b ∷ l) (ih (le_of_suc-le-suc (rw (run_on b (s ++ t) q) at h)))
          ∙ sym (run_on b (s ++ t) q)
      go false q ih = run-off b s q ∙ sym (run-off b (s ++ t) q)

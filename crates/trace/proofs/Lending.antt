-- A list put into a lent one, in the two cases that the code tells apart. Assumes nothing.
use mathlib.Core.Path.{◌≡◌, refl, ap, ◌∙◌}
use mathlib.Core.List.{List, ◌++◌}
use Prim.Native.Nat.{ℕ, ◌≤◌, ◌<◌}
use lib.ListN.{length, drop}
use borrow.Author.Tests.{lt-ltb, le-ltb}
use Rattle.refusals.specs.Numbers.{short_bin}
use Rattle.trace.specs.Answer.{Answer, value, refused}
use Rattle.trace.specs.Whole.{counted, lend, lend_answer}
use Rattle.trace.proofs.Clash.{clash}

module _ (new lent : List ℕ) (n : ℕ) (long : n ≡ length new) where
  pub lend-short : length lent < n → (refused short_bin 0 ≡ (lend new lent).answer) × (lent ≡ (lend new lent).list)
  unfolding lend
  lend-short h = rw (← long, lt-ltb _ _ h) (refl, refl)

  pub lend-fits : (out : List ℕ) → n ≤ length lent → out ≡ new ++ drop n lent → (value n ≡ (lend new lent).answer) × (out ≡ (lend new lent).list)
  unfolding lend
  lend-fits out h e = rw (← long, le-ltb _ _ h) (ap value long, e ∙ ap (λ (k : ℕ). new ++ drop k lent) long)

-- ---- the words of a trace, lent

-- the trace is refused
pub words-refused : (r : Answer (List ℕ)) (lent : List ℕ) (number place : ℕ) → refused number place ≡ counted r
    → (refused number place ≡ (lend_answer r lent).answer) × (lent ≡ (lend_answer r lent).list)
unfolding lend_answer
words-refused (refused refusal at) lent number place e = (e, refl)
words-refused (value ws) lent number place e = clash (cc)

-- there are n words, for which there is no room
pub words-short : (r : Answer (List ℕ)) (lent : List ℕ) (n : ℕ) → value n ≡ counted r → length lent < n
    → (refused short_bin 0 ≡ (lend_answer r lent).answer) × (lent ≡ (lend_answer r lent).list)
unfolding lend_answer
words-short (value ws) lent n e h = lend-short ws lent n (cc) h
words-short (refused number place) lent n e h = clash (cc)

-- there is room for them
pub words-fit : (r : Answer (List ℕ)) (lent ws out : List ℕ) (n : ℕ) → value n ≡ counted r → n ≤ length lent → value ws ≡ r → out ≡ ws ++ drop n lent
    → (value n ≡ (lend_answer r lent).answer) × (out ≡ (lend_answer r lent).list)
unfolding lend_answer
words-fit (value us) lent ws out n e h f o = let w : ws ≡ us = cc in lend-fits us lent n (cc) out h (o ∙ ap (λ (l : List ℕ). l ++ drop n lent) w)
words-fit (refused number place) lent ws out n e h f o = clash (cc)

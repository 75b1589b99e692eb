-- The sum over the tokens of a text, one token after the other.
-- Assumes nothing.
use Rattle.std.proofs.Common.{◌≡◌, ℕ, ◌+◌, ◌-◌, ◌%◌, ◌^◌, ◌<◌, ◌≤◌, true, false, cond, List, [], length, take, drop, sym, refl, ap, ◌∙◌, arith}
use Rattle.lexer.specs.declared.Token.{Token}
use Rattle.lexer.specs.Tokens.{Word, Placed, token_at, goes_on, tokens_at, tokens, rule_words}
use Rattle.lexer.specs.Shown.{kind_shown, shown}
use Rattle.lexer.proofs.WithoutBytes.{without-bytes}
use Rattle.lexer.proofs.Order.{tokens-step}
use Rattle.lexer.proofs.Sized.{lies}
use Rattle.lexer_bench.specs.Checksum.{weight, bare, plus, checksum}

plus-shown : (s : List ℕ) (sum : ℕ) (t : Token) → plus sum (bare t) ≡ plus sum (shown s t)
plus-shown s sum t =
    ap (λ (w : ℕ). (((sum + w) % 2 ^ 64 + t.place) % 2 ^ 64 + t.after) % 2 ^ 64) (without-bytes weight (λ x y. refl) [] (take (t.after - t.place) (drop t.place s)) t.kind)

-- the words that the code is given are those of a rule text
pub at_words : (s : List ℕ) (at : ℕ) {R : List Word} {t : Placed} → R ≡ rule_words → t ≡ token_at R s at → t ≡ token_at rule_words s at
at_words s at e f = f ∙ ap (λ (R : List Word). token_at R s at) e

-- the code's token t is the one at `at`
module _ (s : List ℕ) (at sum : ℕ) (t : Token) (is : shown s t ≡ token_at rule_words s at) (so : checksum sum (tokens_at rule_words s at) ≡ checksum 0 (tokens rule_words s)) where
  goes : goes_on (kind_shown [] t.kind) ≡ goes_on (token_at rule_words s at).token
  goes = without-bytes goes_on (λ x y. refl) [] _ t.kind ∙ ap (λ (t : Placed). goes_on t.token) is

  step : checksum (plus sum (bare t)) (cond (goes_on (token_at rule_words s at).token) (tokens_at rule_words s (token_at rule_words s at).after) []) ≡ checksum 0 (tokens rule_words s)
  unfolding checksum
  step =
      ap (λ (n : ℕ). checksum n (cond (goes_on (token_at rule_words s at).token) (tokens_at rule_words s (token_at rule_words s at).after) [])) (plus-shown s sum t ∙ ap (plus sum) is)
      ∙ ap (checksum sum) (sym (tokens-step rule_words s at))
      ∙ so

  pub sum-ends : goes_on (kind_shown [] t.kind) ≡ false → plus sum (bare t) ≡ checksum 0 (tokens rule_words s)
  unfolding checksum
  sum-ends e = rw (sym goes ∙ e) at step

  pub sum_goes : goes_on (kind_shown [] t.kind) ≡ true → checksum (plus sum (bare t)) (tokens_at rule_words s t.after) ≡ checksum 0 (tokens rule_words s)
  sum_goes e =
      ap (λ (n : ℕ). checksum (plus sum (bare t)) (tokens_at rule_words s n)) (ap (λ (t : Placed). t.after) is) ∙ (rw (sym goes ∙ e) at step)

  pub sum-moves : goes_on (kind_shown [] t.kind) ≡ true → (at < t.after) × (t.after ≤ length s)
  sum-moves e =
      let l = lies rule_words s at in
      let g = l.grows (sym goes ∙ e) in
      let a = ap (λ (t : Placed). t.after) is in
      (omega (arith, g, a), omega (arith, l.high, a))

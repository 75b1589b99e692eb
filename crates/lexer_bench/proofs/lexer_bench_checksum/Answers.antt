-- The answers to the goals of `lexer_bench::lexer_bench_checksum`.
use Rattle.std.proofs.Common.{◌<◌, ◌≤◌, length, sym, refl, ◌∙◌, arith, rules}
use Rattle.lexer_bench.proofs.Sums.{at_words, sum-ends, sum_goes, sum-moves}
use Rattle.lexer_bench.proofs.lexer_bench_checksum.Goals as goal

pub loop-t-init : goal.loop-t-init
loop-t-init c = (search rules, refl)

pub returns-then-not-goes_on : goal.returns-then-not-goes_on
returns-then-not-goes_on c =
    c.add-sum.ensures
    ∙ sum-ends _ _ _ c.token_at-t.result (at_words _ _ c.rule_words.ensures c.token_at-t.ensures) c.loop-t.invariant.1 (sym c.goes_on.ensures ∙ c.if-not-goes_on.true)

-- a token that is not the last takes a byte
moves : (c : goal.Else-not-goes_on)
    → (c.loop-t.at < c.token_at-t.result.after)
    × (c.token_at-t.result.after ≤ length c.args.text.now)
moves c =
    sum-moves _ _ _ c.token_at-t.result (at_words _ _ c.rule_words.ensures c.token_at-t.ensures) c.loop-t.invariant.1 (sym c.goes_on.ensures ∙ c.if-not-goes_on.false)

pub loop-t-smaller : goal.loop-t-smaller
loop-t-smaller c = omega (arith, moves c)

pub loop-t-preserved : goal.loop-t-preserved
loop-t-preserved c = (
  (moves c).1,
  rw c.add-sum.ensures
      (sum_goes _ _ _ c.token_at-t.result (at_words _ _ c.rule_words.ensures c.token_at-t.ensures) c.loop-t.invariant.1 (sym c.goes_on.ensures ∙ c.if-not-goes_on.false)),
)

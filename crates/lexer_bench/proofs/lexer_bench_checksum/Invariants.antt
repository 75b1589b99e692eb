-- `lexer_bench::lexer_bench_checksum` meets its contract. The loop's invariant: the sum so far and the tokens from `at` on make the whole sum.
-- Assumes nothing.
use Rattle.std.proofs.Common.{◌≡◌, ◌-◌, ◌≤◌, length}
use Rattle.lexer.specs.Tokens.{tokens_at, tokens, rule_words}
use Rattle.lexer_bench.specs.Checksum.{checksum}
use Rattle.lexer_bench.proofs.lexer_bench_checksum.Given as goal

abbrev pub invariant-loop-t : goal.invariant-loop-t
invariant-loop-t l = (l.at ≤ length l.text) × (checksum l.sum (tokens_at rule_words l.text l.at) ≡ checksum 0 (tokens rule_words l.text))

abbrev pub decreases-loop-t : goal.decreases-loop-t
decreases-loop-t l = length l.text - l.at

-- `rules_bench::rules_bench_open` meets its contract.
-- Assumes nothing.
use mathlib.Core.Path.{◌∙◌, ap}
use Rattle.rules_bench.specs.Packed.{in_one_word}
use Rattle.rules_bench.proofs.rules_bench_open.Goals as goal

pub returns : goal.returns
returns c = c.shown.ensures ∙ ap in_one_word c.open-start.ensures.0

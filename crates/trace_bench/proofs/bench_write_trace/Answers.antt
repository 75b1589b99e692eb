-- `trace_bench::bench_write_trace` meets its contract. Assumes nothing.
use mathlib.Core.Path.{ap, ◌∙◌}
use Rattle.trace.specs.Whole.{number_or_zero}
use Rattle.trace_bench.proofs.bench_write_trace.Goals as goal

pub returns : goal.returns
returns c =
    let w = c.write_trace in
    (c.or_zero.ensures ∙ ap number_or_zero w.ensures.0, w.ensures.1)

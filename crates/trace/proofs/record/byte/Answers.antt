-- `trace::record::byte` meets its contract. Assumes nothing.
use mathlib.Core.Path.{refl}
use Rattle.trace.specs.Record.{digit}
use Rattle.trace.proofs.record.byte.Goals as goal

pub returns : goal.returns
unfolding digit
returns c = refl

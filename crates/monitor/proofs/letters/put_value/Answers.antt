-- `monitor::letters::put_value` meets its contract.
-- Assumes nothing.
use lib.Seq.{set_out}
use mathlib.Core.Path.{sym}
use native.Mathlib.Omega.{arith}
use Rattle.monitor.proofs.letters.put_value.Goals as goal

pub returns-then-values-store : goal.returns-then-values-store
returns-then-values-store c = sym (set_out c.args.values.now c.args.store c.args.value (omega arith))

-- `lexer::number_at` meets its contract. The loop's invariant: the number, read up to the digit at `i`, has the value `value` so far.
-- Assumes nothing.
use Prim.Native.Nat.{◌+◌}
use Rattle.lexer.proofs.Numbers.{Read}
use Rattle.lexer.proofs.number_at.Given as goal

abbrev pub invariant-loop-i : goal.invariant-loop-i
invariant-loop-i l = Read l.text l.place l.value (l.place + l.i)

-- The kept line of a good tick, as the code has it. Assumes nothing.
use Rattle.std.specs.Prelude.{ℕ}
use Rattle.sheet.specs.Digits.{Pairs}
use Rattle.sheet.specs.Laid.{Laid}
use Rattle.sheet.specs.declared.lines.TickLine.{TickLine}

-- it is that of tick t, with any word, and the digits are those of every byte
pub record Kept (line : TickLine) (t : ℕ) : Type 0 where
  pub digits : Pairs line.pairs
  pub laid : Laid line.bytes line.from t

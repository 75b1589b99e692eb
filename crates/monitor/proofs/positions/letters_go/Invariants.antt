-- `monitor::positions::letters_go` meets its contract.
-- Assumes nothing.
use Prim.Native.Nat.{◌-◌}
use mathlib.Core.Path.{◌≡◌}
use Rattle.monitor.specs.Letters.{given}
use Rattle.monitor.specs.Ticks.{places_in, letters_go}
use Rattle.monitor.proofs.positions.letters_go.Given as goal

abbrev pub invariant-loop-letter : goal.invariant-loop-letter
invariant-loop-letter l = letters_go (given l.tick.tables.now l.tick.values.now l.tick.words) (places_in l.layout) l.marks (l.to - l.from) l.from l.initial.memory ≡ letters_go (given l.tick.tables.now l.tick.values.now l.tick.words) (places_in l.layout) l.marks (l.to - l.letter) l.letter l.memory

abbrev pub decreases-loop-letter : goal.decreases-loop-letter
decreases-loop-letter l = l.to - l.letter

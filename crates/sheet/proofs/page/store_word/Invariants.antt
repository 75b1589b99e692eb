-- `sheet::page::store_word` meets its contract. Assumes nothing.
use Prim.Native.Nat.{◌+◌, ◌*◌, ◌-◌}
use lib.Seq.{sets}
use mathlib.Core.Path.{◌≡◌}
use Rattle.meaning.specs.Sheet.{hexadecimal}
use Rattle.sheet.proofs.page.store_word.Given as goal

abbrev pub invariant-loop-k : goal.invariant-loop-k
invariant-loop-k l = sets l.initial.line 21 (hexadecimal 16 l.word) ≡ sets l.line (21 + 2 * l.k) (hexadecimal (16 - 2 * l.k) l.word)

-- `rules::statements::statements` meets its contract. The invariant: what is declared is known, and a statement is expected.
-- Assumes nothing.
use mathlib.Core.Path.{◌≡◌}
use Prim.Native.Nat.{◌-◌}
use lib.ListN.{length}
use Rattle.meaning.specs.Reading.{statement as expected}
use Rattle.rules.specs.Statements.{Declaring}
use Rattle.rules.proofs.statements.statements.Given as goal

abbrev pub invariant-loop-t : goal.invariant-loop-t
invariant-loop-t l = (length l.words ≡ length l.initial.words) × (length l.kept ≡ length l.initial.kept) × Declaring l.text l.words l.kept l.d expected

abbrev pub decreases-loop-t : goal.decreases-loop-t
decreases-loop-t l = length l.text - l.d.at

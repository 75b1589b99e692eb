-- The invariant of the loop of `counts::places_of`: the rows before this one are laid out, and their letters are counted.
use Rattle.std.proofs.Common.{◌≡◌, ◌≤◌}
use Rattle.counts.specs.Counts.{letters_before, places_up}
use Rattle.counts.proofs.places_of.Given as goal

abbrev pub invariant-loop-row : goal.invariant-loop-row
invariant-loop-row l =
    record { few : l.letters ≤ l.row; laid : l.places ≡ places_up l.table l.costs l.row; counted : l.letters ≡ letters_before l.table l.row }

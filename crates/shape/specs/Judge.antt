-- What `judge` answers, and what that says of a monitor (docs/REFERENCE.md, S12, S13 and X10). Assumes nothing.
use Rattle.std.specs.Prelude.{Result, Ok, Err, cond, List, ℕ, ◌-◌, ltb}
use Rattle.refusals.specs.Numbers.{open_end, fork}
use Rattle.meaning.specs.ShapeTests.{Shape, accepted, turned_away}
use Rattle.shape.specs.Ends.{open_at}
use Rattle.shape.specs.Sides.{fork_at}
use Rattle.shape.specs.Lowest.{lowest}
use Rattle.shape.specs.declared.Fault.{Fault}
use Rattle.shape.specs.declared.Fault.TheVariants.{OpenEnd, Fork}

-- a letter below the end is at fault by a rule, by its number from the first on; else the rest
abbrev pub or_rest : (first end : ℕ) → (rule letter : ℕ) → Shape → Shape
or_rest first end rule letter rest = cond (ltb letter end) (turned_away rule (letter - first)) rest

-- X10: rule 11 and then rule 12, each at the lowest of the letters from the first on and below the end
unfoldable pub judge_of : (kind left right look want : List ℕ) → (row first end : ℕ) → Shape
judge_of kind left right look want row first end =
    or_rest first end open_end (lowest (open_at kind left right row) first (end - first))
    (or_rest first end fork (lowest (fork_at kind left right look want row) first (end - first)) accepted)

-- what an answer of the code says: that both rules are kept, or the rule and the letter
abbrev pub shown_judged : Result Unit Fault → Shape
shown_judged (Ok kept) = accepted
shown_judged (Err (OpenEnd letter)) = turned_away open_end letter
shown_judged (Err (Fork letter)) = turned_away fork letter

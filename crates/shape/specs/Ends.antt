-- Rule 11 (docs/REFERENCE.md, S12) on rows: what a row has of one letter. Assumes nothing.
use Rattle.std.specs.Prelude.{Bool, true, false, ◌&&◌, ◌||◌, List, ℕ, eqb}
use Rattle.shape.specs.Walk.{by_operator, walk_at}
use Rattle.shape.specs.Sets.{has}
use Rattle.shape.specs.declared.ends.EndSets.{EndSets}

-- whether a part is nullable, whether a letter can come last in it (S4) and be followed in it (S6), and whether it is an open end of a thread in it (S12)
pub record Ends : Type 0 where
  pub nullable : Bool
  pub last : Bool
  pub followed : Bool
  pub fault : Bool

abbrev pub letter_ends : Bool → Ends
letter_ends own = record { nullable = false; last = own; followed = false; fault = false }

abbrev pub seq_ends : Ends → Ends → Ends
seq_ends e f = record {
  nullable = e.nullable && f.nullable;
  last = f.last || (f.nullable && e.last);
  followed = e.followed || f.followed || e.last;
  fault = e.fault || f.fault;
}

abbrev pub alt_ends : Ends → Ends → Ends
alt_ends e f = record {
  nullable = e.nullable || f.nullable;
  last = e.last || f.last;
  followed = e.followed || f.followed;
  fault = e.fault || f.fault;
}

abbrev pub star_ends : Ends → Ends
star_ends e = record { nullable = true; last = e.last; followed = e.followed || e.last; fault = e.fault }

abbrev pub pipe_ends : Ends → Ends → Ends
pipe_ends e f = record {
  nullable = false;
  last = e.last;
  followed = e.followed || f.followed;
  fault = (f.last && f.followed) || (e.fault || f.fault);
}

abbrev pub joined_ends : ℕ → Ends → Ends → Ends
joined_ends k e f = by_operator k (seq_ends e f) (alt_ends e f) (pipe_ends e f)

-- what sets have of one of their letters
abbrev pub ends_of : ℕ → EndSets → Ends
ends_of x s = record { nullable = s.nullable; last = has x s.last; followed = has x s.followed; fault = has x s.fault }

module _ (kind left right : List ℕ) where
  -- what a row has of a letter; the walk goes at most n deep
  abbrev pub ends_at : (letter n row : ℕ) → Ends
  ends_at letter n row = walk_at kind left right (letter_ends false) (λ a. letter_ends (eqb a letter)) star_ends joined_ends n row

  -- S12: the letter is an open end of a thread in the monitor at a row
  unfoldable pub open_at : ℕ → ℕ → Bool
  open_at row letter = (ends_at letter 1024 row).fault

-- Rule 12 (docs/REFERENCE.md, S13) on rows: what a row has of one letter and its rivals, the others that one word meets together with it. Assumes nothing.
use Rattle.std.specs.Prelude.{Bool, true, false, not, ◌&&◌, ◌||◌, List, ℕ, eqb, get_or}
use Rattle.masks.specs.Masks.{compatible}
use Rattle.shape.specs.Walk.{by_operator, walk_at}
use Rattle.shape.specs.Sets.{has}
use Rattle.shape.specs.declared.sides.SideSets.{SideSets}

-- whether a part is nullable; whether a letter, or a rival, can come first in it; whether the letter, or a rival, can come next after one of the letters that can come last in it;
-- and whether the letter and a rival come first in a thread of it together, or next after the same letter
pub record Sides : Type 0 where
  pub nullable : Bool
  pub first_own : Bool
  pub first_rival : Bool
  pub next_own : Bool
  pub next_rival : Bool
  pub fork : Bool

abbrev pub letter_sides : Bool → Bool → Sides
letter_sides own rival = record { nullable = false; first_own = own; first_rival = rival; next_own = false; next_rival = false; fork = false }

-- S6: what comes first in f comes next after what comes last in e
abbrev pub linked : Sides → Sides → Bool
linked e f = (f.first_own && (e.next_rival || f.first_rival)) || (f.first_rival && e.next_own)

abbrev pub seq_sides : Sides → Sides → Sides
seq_sides e f = record {
  nullable = e.nullable && f.nullable;
  first_own = e.first_own || (e.nullable && f.first_own);
  first_rival = e.first_rival || (e.nullable && f.first_rival);
  next_own = f.next_own || (f.nullable && (e.next_own || f.first_own));
  next_rival = f.next_rival || (f.nullable && (e.next_rival || f.first_rival));
  fork = e.fork || (f.fork || linked e f);
}

abbrev pub alt_sides : Sides → Sides → Sides
alt_sides e f = record {
  nullable = e.nullable || f.nullable;
  first_own = e.first_own || f.first_own;
  first_rival = e.first_rival || f.first_rival;
  next_own = e.next_own || f.next_own;
  next_rival = e.next_rival || f.next_rival;
  fork = e.fork || f.fork;
}

abbrev pub star_sides : Sides → Sides
star_sides e = record {
  nullable = true;
  first_own = e.first_own;
  first_rival = e.first_rival;
  next_own = e.next_own || e.first_own;
  next_rival = e.next_rival || e.first_rival;
  fork = e.fork || linked e e;
}

abbrev pub pipe_sides : Sides → Sides → Sides
pipe_sides e f = record {
  nullable = false;
  first_own = e.first_own;
  first_rival = e.first_rival;
  next_own = e.next_own;
  next_rival = e.next_rival;
  fork = (f.first_own && f.first_rival) || (e.fork || f.fork);
}

abbrev pub joined_sides : ℕ → Sides → Sides → Sides
joined_sides k e f = by_operator k (seq_sides e f) (alt_sides e f) (pipe_sides e f)

-- S13: "some word meets the wire literals of both"
abbrev pub rivals : (look want : List ℕ) → ℕ → ℕ → Bool
rivals look want a b = compatible (get_or look a 0) (get_or want a 0) (get_or look b 0) (get_or want b 0)

-- what sets have of one of their letters
abbrev pub sides_of : ℕ → SideSets → Sides
sides_of x s = record {
  nullable = s.nullable;
  first_own = has x s.first_own;
  first_rival = has x s.first_rival;
  next_own = has x s.next_own;
  next_rival = has x s.next_rival;
  fork = has x s.fork;
}

module _ (kind left right look want : List ℕ) where
  -- what a row has of a letter and its rivals; the walk goes at most n deep
  abbrev pub sides_at : (letter n row : ℕ) → Sides
  sides_at letter n row =
      walk_at kind left right (letter_sides false false) (λ a. letter_sides (eqb a letter) (not (eqb a letter) && rivals look want letter a)) star_sides joined_sides n row

  -- S8: the letter is side by side with a rival in the monitor at a row; S6: "its first letters come next after its last ones", as in a star
  unfoldable pub fork_at : ℕ → ℕ → Bool
  fork_at row letter = (star_sides (sides_at letter 1024 row)).fork

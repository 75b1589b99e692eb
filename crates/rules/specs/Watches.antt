-- What `open` answers with (docs/REFERENCE.md, W1): the counts and a watch, or a refusal and an empty watch. Assumes nothing.
use Rattle.std.specs.Prelude.{Result, Ok, Err, false, cond, List, [], ◌∷◌, map, ℕ, suc, ◌+◌, ◌*◌, eqb, length, take, replicate}
use Rattle.std.proofs.lemmas.List.Edits.{sets}
use Rattle.meaning.specs.Answers as meaning
use Rattle.meaning.specs.Lists.{each, member}
use Rattle.meaning.specs.Expression.{Letter, letters}
use Rattle.meaning.specs.Names.{Limit}
use Rattle.meaning.specs.Opening as meaning_opening
use Rattle.meaning.specs.Opening.{Opened}
use Rattle.shape.specs.Walk.{kinds}
use Rattle.windows.specs.Windows.{opened_windows}
use Rattle.rules.specs.Cells.{flag}
use Rattle.rules.specs.Laying.{letter_lists}
use Rattle.rules.specs.Monitors.{Lists, lists, with_monitors, refused_as}
pub use Rattle.rules.specs.Scopes.{limit_word}
use Rattle.rules.specs.declared.Watch.{Watch}
use Rattle.rules.specs.declared.Counts.{Counts}
use Rattle.rules.specs.declared.Refused.{Refused}

-- no rows, no letters, no monitors
abbrev pub no_lists : Lists
no_lists =
    lists (replicate 1024 0) (letter_lists (replicate 256 0) (replicate 256 0) (replicate 256 0) (replicate 1024 0) (replicate 1024 0)) (replicate 32 0) (replicate 32 0)

-- no limits
abbrev pub none_counted : List ℕ
none_counted = replicate 256 0

abbrev pub no_windows : List ℕ
no_windows = replicate 1056 0

-- which limits count a letter, as bits; S14: those whose production it came through
unfoldable pub limit_mask : List Limit → Letter → ℕ
limit_mask [] x = 0
limit_mask (l ∷ ls) x = flag (member l.production x.through) + 2 * limit_mask ls x

-- the same of all letters, in their order
unfoldable pub counted_of : Opened → List ℕ
counted_of o = sets (replicate 256 0) 0 (each o.monitors (λ m. map (limit_mask o.limits) (letters m)))

-- the windows of the limits before the first tick
unfoldable pub windows_of : Opened → List ℕ
windows_of o = opened_windows (map limit_word o.limits) (length o.limits)

-- the rows of letters, those of kind 0, among rows of these kinds from row r on
unfoldable pub letters_from : (r : ℕ) → (kinds : List ℕ) → List ℕ
letters_from r [] = []
letters_from r (k ∷ ks) = cond (eqb k 0) (r ∷ letters_from (suc r) ks) (letters_from (suc r) ks)

-- a watch of these arrays; W1: "tick count 0, the first values in its stores, 0 as the word before and each monitor at its start, and is not stopped. No letter was met yet."
abbrev pub watch_by : Lists → (rows letters monitors wires : ℕ) → (initial counted windows : List ℕ) → Watch
watch_by A r l m w vs C W =
    record {
      table = A.table;
      look = A.letters_of.look;
      want = A.letters_of.want;
      held = A.letters_of.held;
      links = A.letters_of.links;
      numbers = A.letters_of.numbers;
      places = sets (replicate 256 0) 0 (letters_from 0 (kinds (take r A.table)));
      own = A.own;
      firsts = A.firsts;
      rows = r;
      letters = l;
      monitors = m;
      wires = w;
      stores = length vs;
      before = 0;
      values = sets (replicate 16 0) 0 vs;
      marks = sets (replicate 288 0) 256 (replicate m 1);
      ticks = 0;
      totals = replicate 256 0;
      stopped = false;
      counted = C;
      windows = W;
    }

-- a watch of nothing
abbrev pub empty_watch : Watch
empty_watch = watch_by no_lists 0 0 0 0 [] none_counted no_windows

-- the watch of an opened text; X13: "A refusal opens no watch"
unfoldable pub watch_of : meaning.Answer Opened → Watch
watch_of (meaning.value o) = watch_by (with_monitors no_lists 0 0 0 o.monitors) o.row_count o.letter_count (length o.monitors) o.wires o.initial (counted_of o) (windows_of o)
watch_of (meaning.refused n p) = empty_watch

-- What an answer of the code says; W1: "Opening a text gives a watch and both counts (S3), or a refusal"
abbrev pub shown_outcome : Result Counts Refused → meaning.Answer meaning_opening.Counts
shown_outcome (Ok n) = meaning.value (record { rows = n.rows; letters = n.letters })
shown_outcome (Err e) = refused_as e

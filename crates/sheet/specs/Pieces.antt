-- The sheet (docs/REFERENCE.md, P3 to P7 and P10) of a trace that comes in pieces: what `begin`, a `run` over each piece and `finish` print. Assumes nothing.
use Rattle.std.specs.Prelude.{cond, List, [], ◌∷◌, ◌++◌, ℕ, length}
use Rattle.meaning.specs.Opening.{counts_of, open_text}
use Rattle.meaning.specs.Sheet.{first_line}
use Rattle.rules.specs.Watches.{watch_of}
use Rattle.sheet.specs.Lines.{Run, run, run_over, closing, is_refused}

-- the pieces one behind the other
abbrev pub joined : List (List ℕ) → List ℕ
joined [] = []
joined (p ∷ ps) = p ++ joined ps

-- `run` over each piece, behind what the one before it left, until a line ends the sheet; where none does, `finish` with what is left
unfoldable pub run_each : Run → (left : List ℕ) → (pieces : List (List ℕ)) → List ℕ
run_each s left [] = closing s.watch (length left)
run_each s left (p ∷ ps) =
    let x = run_over s (left ++ p) in
    x.printed ++ cond x.ended [] (run_each x.after x.left ps)

-- `begin`, and the rest unless the text was refused
unfoldable pub printed_in_pieces : (text : List ℕ) → (pieces : List (List ℕ)) → List ℕ
printed_in_pieces text ps =
    first_line (counts_of (open_text text)) ++ cond (is_refused (open_text text)) [] (run_each (run (watch_of (open_text text)) 0) [] ps)

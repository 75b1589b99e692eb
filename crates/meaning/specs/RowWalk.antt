-- The walk over the rows of a table, which asking a row and leaving a row take turns in: fit (docs/REFERENCE.md, F6 to F10 and F17) for one tick, on rows. Assumes nothing.
use Rattle.std.specs.Prelude.{Bool, cond, List, [], ℕ, zero, suc, eqb}
use Rattle.std.proofs.Math.Option.{Option, none, some}
use Rattle.meaning.specs.Fit.{Tick, meets}
use Rattle.meaning.specs.Positions.{Way, joined, Entered, met, blocked, then_enter, or_enter, or_pass, goes_by}
use Rattle.meaning.specs.Table.{Kind, is_letter, is_seq, is_alt, is_star, is_pipe, Table}

-- a row is entered; a, b: entering its left operand, entering its right one
abbrev pub enter_by : Kind → Tick → (a b : Entered) → Entered
enter_by (is_letter l) t a b = cond (meets l t) (met l.number) blocked
enter_by is_seq t a b = then_enter a b
enter_by is_alt t a b = or_enter a b
enter_by is_star t a b = or_pass a
enter_by is_pipe t a b = a

-- an operand of a row is left (on-left: the left one); b, c, d: asking the row's right operand, leaving the row, asking the row
abbrev pub leave_by : Kind → (on-left : Bool) → (b c d : Option (List ℕ)) → Option (List ℕ)
leave_by (is_letter l) on-left b c d = none
leave_by is_seq on-left b c d = cond on-left b c
leave_by is_alt on-left b c d = c
leave_by is_star on-left b c d = d
leave_by is_pipe on-left b c d = cond on-left (joined c b) (some [])

-- n bounds the calls; shut tells the rows of busy threads (F17), which cannot be entered
unfoldable pub enter_row : (shut : ℕ → Bool) → ℕ → Table → ℕ → Tick → Entered
enter_row shut zero R r t = blocked
enter_row shut (suc n) R r t = cond (shut r) blocked (enter_by (R r).kind t (enter_row shut n R (R r).left t) (enter_row shut n R (R r).right t))

-- a row is asked: it is entered, or else left where it can be left at once; a monitor's own row is asked again when it is left
unfoldable mutual
  pub ask_row : (shut : ℕ → Bool) → ℕ → Table → ℕ → Way
  ask_row shut zero R r t = none
  ask_row shut (suc n) R r t = goes_by (enter_row shut n R r t) (leave_row shut n R r t)

  pub leave_row : (shut : ℕ → Bool) → ℕ → Table → ℕ → Way
  leave_row shut zero R r t = none
  leave_row shut (suc n) R r t =
      cond (eqb (R r).up r) (ask_row shut n R r t)
      (leave_by (R (R r).up).kind (eqb r (R (R r).up).left) (ask_row shut n R (R (R r).up).right t) (leave_row shut n R (R r).up t) (ask_row shut n R (R r).up t))

-- The answers to the goals of `rules::letter_rows`.
use native.Mathlib.Omega.{arith}
use Prim.Native.Nat.{ℕ, ◌<◌}
use mathlib.Core.Path.{◌≡◌}
use lib.ListN.{length-replicate}
use lib.Seq.{length-take-le, get_or-take}
use Rattle.rules.proofs.Starting.{none-placed, placed-next, same-places}
use Rattle.rules.proofs.letter_rows.Goals as goal

pub loop-row-init : goal.loop-row-init
loop-row-init c = (omega arith, length-replicate {A = ℕ} 256 0, none-placed _)

pub loop-row-preserved : goal.loop-row-preserved
loop-row-preserved c =
    let i = c.loop-row.invariant in
    let e = c.place_letter-count.ensures in
    let h : c.loop-row.row < c.args.rows = omega arith in
    let g = get_or-take c.args.rows c.args.table.now c.loop-row.row 0 h in
    placed-next _ _ _ _ _ _ _ (omega arith) (rw g) i.2 e.0 e.1 i.0 i.1

pub returns : goal.returns
returns c =
    let e : c.loop-row.row ≡ c.args.rows = omega (arith, length-take-le c.args.rows c.args.table.now (omega arith)) in
    same-places _ _ _ _ _ c.loop-row.invariant.2 e

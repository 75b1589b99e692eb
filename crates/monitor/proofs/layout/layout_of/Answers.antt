-- `monitor::layout::layout_of` meets its contract.
-- Assumes nothing.
use mathlib.Core.Path.{◌∙◌, ap}
use mathlib.Core.List.{List}
use Prim.Native.Nat.{ℕ}
use native.Mathlib.Omega.{arith}
use lib.ListN.{set}
use lib.Seq.{sets}
use Rattle.monitor.proofs.Layouts.{laid_out}
use Rattle.monitor.proofs.layout.layout_of.Goals as goal

pub returns : goal.returns
returns c =
    let a = c.args in
    let l = c.place_bytes.ensures.0
    ∙ ap (λ (l : List ℕ). sets l 320 a.counted.now)
    (c.place_numbers-3.ensures
    ∙ ap (λ (l : List ℕ). sets l 288 a.firsts.now) (c.place_numbers-2.ensures ∙ ap (λ (l : List ℕ). sets l 256 a.own.now) c.place_numbers.ensures)) in
    laid_out a.places.now a.own.now a.firsts.now a.counted.now a.monitors a.letters a.wires a.stores a.rows (omega arith) (omega arith) (omega arith) (omega arith)
    c.place_bytes.ensures.1 _
    (ap (λ (l : List ℕ). set (set (set (set (set l 576 a.monitors) 577 a.letters) 578 a.wires) 579 a.stores) 580 a.rows) l)

-- The answers to the goals of `monitor::positions::monitors_go`.
use Prim.Native.Nat.{ℕ}
use mathlib.Core.Path.{◌≡◌, ◌∙◌, ap}
use native.Mathlib.Omega.{arith}
use Rattle.monitor.proofs.TickSteps.{no-monitor, monitors-more, monitors-stop, monitors-all}
use Rattle.monitor.specs.Letters.{given}
use Rattle.monitor.specs.Ticks.{layout_with, reached}
use Rattle.monitor.proofs.positions.monitors_go.Goals as goal

pub loop-monitor-init : goal.loop-monitor-init
loop-monitor-init c = no-monitor _ _ _ _ _

pub returns-then-not-monitor_goes : goal.returns-then-not-monitor_goes
returns-then-not-monitor_goes c = monitors-stop (given c.args.tick.now.tables.now c.args.tick.now.values.now c.args.tick.now.words) (layout_with c.args.layout.now c.args.monitors c.args.letters) c.args.marks.now _ _ _ _ _ _ (omega arith) c.monitor_goes.ensures c.if-not-monitor_goes.true c.loop-monitor.invariant

pub loop-monitor-preserved : goal.loop-monitor-preserved
loop-monitor-preserved c = c.loop-monitor.invariant ∙ monitors-more (given c.args.tick.now.tables.now c.args.tick.now.values.now c.args.tick.now.words) (layout_with c.args.layout.now c.args.monitors c.args.letters) c.args.marks.now _ _ _ _ _ (omega arith) c.monitor_goes.ensures c.if-not-monitor_goes.false

pub returns : goal.returns
returns c =
    let l = c.loop-monitor in
    let a = c.args in
    let e : a.monitors ≡ l.monitor = omega arith in
    ap (λ (n : ℕ). reached n l.memory) e
    ∙ monitors-all (given a.tick.now.tables.now a.tick.now.values.now a.tick.now.words) (layout_with a.layout.now a.monitors a.letters) a.marks.now _ _ _ _ (omega arith) l.invariant

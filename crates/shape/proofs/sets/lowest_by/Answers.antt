-- The answers to the goals of `shape::sets::lowest_by`.
use mathlib.Core.Path.{◌≡◌, refl, sym, ap, ◌∙◌}
use Prim.Native.Nat.{ℕ, ◌+◌, ◌-◌, ◌≤◌, ◌<◌}
use native.Mathlib.Omega.{arith}
use Rattle.shape.specs.Lowest.{lowest}
use Rattle.shape.proofs.Lowest.{lowest-end, not-before}
use Rattle.shape.proofs.Blocks.{block_here, block-next}
use Rattle.shape.proofs.sets.lowest_by.Goals as goal
use Rattle.shape.proofs.sets.lowest_by.Goals.{else-loop-from-test, then-loop-from-test+in_default+else-end-from-gt64}

pub loop-from-init : goal.loop-from-init
loop-from-init g c = λ test h. refl

pub returns-in-Some : goal.returns-in-Some
returns-in-Some g c =
    let from = c.loop-from.from in
    let stop = from + c.min.result in
    let block : (from < stop) × (stop ≤ from + 64) × (stop ≤ c.args.end) = (omega arith, omega arith, omega arith) in
    let (is, inside) = c.in-Some.ensures in
    λ test h. (block_here test _ _ _ _ block (h _ _ _ c.passing-set.ensures block.1) is inside ∙ c.loop-from.invariant test h, omega arith)

pub loop-from-preserved : goal.loop-from-preserved
loop-from-preserved g c =
    let from = c.loop-from.from in
    let stop = from + c.min.result in
    let end = c.args.end in
    let block : (from < stop) × (stop ≤ from + 64) × (stop ≤ end) = (omega arith, omega arith, omega arith) in
    let next : from + 64 ≡ stop = omega arith in
    λ test h. ap (λ (i : ℕ). lowest test i (end - i)) next ∙ sym (block-next test _ _ _ _ block (h _ _ _ c.passing-set.ensures block.1) refl c.in_default.ensures) ∙ c.loop-from.invariant test h

pub returns : goal.returns
returns g c =
    let from = c.loop-from.from in
    let end = c.args.end in
    elim c.loop-from-test.branch [
      | else-loop-from-test w ↦ λ test h. omega (arith, lowest-end test from end (omega arith), c.loop-from.invariant test h)
      | then-loop-from-test+in_default+else-end-from-gt64 w ↦
          let stop = from + w.min.result in
          let block : (from < stop) × (stop ≤ from + 64) × (stop ≤ end) = (omega arith, omega arith, omega arith) in
          let last : stop ≡ end = omega arith in
          λ test h. omega (
            arith,
            last,
            not-before test stop (end - stop),
            block-next test _ _ _ _ block (h _ _ _ w.passing-set.ensures block.1) refl w.in_default.ensures,
            c.loop-from.invariant test h,
          )
    ]

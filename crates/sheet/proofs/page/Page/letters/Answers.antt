-- The answers to the goals of `sheet::page::Page::letters`.
use Prim.Native.Nat.{ℕ, suc, ◌+◌, ◌-◌}
use mathlib.Core.Path.{◌≡◌, ap}
use native.Mathlib.Omega.{arith}
use Rattle.meaning.specs.Sheet.{met_lines}
use Rattle.monitor.specs.Calls.{stretch}
use Rattle.sheet.proofs.PageSteps.{remains-all, remains-more, remains-none}
use Rattle.sheet.proofs.FootSteps.{lines_more, lines_end, sum_more, sum-end}
use Rattle.sheet.proofs.page.Page.letters.Goals as goal

pub loop-letter-init : goal.loop-letter-init
loop-letter-init c =
    let a = c.args in
    let z : 0 ≡ a.from - a.from = omega arith in
    record {
      lines = remains-all _ _ _ (ap (λ (n : ℕ). met_lines a.monitor n (stretch a.totals.now (a.to - a.from) a.from)) z);
      summed = omega arith;
      few = omega arith;
      place = omega arith;
      small = omega arith;
    }

pub loop-letter-preserved : goal.loop-letter-preserved
loop-letter-preserved c =
    let l = c.loop-letter in
    let a = c.args in
    let t = c.fits-totals l.letter in
    let n = c.from-count.ensures in
    let k : l.letter + 1 - a.from ≡ suc (l.letter - a.from) = omega arith in
    record {
      lines =
          remains-more l.invariant.lines (met_lines a.monitor (l.letter + 1 - a.from) (stretch a.totals.now (a.to - (l.letter + 1)) (l.letter + 1)))
          (lines_more a.totals.now a.to l.letter c.loop-letter-test.true a.monitor (l.letter - a.from) _ k _ n) c.met.ensures.printed;
      summed = sum_more a.totals.now a.to l.letter c.loop-letter-test.true l.sum _ _ n l.invariant.summed;
      few = omega arith;
      place = omega (arith, k);
      small = omega (arith, k, t, n);
    }

pub returns-clause-printed : goal.returns-clause-printed
returns-clause-printed c = let l = c.loop-letter in remains-none l.invariant.lines (lines_end c.args.totals.now c.args.to l.letter c.args.monitor _ c.loop-letter-test.false)

pub returns-clause-summed : goal.returns-clause-summed
returns-clause-summed c = let l = c.loop-letter in sum-end c.args.totals.now c.args.to l.letter l.sum _ c.loop-letter-test.false l.invariant.summed

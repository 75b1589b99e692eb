-- The answers to the goals of `lexer::run_end`.
use mathlib.Core.Path.{sym, ◌∙◌, ap}
use Prim.Native.Nat.{ℕ, ◌+◌}
use native.Mathlib.Omega.{arith}
use lib.ListN.{drop, length-drop}
use Rattle.lexer.proofs.Runs.{rest, run_ends, run-goes, run-stops, run_past, run_length}
use Rattle.lexer.proofs.run_end.Goals as goal

pub loop-i-preserved : goal.loop-i-preserved
loop-i-preserved g c =
    λ test f.
    run-goes test _ _ _ (c.loop-i.invariant test f)
    (rw rest at c.loop-i-test.true)
    (rw rest at (sym (f _ _ c.passes.ensures) ∙ c.if-not-passes.false))

pub returns-then-not-passes-clause-ends : goal.returns-then-not-passes-clause-ends
returns-then-not-passes-clause-ends g c =
    λ test f.
    ap (λ (n : ℕ). c.args.from + n)
    (run_ends test _ _ _ (c.loop-i.invariant test f)
    (run-stops test _ _ (rw rest at c.loop-i-test.true) (rw rest at (sym (f _ _ c.passes.ensures) ∙ c.if-not-passes.true))))

pub returns-clause-ends : goal.returns-clause-ends
returns-clause-ends g c =
    λ test f.
    let past = rw rest at c.loop-i-test.false in
    let e = run_ends test _ _ _ (c.loop-i.invariant test f) (run_past test _ _ past) in
    omega (arith, e, past, length-drop c.args.from c.args.text.now, run_length test (drop c.args.from c.args.text.now), c.requires.from_in_bounds)

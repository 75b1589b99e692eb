-- The answers to the goals of `trace::whole::count_words`.
use native.Mathlib.Omega.{arith}
use Rattle.std.proofs.lemmas.Result.{err_from_is_err_and}
use Rattle.trace.proofs.Passes.{counting-none, counting-word, counting-end, counting-refused}
use Rattle.trace.proofs.whole.count_words.Goals as goal

pub loop-word-init : goal.loop-word-init
loop-word-init c = counting-none _

pub returns-in_err-word : goal.returns-in_err-word
returns-in_err-word c =
    let p = err_from_is_err_and c.from_residual.result c.from_residual.ensures.1 in
    rw (p.1, p.2) (counting-refused _ _ _ _ c.loop-word.invariant _ _ c.in_err-word.ensures)

pub loop-word-preserved : goal.loop-word-preserved
loop-word-preserved c =
    counting-word _ _ _ _ c.loop-word.invariant _ _ (rw c.in-Some.is at c.in_ok-word.ensures)

pub overflow_add-at : goal.overflow_add-at
overflow_add-at c = omega (arith, (loop-word-preserved c).within)

pub loop-word-smaller : goal.loop-word-smaller
loop-word-smaller c = omega (arith, (loop-word-preserved c).slow, (loop-word-preserved c).within)

pub returns : goal.returns
returns c = counting-end _ _ _ _ c.loop-word.invariant (rw c.in_default.is at c.in_ok-word.ensures)

-- The answers to the goals of `sheet::page::store_word`.
use borrow.Author.Rules.{rules}
use Prim.Native.Nat.{◌+◌, ◌-◌, ◌*◌}
use mathlib.Core.Path.{refl}
use native.Mathlib.Omega.{arith}
use Rattle.sheet.proofs.PageSteps.{word-fits, word-pair, word_end}
use Rattle.sheet.proofs.page.store_word.Goals as goal

pub overflow_cast-line-in-loop-k : goal.overflow_cast-line-in-loop-k
overflow_cast-line-in-loop-k c =
    let h = word-fits c.args.word c.loop-k.k _ _ c.loop-k-test.true refl (c.requires _ (omega arith)) in
    search rules

pub loop-k-preserved : goal.loop-k-preserved
loop-k-preserved c =
    word-pair c.args.word c.loop-k.k _ _ c.loop-k-test.true refl (c.requires _ (omega arith)) c.args.line.now c.loop-k.line c.loop-k.invariant

pub returns : goal.returns
returns c =
    let l = c.loop-k in
    word_end c.args.line.now l.line 21 (21 + 2 * l.k) (16 - 2 * l.k) c.args.word (omega arith) l.invariant

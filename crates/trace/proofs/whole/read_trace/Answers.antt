-- `trace::whole::read_trace` meets its contract. Assumes nothing.
use mathlib.Core.Path.{refl, sym}
use lib.Seq.{length-take-le}
use Rattle.std.proofs.lemmas.Result.{err_from_is_err_and}
use Rattle.trace.proofs.Lending.{words-refused, words-short, words-fit}
use Rattle.trace.proofs.whole.read_trace.Goals as goal

pub returns-in_err-n : goal.returns-in_err-n
returns-in_err-n c =
    let p = err_from_is_err_and c.from_residual.result c.from_residual.ensures.1 in
    rw (p.1, p.2) (words-refused _ _ _ _ c.in_err-n.ensures)

pub returns-then-words-n : goal.returns-then-words-n
returns-then-words-n c = words-short _ _ _ c.in_ok-n.ensures c.if-words-n.true

pub fill-requires : goal.fill-requires
fill-requires c = rw (length-take-le _ _ c.if-words-n.false) (sym c.in_ok-n.ensures)

pub returns : goal.returns
returns c = words-fit _ _ _ _ _ c.in_ok-n.ensures c.if-words-n.false c.fill.ensures refl

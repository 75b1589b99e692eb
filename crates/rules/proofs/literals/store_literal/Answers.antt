-- `rules::literals::store_literal` meets its contract.
-- Assumes nothing.
use native.Mathlib.Omega.{arith}
use mathlib.Core.Path.{refl}
use Rattle.rules.proofs.Misreads.{exit, some}
use Rattle.rules.proofs.Stepping.{behind-past}
use Rattle.rules.proofs.LiteralSteps.{link-room, store-no-sign, store-no-number, store-read}
use Rattle.rules.proofs.literals.store_literal.Goals as goal

pub returns-in_err-equals : goal.returns-in_err-equals
returns-in_err-equals c = rw (exit _ c.from_residual.ensures.1) (λ most room. store-no-sign _ _ _ _ _ _ _ _ _ _ c.in_err-equals.ensures most (some _))

pub returns-in_err-v : goal.returns-in_err-v
returns-in_err-v c = rw (exit _ c.from_residual-in_err-v.ensures.1) (λ most room. store-no-number _ _ _ _ _ _ _ _ _ _ c.in_ok-equals.ensures most refl _ _ _ _ _ c.largest.ensures c.in_err-v.ensures (some _))

pub with_link-t-requires : goal.with_link-t-requires
with_link-t-requires c =
    let p = behind-past _ _ _ _ _ c.in_ok-equals.ensures refl in
    let (a, b, e, d) = link-room c.requires.0 _ p.0 p.1 in
    (a, b, e, d, omega arith, omega arith, omega arith)

pub returns : goal.returns
returns c = λ most room. store-read _ _ _ _ _ _ _ _ _ _ c.in_ok-equals.ensures most refl _ _ _ _ _ c.largest.ensures c.in_ok-v.ensures refl room _ _ _ _ c.with_link-t.ensures

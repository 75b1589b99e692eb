-- `rules::definitions::production` meets its contract.
-- Assumes nothing.
use native.Mathlib.Omega.{arith}
use mathlib.Core.Path.{refl}
use Rattle.rules.proofs.Misreads.{exit, some}
use Rattle.rules.proofs.Declaring.{ready-names}
use Rattle.rules.proofs.Defining.{body-given, cell_room, no-begin, no_body, no_end, definition-read}
use Rattle.rules.proofs.Bodies.{expression-read, production-begins, production-declares}
use Rattle.rules.proofs.definitions.production.Goals as goal

pub begun-requires : goal.begun-requires
begun-requires c = ready-names c.requires.0.1

pub returns-in_err-name : goal.returns-in_err-name
returns-in_err-name c = rw (exit _ c.from_residual.ensures.1) (λ S. no-begin _ _ _ _ _ _ _ _ _ c.in_err-name.ensures _ S _ _ (production-begins _ _ c.requires.1) (some _))

pub expression-requires : goal.expression-requires
expression-requires c = (body-given _ _ _ _ _ _ _ _ _ c.in_ok-name.ensures refl _ _ c.requires.0.1, omega arith)

pub returns-in_err-e : goal.returns-in_err-e
returns-in_err-e c = rw (exit _ c.from_residual-in_err-e.ensures.1) (λ S. no_body _ _ _ _ _ _ _ _ _ c.in_ok-name.ensures _ S _ _ (production-begins _ _ c.requires.1) refl _ _ _ _ _ _ _ (expression-read _ _ _ _ _ _ _ c.in_err-e.ensures) (some _))

pub returns-in_err-end : goal.returns-in_err-end
returns-in_err-end c = rw (exit _ c.from_residual-in_err-end.ensures.1) (λ S. no_end _ _ _ _ _ _ _ _ _ c.in_ok-name.ensures _ S _ _ (production-begins _ _ c.requires.1) refl _ _ _ _ _ _ _ (expression-read _ _ _ _ _ _ _ c.in_ok-e.ensures) refl _ _ c.in_err-end.ensures (some _))

pub write_numbered-cell-requires : goal.write_numbered-cell-requires
write_numbered-cell-requires c = let (a, b, d, e, f, g, h) = cell_room _ _ _ _ _ _ _ _ _ c.in_ok-name.ensures refl _ _ c.requires.0.1 _ _ _ _ _ _ _ _ (expression-read _ _ _ _ _ _ _ c.in_ok-e.ensures) refl _ _ c.in_ok-end.ensures refl in (a, b, d, e, f, omega arith, g)

pub overflow_add-result : goal.overflow_add-result
overflow_add-result c = let (a, b, d, e, f, g, h) = cell_room _ _ _ _ _ _ _ _ _ c.in_ok-name.ensures refl _ _ c.requires.0.1 _ _ _ _ _ _ _ _ (expression-read _ _ _ _ _ _ _ c.in_ok-e.ensures) refl _ _ c.in_ok-end.ensures refl in omega (arith, c.write_numbered-cell.ensures.few)

pub overflow_add-result-2 : goal.overflow_add-result-2
overflow_add-result-2 c = let (a, b, d, e, f, g, h) = cell_room _ _ _ _ _ _ _ _ _ c.in_ok-name.ensures refl _ _ c.requires.0.1 _ _ _ _ _ _ _ _ (expression-read _ _ _ _ _ _ _ c.in_ok-e.ensures) refl _ _ c.in_ok-end.ensures refl in omega arith

pub returns : goal.returns
returns c = λ S. definition-read _ _ _ _ _ _ _ _ _ c.in_ok-name.ensures _ S _ _ (production-begins _ _ c.requires.1) refl _ _ _ _ _ _ _ (expression-read _ _ _ _ _ _ _ c.in_ok-e.ensures) refl _ _ c.in_ok-end.ensures refl c.requires.0.1.room.some _ 3 (omega arith) _ (production-declares _) _ c.write_numbered-cell.ensures

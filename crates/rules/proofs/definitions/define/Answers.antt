-- `rules::definitions::define` meets its contract.
-- Assumes nothing.
use native.Mathlib.Omega.{arith}
use mathlib.Core.Path.{refl}
use Rattle.rules.proofs.Misreads.{exit, some}
use Rattle.rules.proofs.Declaring.{ready-names}
use Rattle.rules.proofs.Defining.{body-given, cell_room, no-begin, no_body, no_end, definition-read}
use Rattle.meaning.specs.Names.{a_define}
use Rattle.rules.proofs.Bodies.{define-begins, define-declares}
use Rattle.rules.proofs.definitions.define.Goals as goal

pub begun-requires : goal.begun-requires
begun-requires c = ready-names c.requires.1

pub returns-in_err-name : goal.returns-in_err-name
returns-in_err-name c = rw (exit _ c.from_residual.ensures.1) (λ S. no-begin _ _ _ _ _ _ _ _ _ c.in_err-name.ensures _ S _ _ (define-begins _ _) (some _))

pub all_literals-requires : goal.all_literals-requires
all_literals-requires c = body-given _ _ _ _ _ _ _ _ _ c.in_ok-name.ensures refl _ _ c.requires.1

pub returns-in_err-l : goal.returns-in_err-l
returns-in_err-l c = rw (exit _ c.from_residual-in_err-l.ensures.1) (λ S. no_body _ _ _ _ _ _ _ _ _ c.in_ok-name.ensures _ S _ _ (define-begins _ _) refl _ _ _ _ _ _ _ c.in_err-l.ensures (some _))

pub returns-in_err-end : goal.returns-in_err-end
returns-in_err-end c = rw (exit _ c.from_residual-in_err-end.ensures.1) (λ S. no_end _ _ _ _ _ _ _ _ _ c.in_ok-name.ensures _ S _ _ (define-begins _ _) refl _ _ _ _ _ _ _ c.in_ok-l.ensures refl _ _ c.in_err-end.ensures (some _))

pub write_define-requires : goal.write_define-requires
write_define-requires c = let (a, b, d, e, f, g, h) = cell_room _ _ _ _ _ _ _ _ _ c.in_ok-name.ensures refl _ _ c.requires.1 _ _ _ _ _ _ _ _ c.in_ok-l.ensures refl _ _ c.in_ok-end.ensures refl in (omega arith, b, d, e, f, g)

pub overflow_add-result : goal.overflow_add-result
overflow_add-result c = let (a, b, d, e, f, g, h) = cell_room _ _ _ _ _ _ _ _ _ c.in_ok-name.ensures refl _ _ c.requires.1 _ _ _ _ _ _ _ _ c.in_ok-l.ensures refl _ _ c.in_ok-end.ensures refl in omega arith

pub overflow_add-result-2 : goal.overflow_add-result-2
overflow_add-result-2 c = let (a, b, d, e, f, g, h) = cell_room _ _ _ _ _ _ _ _ _ c.in_ok-name.ensures refl _ _ c.requires.1 _ _ _ _ _ _ _ _ c.in_ok-l.ensures refl _ _ c.in_ok-end.ensures refl in omega arith

pub returns : goal.returns
returns c = λ S. definition-read _ _ _ _ _ _ _ _ _ c.in_ok-name.ensures _ S _ _ (define-begins _ _) refl _ _ _ _ _ _ _ c.in_ok-l.ensures refl _ _ c.in_ok-end.ensures refl c.requires.1.room.some _ 4 (omega arith) a_define (define-declares _) _ c.write_define.ensures

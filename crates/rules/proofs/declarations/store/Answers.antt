-- `rules::declarations::store` meets its contract.
-- Assumes nothing.
use native.Mathlib.Omega.{arith}
use mathlib.Core.Path.{refl}
use Rattle.rules.proofs.Misreads.{exit, some}
use Rattle.rules.proofs.NewNames.{name-read}
use Rattle.rules.proofs.Widths.{width_is}
use Rattle.rules.proofs.Declaring.{ready-names, name-room, stores-left, store-no-name, store-no-width, store-no-first, store-no-end, store-read}
use Rattle.rules.proofs.declarations.store.Goals as goal

pub new_name-requires : goal.new_name-requires
new_name-requires c = ready-names c.requires

pub returns-in_err-name : goal.returns-in_err-name
returns-in_err-name c = rw (exit _ c.from_residual.ensures.1) (store-no-name _ _ _ _ _ _ _ c.in_err-name.ensures _ _ (some _))

pub returns-in_err-wide : goal.returns-in_err-wide
returns-in_err-wide c = rw (exit _ c.from_residual-in_err-wide.ensures.1) (store-no-width _ _ _ _ _ _ _ c.in_ok-name.ensures _ _ refl _ _ _ c.in_err-wide.ensures (some _))

pub largest-requires : goal.largest-requires
largest-requires c = let w = width_is _ _ _ _ _ _ _ c.in_ok-wide.ensures refl in omega arith

pub returns-in_err-first : goal.returns-in_err-first
returns-in_err-first c = rw (exit _ c.from_residual-in_err-first.ensures.1) (store-no-first _ _ _ _ _ _ _ c.in_ok-name.ensures _ _ refl _ _ _ c.in_ok-wide.ensures refl _ _ _ _ _ c.largest.ensures c.in_err-first.ensures (some _))

pub returns-in_err-end : goal.returns-in_err-end
returns-in_err-end c = rw (exit _ c.from_residual-in_err-end.ensures.1) (store-no-end _ _ _ _ _ _ _ c.in_ok-name.ensures _ _ refl _ _ _ c.in_ok-wide.ensures refl _ _ _ _ _ c.largest.ensures c.in_ok-first.ensures refl _ _ c.in_err-end.ensures (some _))

pub offset_bounds-kept-stores : goal.offset_bounds-kept-stores
offset_bounds-kept-stores c = let l = stores-left _ _ _ _ _ _ _ c.in_ok-name.ensures refl in omega arith

pub bounds-kept-stores : goal.bounds-kept-stores
bounds-kept-stores c = let l = stores-left _ _ _ _ _ _ _ c.in_ok-name.ensures refl in omega arith

pub overflow_sub-name : goal.overflow_sub-name
overflow_sub-name c = let m = name-read _ _ _ _ _ _ _ _ _ c.in_ok-name.ensures refl in omega arith

pub write_name-requires : goal.write_name-requires
write_name-requires c = let m = name-read _ _ _ _ _ _ _ _ _ c.in_ok-name.ensures refl in let w = width_is _ _ _ _ _ _ _ c.in_ok-wide.ensures refl in let l = stores-left _ _ _ _ _ _ _ c.in_ok-name.ensures refl in let (a, b, d, e, f) = name-room c.requires _ _ _ _ m in (a, d, e, f, omega arith, omega arith)

pub overflow_add-result-2 : goal.overflow_add-result-2
overflow_add-result-2 c = let l = stores-left _ _ _ _ _ _ _ c.in_ok-name.ensures refl in omega arith

pub returns : goal.returns
returns c = store-read _ _ _ _ _ _ _ c.in_ok-name.ensures _ _ refl _ _ _ c.in_ok-wide.ensures refl _ _ _ _ _ c.largest.ensures c.in_ok-first.ensures refl _ _ c.in_ok-end.ensures refl c.requires.room c.requires.values _ c.write_name.ensures

-- `rules::declarations::input` meets its contract.
-- Assumes nothing.
use native.Mathlib.Omega.{arith}
use mathlib.Core.Path.{refl}
use Rattle.rules.proofs.Misreads.{exit, some}
use Rattle.rules.proofs.NewNames.{name-read}
use Rattle.rules.proofs.Widths.{width_is}
use Rattle.rules.proofs.Declaring.{ready-names, name-room, wires-left, input-no-name, input-no-width, input-read}
use Rattle.rules.proofs.declarations.input.Goals as goal

pub new_name-requires : goal.new_name-requires
new_name-requires c = ready-names c.requires.1

pub returns-in_err-name : goal.returns-in_err-name
returns-in_err-name c = rw (exit _ c.from_residual.ensures.1) (λ S. input-no-name _ _ _ _ _ _ _ c.in_err-name.ensures _ S (some _))

pub width_to-requires : goal.width_to-requires
width_to-requires c = let l = wires-left _ _ _ _ _ _ _ c.in_ok-name.ensures refl in (omega arith, omega arith)

pub returns-in_err-wide : goal.returns-in_err-wide
returns-in_err-wide c = rw (exit _ c.from_residual-in_err-wide.ensures.1) (λ S. input-no-width _ _ _ _ _ _ _ c.in_ok-name.ensures _ S refl _ _ _ c.in_err-wide.ensures (some _))

pub overflow_sub-name : goal.overflow_sub-name
overflow_sub-name c = let m = name-read _ _ _ _ _ _ _ _ _ c.in_ok-name.ensures refl in omega arith

pub write_name-requires : goal.write_name-requires
write_name-requires c = let m = name-read _ _ _ _ _ _ _ _ _ c.in_ok-name.ensures refl in let w = width_is _ _ _ _ _ _ _ c.in_ok-wide.ensures refl in let l = wires-left _ _ _ _ _ _ _ c.in_ok-name.ensures refl in let (a, b, d, e, f) = name-room c.requires.1 _ _ _ _ m in (a, d, e, f, omega arith, omega arith)

pub overflow_add-result : goal.overflow_add-result
overflow_add-result c = let m = name-read _ _ _ _ _ _ _ _ _ c.in_ok-name.ensures refl in let (a, b, d, e, f) = name-room c.requires.1 _ _ _ _ m in omega arith

pub overflow_add-result-2 : goal.overflow_add-result-2
overflow_add-result-2 c = let m = name-read _ _ _ _ _ _ _ _ _ c.in_ok-name.ensures refl in omega arith

pub overflow_add-result-3 : goal.overflow_add-result-3
overflow_add-result-3 c = let w = width_is _ _ _ _ _ _ _ c.in_ok-wide.ensures refl in let l = wires-left _ _ _ _ _ _ _ c.in_ok-name.ensures refl in omega arith

pub returns : goal.returns
returns c = λ S. input-read _ _ _ _ _ _ _ c.in_ok-name.ensures _ S refl _ _ _ c.in_ok-wide.ensures refl c.requires.1.room _ c.write_name.ensures

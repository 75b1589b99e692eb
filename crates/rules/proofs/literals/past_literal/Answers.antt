-- `rules::literals::past_literal` meets its contract.
-- Assumes nothing.
use mathlib.Core.Path.{sym, ◌∙◌, ap, ap₂}
use Prim.Native.Nat.{ℕ, ◌*◌, ◌^◌}
use native.Mathlib.Omega.{arith}
use borrow.Author.Rules.{rules}
use lib.Bits.{bit_or}
use lib.Pow.{pow_pos}
use mathlib.Core.Path.{refl}
use Rattle.rules.proofs.Misreads.{exit, some}
use Rattle.rules.proofs.Put.{put-extends, put-at}
use Rattle.rules.proofs.LiteralSteps.{past-no-paren, past-other, past_open, past-read, past_room}
use Rattle.rules.proofs.literals.past_literal.Goals as goal

pub returns-in_err-open : goal.returns-in_err-open
returns-in_err-open c = rw (exit _ c.from_residual.ensures.1) (λ most. past-no-paren _ _ _ _ _ _ _ _ _ _ _ c.in_err-open.ensures most (some _))

pub is_name-requires : goal.is_name-requires
is_name-requires c = ((_, c.see-t.ensures), c.requires.3, c.requires.4)

pub returns-then-not-is_name : goal.returns-then-not-is_name
returns-then-not-is_name c = rw (c.misplaced.ensures.0, c.misplaced.ensures.1) (λ most. past-other _ _ _ _ _ _ _ _ _ _ _ c.in_ok-open.ensures most refl _ c.see-t.ensures (sym c.is_name.ensures ∙ search rules))

pub returns-in_err-close : goal.returns-in_err-close
returns-in_err-close c = rw (exit _ c.from_residual-in_err-close.ensures.1) (λ most. past_open _ _ _ _ _ _ _ _ _ _ _ c.in_ok-open.ensures most refl _ c.see-t.ensures (sym c.is_name.ensures ∙ search rules) _ _ c.in_err-close.ensures (some _))

pub held_at-requires : goal.held_at-requires
held_at-requires c =
    let (ls, k) = c.requires.0.condition in
    let r = c.requires.0.room in
    omega (arith, k.helds.low, r.fits, r.inside)

pub largest-requires : goal.largest-requires
largest-requires c = omega (arith, c.requires.2)

pub moved-requires : goal.moved-requires
moved-requires c = (let o = pow_pos c.args.width in omega (arith, c.largest.ensures), c.requires.2, c.requires.1)

pub offset_bounds-words-free : goal.offset_bounds-words-free
offset_bounds-words-free c = let r = c.requires.0.room in omega (arith, r.small, past_room _ _ c.in_ok-open.ensures refl c.requires.0)

pub bounds-words-free : goal.bounds-words-free
bounds-words-free c = past_room _ _ c.in_ok-open.ensures refl c.requires.0

pub overflow_add-result : goal.overflow_add-result
overflow_add-result c = let r = c.requires.0.room in omega (arith, r.small, past_room _ _ c.in_ok-open.ensures refl c.requires.0)

pub returns : goal.returns
returns c =
    λ most.
    let room = past_room _ _ c.in_ok-open.ensures refl c.requires.0 in
    past-read _ _ _ _ _ _ _ _ _ _ _ c.in_ok-open.ensures most refl _ c.see-t.ensures (sym c.is_name.ensures ∙ search rules) _ _ c.in_ok-close.ensures
    refl c.requires.2 c.requires.0.room.some _ (put-extends _ _ _ room)
    (put-at c.args.words.now c.args.free _ room ∙ ap₂ bit_or c.held_at.ensures (c.moved.ensures ∙ ap (λ (n : ℕ). n * 2 ^ c.args.lo) c.largest.ensures))

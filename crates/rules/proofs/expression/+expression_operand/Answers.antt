-- `rules::expression::+expression_operand` meets its contract.
-- Assumes nothing.
use borrow.Author.Rules.{rules}
use native.Mathlib.Omega.{arith}
use mathlib.Core.Path.{refl}
use Rattle.rules.proofs.Misreads.{exit, some, past-ok}
use Rattle.rules.proofs.Stepping.{since, inside-text}
use Rattle.rules.proofs.Expressing.{whole-again, turned-at, operand-from, named-on, operand-simple, operand-deep, inner-given, operand-fails, operand-closed, loop-start, operand-given, whole-fails, star-given, turn-given, loop-long, loop-on, whole-ends}
use Rattle.rules.proofs.expression.+expression_operand.Goals as goal

pub expression-loop-p-init : goal.expression-loop-p-init
expression-loop-p-init t c = loop-start _ _ _ _ _ _ c.requires.0 _ c.no_level-level.ensures

pub expression-operand-requires : goal.expression-operand-requires
expression-operand-requires t c = (omega (arith, c.decreases), (operand-given _ _ _ _ _ _ c.requires.0 _ _ _ _ c.loop-p.invariant, c.requires.1))

pub expression-shape_of-words-in_err-p : goal.expression-shape_of-words-in_err-p
expression-shape_of-words-in_err-p t c = (whole-fails _ _ _ _ _ _ c.requires.0 _ _ _ _ c.loop-p.invariant _ _ c.in_err-p.ensures (some _)).task.long

pub expression-returns-in_err-p : goal.expression-returns-in_err-p
expression-returns-in_err-p t c = rw (exit _ c.from_residual.ensures.1) (whole-again _ _ _ _ _ _ _ _ _ (some _) (whole-fails _ _ _ _ _ _ c.requires.0 _ _ _ _ c.loop-p.invariant _ _ c.in_err-p.ensures (some _)) refl refl)

pub expression-with_star-s-requires : goal.expression-with_star-s-requires
expression-with_star-s-requires t c = star-given _ _ _ _ _ _ c.requires.0 _ _ _ _ c.loop-p.invariant _ _ c.in_ok-p.ensures refl

pub expression-behind_operand-requires : goal.expression-behind_operand-requires
expression-behind_operand-requires t c = turn-given _ _ _ _ _ _ c.requires.0 _ _ _ _ c.loop-p.invariant _ _ c.in_ok-p.ensures refl _ _ c.with_star-s.ensures

pub expression-shape_of-words-in_err-further : goal.expression-shape_of-words-in_err-further
expression-shape_of-words-in_err-further t c = loop-long _ _ _ _ _ _ c.requires.0 _ _ _ _ c.loop-p.invariant _ _ c.in_ok-p.ensures refl _ _ c.with_star-s.ensures _ _ c.in_err-further.ensures

pub expression-returns-in_err-further : goal.expression-returns-in_err-further
expression-returns-in_err-further t c = rw (exit _ c.from_residual-in_err-further.ensures.1) (whole-again _ _ _ _ _ _ _ _ _ (some _) (whole-ends _ _ _ _ _ _ c.requires.0 _ _ _ _ c.loop-p.invariant _ _ c.in_ok-p.ensures refl _ _ c.with_star-s.ensures _ _ c.in_err-further.ensures refl) refl refl)

pub expression-shape_of-words-in-Done : goal.expression-shape_of-words-in-Done
expression-shape_of-words-in-Done t c = loop-long _ _ _ _ _ _ c.requires.0 _ _ _ _ c.loop-p.invariant _ _ c.in_ok-p.ensures refl _ _ c.with_star-s.ensures _ _ (turned-at _ _ _ _ c.with_star-s.result.free _ _ c.loop-p.level _ _ _ c.in-Done.is c.in_ok-further.ensures)

pub expression-returns-in-Done : goal.expression-returns-in-Done
expression-returns-in-Done t c = whole-ends _ _ _ _ _ _ c.requires.0 _ _ _ _ c.loop-p.invariant _ _ c.in_ok-p.ensures refl _ _ c.with_star-s.ensures _ _ (turned-at _ _ _ _ c.with_star-s.result.free _ _ c.loop-p.level _ _ _ c.in-Done.is c.in_ok-further.ensures) refl

pub expression-loop-p-smaller : goal.expression-loop-p-smaller
expression-loop-p-smaller t c = let (l, m, n) = loop-on _ _ _ _ _ _ c.requires.0 _ _ _ _ c.loop-p.invariant _ _ c.in_ok-p.ensures refl _ _ c.with_star-s.ensures _ _ (turned-at _ _ _ _ c.with_star-s.result.free _ _ c.loop-p.level _ _ _ c.in-On.is c.in_ok-further.ensures) refl in omega (arith, m, n)

pub expression-loop-p-preserved : goal.expression-loop-p-preserved
expression-loop-p-preserved t c = (loop-on _ _ _ _ _ _ c.requires.0 _ _ _ _ c.loop-p.invariant _ _ c.in_ok-p.ensures refl _ _ c.with_star-s.ensures _ _ (turned-at _ _ _ _ c.with_star-s.result.free _ _ c.loop-p.level _ _ _ c.in-On.is c.in_ok-further.ensures) refl).0

pub operand-simple_operand-requires : goal.operand-simple_operand-requires
operand-simple_operand-requires t c = (named-on c.requires.0 (since _ _ _ c.see-t.ensures c.requires.0.room.inside) (let p = inside-text _ _ _ c.see-t.ensures in omega arith), (_, c.see-t.ensures), (search rules))

pub operand-shape_of-words-then-ne : goal.operand-shape_of-words-then-ne
operand-shape_of-words-then-ne t c = c.simple_operand.ensures.0.long

pub operand-returns-then-ne : goal.operand-returns-then-ne
operand-returns-then-ne t c = operand-simple _ _ _ _ _ _ _ c.see-t.ensures c.requires.0 _ _ (c.simple_operand.ensures.0, past-ok _ _ _ c.simple_operand.ensures.1)

pub operand-returns-then-levels-eq0 : goal.operand-returns-then-levels-eq0
operand-returns-then-levels-eq0 t c = rw (c.refused.ensures.0, c.refused.ensures.1) (operand-deep _ _ _ _ _ _ _ c.see-t.ensures c.requires.0 (search rules) c.if-levels-eq0.true _)

pub operand-expression-requires : goal.operand-expression-requires
operand-expression-requires t c = (omega (arith, c.decreases), (inner-given _ _ _ _ _ _ _ c.see-t.ensures c.requires.0 (search rules) c.if-levels-eq0.false, omega arith))

pub operand-shape_of-words-in_err-e : goal.operand-shape_of-words-in_err-e
operand-shape_of-words-in_err-e t c = c.in_err-e.ensures.task.long

pub operand-returns-in_err-e : goal.operand-returns-in_err-e
operand-returns-in_err-e t c = rw (exit _ c.from_residual.ensures.1) (operand-fails _ _ _ _ _ _ _ c.see-t.ensures c.requires.0 (search rules) c.if-levels-eq0.false _ _ c.in_err-e.ensures (some _))

pub operand-shape_of-words : goal.operand-shape_of-words
operand-shape_of-words t c = c.in_ok-e.ensures.task.long

pub operand-returns : goal.operand-returns
operand-returns t c = operand-from _ _ _ _ _ _ _ _ _ _ (operand-closed _ _ _ _ _ _ _ c.see-t.ensures c.requires.0 (search rules) c.if-levels-eq0.false _ _ c.in_ok-e.ensures refl _ c.closed.ensures)

-- The answers to the goals of `rules::statements::statements`.
use borrow.Author.Rules.{rules}
use mathlib.Core.Path.{refl, ◌∙◌}
use Rattle.rules.proofs.Misreads.{exit, some}
use Rattle.rules.proofs.StatementSteps.{declared-none, declared-ready, declared-monitor, declared-refused, declared-next, declared-less}
use Rattle.rules.proofs.statements.statements.Goals as goal

pub loop-t-init : goal.loop-t-init
loop-t-init c = (refl, refl, declared-none _ _ _ c.requires.1 c.requires.2)

pub shape_of-words-then-eq : goal.shape_of-words-then-eq
shape_of-words-then-eq c = c.loop-t.invariant.0

pub returns-then-eq : goal.returns-then-eq
returns-then-eq c = record { words = c.loop-t.invariant.0; values = c.loop-t.invariant.1; outcome = declared-monitor _ _ _ _ c.loop-t.invariant.2 _ c.see-t.ensures (search rules) }

pub one_statement-requires : goal.one_statement-requires
one_statement-requires c = (declared-ready _ _ _ _ c.loop-t.invariant.2 c.requires.0 (c.loop-t.invariant.1 ∙ c.requires.3), c.see-t.ensures, (search rules))

pub shape_of-words-in_err-d : goal.shape_of-words-in_err-d
shape_of-words-in_err-d c = c.in_err-d.ensures.words ∙ c.loop-t.invariant.0

pub returns-in_err-d : goal.returns-in_err-d
returns-in_err-d c =
    rw (exit _ c.from_residual.ensures.1) (record {
      words = c.in_err-d.ensures.words ∙ c.loop-t.invariant.0;
      values = c.in_err-d.ensures.values ∙ c.loop-t.invariant.1;
      outcome = declared-refused _ _ _ _ c.loop-t.invariant.2 _ _ _ c.in_err-d.ensures (some _);
    })

pub loop-t-smaller : goal.loop-t-smaller
loop-t-smaller c = declared-less _ _ _ _ c.loop-t.invariant.2 _ _ _ c.in_ok-d.ensures

pub loop-t-preserved : goal.loop-t-preserved
loop-t-preserved c = (c.in_ok-d.ensures.words ∙ c.loop-t.invariant.0, c.in_ok-d.ensures.values ∙ c.loop-t.invariant.1, declared-next _ _ _ _ c.loop-t.invariant.2 _ _ _ c.in_ok-d.ensures)

-- `rules::literals::is_name` meets its contract.
-- Assumes nothing.
use borrow.Author.Rules.{rules}
use mathlib.Core.Path.{◌≡◌, ◌∙◌, ap}
use Rattle.lexer.specs.declared.Kind.TheVariants as kind
use Rattle.rules.specs.Seen.{is_name}
use Rattle.rules.proofs.Stepping.{inside-text, no-name-false}
use Rattle.rules.proofs.literals.is_name.Goals as goal

pub returns-then-ne : goal.returns-then-ne
returns-then-ne c = rw (no-name-false c.args.t.kind (search rules))

pub slice_bounds-equal-count : goal.slice_bounds-equal-count
slice_bounds-equal-count c = (inside-text _ _ _ c.requires.0.1).0

pub slice_bounds-equal-start : goal.slice_bounds-equal-start
slice_bounds-equal-start c = (inside-text _ _ _ c.requires.0.1).0

pub slice_bounds-equal-end : goal.slice_bounds-equal-end
slice_bounds-equal-end c = (inside-text _ _ _ c.requires.0.1).1

pub returns : goal.returns
returns c = let q : c.args.t.kind ≡ kind.Name = search rules in c.equal.ensures ∙ rw (ap is_name q)

-- The two rules' answers one after the other. Assumes nothing.
use mathlib.Core.List.{List}
use mathlib.Core.Path.{◌≡◌, sym, ◌∙◌}
use Rattle.std.specs.Prelude.{Ok, Err}
use Prim.Native.Nat.{ℕ, ◌-◌, ◌≤◌, ◌<◌}
use borrow.Author.Tests.{lt-ltb, le-ltb}
use Rattle.refusals.specs.Numbers.{open_end, fork}
use Rattle.meaning.specs.ShapeTests.{Shape, accepted, turned_away}
use Rattle.shape.specs.Ends.{open_at}
use Rattle.shape.specs.Sides.{fork_at}
use Rattle.shape.specs.Lowest.{lowest}
use Rattle.shape.specs.Judge.{or_rest, judge_of, shown_judged}
use Rattle.shape.specs.declared.Fault.TheVariants.{OpenEnd, Fork}

module _ (first end rule : ℕ) {a x : ℕ} (rest : Shape) (is : a ≡ x) where
  at-fault : a < end → or_rest first end rule x rest ≡ turned_away rule (a - first)
  at-fault h = rw (← is, lt-ltb a end h)

  at_rest : end ≤ a → or_rest first end rule x rest ≡ rest
  at_rest h = rw (← is, le-ltb a end h)

module _ (kind left right look want : List ℕ) (row first end : ℕ) {a : ℕ} (is-a : a ≡ lowest (open_at kind left right row) first (end - first)) where
  pub judge-open : a < end → shown_judged (Err (OpenEnd (a - first))) ≡ judge_of kind left right look want row first end
  unfolding judge_of
  judge-open h = sym (at-fault first end open_end _ is-a h)

  module _ {b : ℕ} (none : end ≤ a) (is_b : b ≡ lowest (fork_at kind left right look want row) first (end - first)) where
    pub judge-fork : b < end → shown_judged (Err (Fork (b - first))) ≡ judge_of kind left right look want row first end
    unfolding judge_of
    judge-fork h = sym (at_rest first end open_end _ is-a none ∙ at-fault first end fork accepted is_b h)

    pub judge-fine : end ≤ b → shown_judged (Ok tt) ≡ judge_of kind left right look want row first end
    unfolding judge_of
    judge-fine h = sym (at_rest first end open_end _ is-a none ∙ at_rest first end fork accepted is_b h)
